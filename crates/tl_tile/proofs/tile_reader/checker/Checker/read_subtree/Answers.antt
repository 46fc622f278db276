use Rattle.std.proofs.Common.{arith}
use Rattle.std.proofs.lemmas.Grind.{common_steps}
use Rattle.tl_tile.proofs.Reading.{first_below, first_small}
use Rattle.tl_tile.proofs.tile_reader.checker.Checker.read_subtree.Goals as goal

pub overflow_mul-first : goal.overflow_mul-first
overflow_mul-first g c = omega (arith, first_small c.args.self.now.size c.args.subtree c.pow-count.result c.pow-count.ensures c.requires.within c.requires.size)

pub fetch_with-requires-clause-place : goal.fetch_with-requires-clause-place
fetch_with-requires-clause-place g c = first_below c.args.self.now.size c.args.subtree c.pow-count.result c.pow-count.ensures c.requires.within

pub returns-clause-adds : goal.returns-clause-adds
returns-clause-adds g c = grind (arith, common_steps)

pub subtree_hash-requires-clause-first : goal.subtree_hash-requires-clause-first
subtree_hash-requires-clause-first g c = grind (arith, common_steps)
