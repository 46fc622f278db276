use Rattle.std.proofs.Common.{arith}
use Rattle.std.proofs.lemmas.Grind.{common_steps}
use Rattle.tl_proof.specs.Acceptance.{step_of}
use Rattle.tl_witness.proofs.SharedLaws.{part_all, part_most}
use Rattle.tl_witness.proofs.guarded.part_of.Goals as goal

pub returns-then-most-count : goal.returns-then-most-count
returns-then-most-count g c = part_all step_of c.args.from c.args.most c.args.links.now c.if-most-count.true

pub returns : goal.returns
returns g c = part_most step_of c.args.from c.args.most c.args.links.now

pub returns-then-from-count : goal.returns-then-from-count
returns-then-from-count g c = grind (arith, common_steps)

pub slice_bounds-result-end-2 : goal.slice_bounds-result-end-2
slice_bounds-result-end-2 g c = grind (arith, common_steps)
