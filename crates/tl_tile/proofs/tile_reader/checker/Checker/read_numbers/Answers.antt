use Rattle.std.proofs.Common.{◌*◌, ◌/◌, ◌%◌, ◌^◌, length, ap, arith}
use Rattle.std.proofs.lemmas.Grind.{common_steps}
use Rattle.std.proofs.lemmas.List.{length_push}
use Rattle.tl_tile.proofs.Orders.{needed-partial, needed-more, over-needed, fault-weaker, found-later}
use Rattle.tl_tile.specs.Fetched.{tiles_of}
use Rattle.tl_tile.specs.Inner.TreeKeys.{trees_in}
use Rattle.tl_tile.proofs.TreeReads.{trees-none}
use Rattle.tl_tile.proofs.Reading.{hashes-more, hashes-none, authentic-all}
use Rattle.std.proofs.lemmas.Result.{err_from_is_err_and}
use Rattle.tl_tile.specs.Fetching.{IsOver, IsNeededFor}
use Rattle.tl_tile.proofs.tile_reader.checker.Checker.read_numbers.Goals as goal

pub returns-in_err-fetch_first-clause-adds : goal.returns-in_err-fetch_first-clause-adds
returns-in_err-fetch_first-clause-adds g c =
    needed-partial (g.S.TileSource.may_answer c.args.self.now.source) g.T.TreeHash.digest_of c.args.self.now.size c.args.self.now.root c.args.indexes.now c.args.fetched.now c.fetch_first.new.fetched c.requires.asked c.fetch_first.ensures.adds

pub loop-index-init : goal.loop-index-init
loop-index-init g c = record {
  verified = c.in_ok-fetch_first.ensures.verified;
  trees = trees-none g.T.TreeHash.digest_of (tiles_of c.fetch_first.new.fetched) (trees_in c.new-trees.result.map) c.new-trees.ensures;
  adds = needed-partial (g.S.TileSource.may_answer c.args.self.now.source) g.T.TreeHash.digest_of c.args.self.now.size c.args.self.now.root c.args.indexes.now c.args.fetched.now c.fetch_first.new.fetched c.requires.asked c.fetch_first.ensures.adds;
  hashes_are = hashes-none g.T.TreeHash.digest_of c.fetch_first.new.fetched c.args.self.now.size c.args.indexes.now c.new-hashes.result.items c.new-hashes.ensures.items;
  count = ap length c.new-hashes.ensures.items;
}

pub returns-in_err-hash-clause-adds : goal.returns-in_err-hash-clause-adds
returns-in_err-hash-clause-adds g c =
    needed-more (g.S.TileSource.may_answer c.args.self.now.source) g.T.TreeHash.digest_of c.args.self.now.size c.args.self.now.root c.loop-index.index-index c.args.indexes.now c.subtree_of-subtree.result c.args.fetched.now c.loop-index.fetched c.read_subtree.new.fetched
    c.loop-index-test.true c.subtree_of-subtree.ensures.number c.loop-index.invariant.adds c.read_subtree.ensures.adds

pub returns-in_err-push-clause-adds : goal.returns-in_err-push-clause-adds
returns-in_err-push-clause-adds g c =
    needed-more (g.S.TileSource.may_answer c.args.self.now.source) g.T.TreeHash.digest_of c.args.self.now.size c.args.self.now.root c.loop-index.index-index c.args.indexes.now c.subtree_of-subtree.result c.args.fetched.now c.loop-index.fetched c.read_subtree.new.fetched
    c.loop-index-test.true c.subtree_of-subtree.ensures.number c.loop-index.invariant.adds c.read_subtree.ensures.adds

pub loop-index-preserved : goal.loop-index-preserved
loop-index-preserved g c = record {
  verified = c.in_ok-hash.ensures.verified;
  trees = c.in_ok-hash.ensures.trees;
  adds = needed-more (g.S.TileSource.may_answer c.args.self.now.source) g.T.TreeHash.digest_of c.args.self.now.size c.args.self.now.root c.loop-index.index-index c.args.indexes.now c.subtree_of-subtree.result c.args.fetched.now c.loop-index.fetched c.read_subtree.new.fetched
      c.loop-index-test.true c.subtree_of-subtree.ensures.number c.loop-index.invariant.adds c.read_subtree.ensures.adds;
  hashes_are = hashes-more g.T.TreeHash.digest_of c.loop-index.fetched c.read_subtree.new.fetched c.args.self.now.size c.loop-index.index-index c.args.indexes.now 0 c.loop-index.hashes.items c.push.new.self.items c.in_ok-hash.hash
      c.loop-index-test.true (found-later _ _ _ _ _ c.loop-index.fetched c.read_subtree.new.fetched c.read_subtree.ensures.adds) c.loop-index.invariant.hashes_are
      (record { subtree = c.subtree_of-subtree.result; within = c.subtree_of-subtree.ensures.within; number = c.subtree_of-subtree.ensures.number; hash_is = c.in_ok-hash.ensures.hash })
      c.in_ok-push.ensures.items;
  count = omega (arith, c.loop-index.invariant.count, ap length c.in_ok-push.ensures.items, length_push c.loop-index.hashes.items c.in_ok-hash.hash);
}

pub returns-clause-authentic : goal.returns-clause-authentic
returns-clause-authentic g c =
    authentic-all g.T.TreeHash.digest_of g.met.T.TreeHash.digest_length (record { size = c.args.self.now.size; root = c.args.self.now.root; indexes = c.args.indexes.now; fetched = c.loop-index.fetched }) c.loop-index.invariant.verified.checked
    c.loop-index.index-index c.loop-index.hashes.items c.loop-index-test.false c.loop-index.invariant.hashes_are

pub returns-in_err-hash-clause-faults : goal.returns-in_err-hash-clause-faults
returns-in_err-hash-clause-faults g c =
    let p = err_from_is_err_and c.from_residual-in_err-hash.result c.from_residual-in_err-hash.ensures.1 in
    let subtree = c.subtree_of-subtree.result in
    rw (p.1, p.2)
    (fault-weaker g.T.TreeHash.digest_of (λ t. g.S.TileSource.may_lack c.args.self.now.source t × IsOver (subtree.level / 8) (subtree.place * 2 ^ (subtree.level % 8)) t)
    (λ t. g.S.TileSource.may_lack c.args.self.now.source t × IsNeededFor c.args.self.now.size c.args.indexes.now t)
    c.args.self.now.size c.args.self.now.root c.read_subtree.new.fetched c.in_err-hash.field-0.0
    (λ t few. (few.0, over-needed c.args.self.now.size c.loop-index.index-index c.args.indexes.now subtree t c.loop-index-test.true c.subtree_of-subtree.ensures.number few.1)) c.in_err-hash.ensures.faults)

pub returns-clause-adds : goal.returns-clause-adds
returns-clause-adds g c = grind (arith, common_steps)

pub returns-clause-count : goal.returns-clause-count
returns-clause-count g c = grind (arith, common_steps)

pub returns-clause-faults : goal.returns-clause-faults
returns-clause-faults g c = grind (arith, common_steps)

pub returns-clause-verified : goal.returns-clause-verified
returns-clause-verified g c = grind (arith, common_steps)

pub subtree_of-subtree-requires-clause-index : goal.subtree_of-subtree-requires-clause-index
subtree_of-subtree-requires-clause-index g c = grind (arith, common_steps)
