use Rattle.std.proofs.Common.{◌≡◌, ◌-◌, ◌%◌, subst, arith}
use Rattle.std.specs.Prelude.{MatchOption}
use Rattle.tl_hash.specs.Tree.{tree_hash}
use Rattle.tl_tile.specs.Inner.Rest.{IsRest}
use Rattle.tl_tile.proofs.Below.{count_below-none, count_below-more, count_below-within, rest-start, rest-more, rest-all}
use Rattle.tl_tile.proofs.NeededLemmas.{next_count}
use Rattle.tl_tile.proofs.edge.root_of.Goals as goal

pub loop-level-init : goal.loop-level-init
loop-level-init g c = record {
  count = omega arith;
  end = omega (arith, count_below-none c.args.size);
  below = λ entries sized kept. rest-start g.T.TreeHash.digest_of entries;
}

pub overflow_sub-start : goal.overflow_sub-start
overflow_sub-start g c =
    let at = c.loop-level.invariant in
    omega (arith, at.count, at.end, c.requires.counted, count_below-within c.args.size c.loop-level._level 8 (omega arith))

pub loop-level-preserved : goal.loop-level-preserved
loop-level-preserved g c =
    let at = c.loop-level.invariant in
    let within = count_below-within c.args.size c.loop-level._level 8 (omega arith) in
    record {
      count = next_count c.args.size c.loop-level._level c.loop-level.count at.count;
      end = omega (arith, at.end, at.count, c.requires.counted, within, count_below-more c.args.size c.loop-level._level);
      below = λ entries sized kept.
          rest-more g.T.TreeHash.digest_of c.args.size c.loop-level._level (c.loop-level.end - c.loop-level.count % 256) (c.loop-level.end - (c.loop-level.end - c.loop-level.count % 256)) c.args.kept.now c.loop-level.below c.fold_level-below.result
          (omega arith) (omega (arith, at.count, at.end, c.requires.counted, within)) (omega (arith, at.count, at.end, c.requires.counted, within))
          c.fold_level-below.ensures entries sized kept (at.below entries sized kept);
    }

pub returns : goal.returns
returns g c entries sized kept =
    let H = g.T.TreeHash.digest_of in
    let last : c.loop-level._level ≡ 8 = omega arith in
    let rest = subst (λ level. IsRest H entries level c.loop-level.below) last (c.loop-level.invariant.below entries sized kept) in
    subst (λ size. MatchOption c.loop-level.below (size ≡ 0) (λ root. root ≡ tree_hash H entries)) sized
    (rest-all H entries c.loop-level.below (omega (arith, sized, c.requires.small)) rest)
