use Rattle.std.proofs.Common.{[], slice_index_or, refl, sym, subst, arith}
use Rattle.std.proofs.lemmas.Grind.{common_steps}
use Rattle.tl_proof.specs.Inner.ManyPaths.{IsPathsPlan}
use Rattle.tl_proof.proofs.ManyPathLemmas.{paths-none, paths-next, paths-all}
use Rattle.tl_proof.proofs.plan.paths_segments.Goals as goal

pub loop-index-init : goal.loop-index-init
loop-index-init g c =
    subst (λ segments. IsPathsPlan c.args.size [] segments c.new-counts.result.items) (sym c.new-segments.ensures.items)
    (subst (IsPathsPlan c.args.size [] []) (sym c.new-counts.ensures.items) (paths-none c.args.size))

pub push_path-requires-clause-last : goal.push_path-requires-clause-last
push_path-requires-clause-last g c = (c.requires c.loop-index.index-index 0 c.loop-index-test.true).0

pub loop-index-preserved : goal.loop-index-preserved
loop-index-preserved g c =
    paths-next c.args.size c.args.indexes.now c.loop-index.index-index 0 (slice_index_or c.args.indexes.now c.loop-index.index-index 0)
    c.loop-index.counts.items c.push.new.self.items c.loop-index.segments.items c.push_path.new.segments.items _
    c.loop-index-test.true refl c.requires c.in_ok-push_path.ensures.added (omega (arith, c.loop-index.segments.ok.0, c.push_path.new.segments.ok.0, c.len.ensures, c.len-before.ensures))
    c.in_ok-push.ensures.items c.loop-index.invariant

pub returns : goal.returns
returns g c = paths-all c.args.size c.args.indexes.now c.loop-index.index-index c.loop-index.counts.items c.loop-index.segments.items c.loop-index-test.false c.loop-index.invariant

pub overflow_sub-len : goal.overflow_sub-len
overflow_sub-len g c = grind (arith, common_steps)
