use Rattle.tl_proof.specs.Inner.Segments.{IsPathPlan, GrowsBy}
use Rattle.tl_proof.proofs.Plans.{appended-all}
use Rattle.std.proofs.Common.{subst, List}
use Rattle.tl_proof.specs.declared.plan.Segment.{Segment}
use Rattle.tl_proof.proofs.plan.path_segments.Goals as goal

pub returns-clause-plan : goal.returns-clause-plan
returns-clause-plan g c =
    appended-all (IsPathPlan c.args.index 0 c.args.size) c.push_path.new.segments.items
    (subst (λ (list : List Segment). GrowsBy (IsPathPlan c.args.index 0 c.args.size) list c.push_path.new.segments.items) c.new-segments.ensures.items c.in_ok-push_path.ensures.added)
