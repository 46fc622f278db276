use Rattle.std.proofs.Common.{subst, true, List}
use Rattle.tl_proof.specs.Inner.Segments.{GrowsBy, IsProofPlan}
use Rattle.tl_proof.specs.declared.plan.Segment.{Segment}
use Rattle.tl_proof.proofs.Plans.{appended-all}
use Rattle.tl_proof.proofs.plan.proof_segments.Goals as goal

pub returns : goal.returns
returns g c =
    appended-all (IsProofPlan c.args.old 0 c.args.size true) c.push_proof.new.segments.items
    (subst (λ (list : List Segment). GrowsBy (IsProofPlan c.args.old 0 c.args.size true) list c.push_proof.new.segments.items) c.new-segments.ensures.items c.in_ok-push_proof.ensures)
