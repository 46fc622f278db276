use Rattle.std.proofs.Common.{sym, subst}
use Rattle.sha2.specs.Sha256.{sha256}
use Rattle.tl_publisher.specs.Grown.{IsGrown}
use Rattle.tl_publisher.specs.Running.{Running}
use Rattle.tl_sequencer.specs.Log.{entries_of}
use Rattle.tl_publisher.proofs.Joined.{joins_running}
use Rattle.tl_publisher.proofs.run.Run.adopt.Goals as goal

pub invariant_of-self : goal.invariant_of-self
invariant_of-self g c =
    joins_running c.join.result c.self.inside.log c.self.inside.growth c.args.next c.join.new.self c.self.inside.board c.self.invariant
    (subst (λ (r : Running _). IsGrown sha256 r.grown (entries_of r.log) c.args.next) (sym c.self.view_is) c.requires) c.join.ensures.size c.join.ensures.grown c.join.ensures.unchanged
