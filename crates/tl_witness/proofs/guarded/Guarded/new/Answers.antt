use Rattle.tl_witness.proofs.SharedLaws.{begins_same}
use Rattle.tl_witness.proofs.guarded.Guarded.new.Goals as goal

pub new-requires : goal.new-requires
new-requires g c = begins_same _ _ c.of-start.ensures
