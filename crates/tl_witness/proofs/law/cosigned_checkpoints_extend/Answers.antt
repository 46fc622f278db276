use Rattle.tl_witness.proofs.CosignedLaws.{cosigned_extend}
use Rattle.tl_witness.proofs.law.cosigned_checkpoints_extend.Goals as goal

pub returns : goal.returns
returns c = cosigned_extend c.audit_law.ensures
