use Rattle.std.proofs.Common.{length}
use Rattle.tl_client.proofs.cosigners.+cosigner_names.Given as goal

abbrev pub decreases-cosigner_names : goal.decreases-cosigner_names
decreases-cosigner_names g l = length l.witnesses.now
