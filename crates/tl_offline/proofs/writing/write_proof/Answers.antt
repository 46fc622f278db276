use Rattle.std.proofs.Common.{arith}
use Rattle.tl_offline.specs.ProofText.{proof_of}
use Rattle.tl_offline.proofs.WriteLemmas.{is_proof}
use Rattle.tl_offline.proofs.writing.write_proof.Goals as goal

pub returns : goal.returns
returns g c = (is_proof (proof_of c.args.proof.now) (omega arith) (omega (arith, c.len.ensures)) c.in_ok-lines_of.ensures.lawful, c.in_ok-lines_of.ensures.text)
