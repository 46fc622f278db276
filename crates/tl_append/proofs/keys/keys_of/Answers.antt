use Rattle.std.proofs.Common.{arith}
use Rattle.std.proofs.lemmas.Grind.{common_steps}
use Rattle.tl_append.proofs.keys.keys_of.Goals as goal

pub returns-in_err-key-in-File-clause-both : goal.returns-in_err-key-in-File-clause-both
returns-in_err-key-in-File-clause-both g c = grind (arith, common_steps)

pub returns-in_err-key-in-File-clause-signer : goal.returns-in_err-key-in-File-clause-signer
returns-in_err-key-in-File-clause-signer g c = grind (arith, common_steps)

pub returns-in_err-verifier-in-File-clause-both : goal.returns-in_err-verifier-in-File-clause-both
returns-in_err-verifier-in-File-clause-both g c = grind (arith, common_steps)

pub returns-in_err-verifier-in-File-clause-signer : goal.returns-in_err-verifier-in-File-clause-signer
returns-in_err-verifier-in-File-clause-signer g c = grind (arith, common_steps)

pub returns-in_ok-demonstration-in-Secret-2-clause-both : goal.returns-in_ok-demonstration-in-Secret-2-clause-both
returns-in_ok-demonstration-in-Secret-2-clause-both g c = grind (arith, common_steps)

pub returns-in_ok-demonstration-in-Secret-2-clause-signer : goal.returns-in_ok-demonstration-in-Secret-2-clause-signer
returns-in_ok-demonstration-in-Secret-2-clause-signer g c = grind (arith, common_steps)

pub returns-then-ne-clause-both : goal.returns-then-ne-clause-both
returns-then-ne-clause-both g c = grind (arith, common_steps)

pub returns-then-ne-clause-signer : goal.returns-then-ne-clause-signer
returns-then-ne-clause-signer g c = grind (arith, common_steps)

pub same-key : goal.same-key
same-key g c = grind (arith, common_steps)
