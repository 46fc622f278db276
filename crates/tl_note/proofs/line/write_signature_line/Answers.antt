use Rattle.std.proofs.Common.{arith}
use Rattle.std.proofs.lemmas.Grind.{common_steps}
use Rattle.tl_note.proofs.line.write_signature_line.Goals as goal

pub invariant_of-encode_string-2 : goal.invariant_of-encode_string-2
invariant_of-encode_string-2 g c = grind (arith, common_steps)

pub returns-clause-lawful : goal.returns-clause-lawful
returns-clause-lawful g c = grind (arith, common_steps)

pub returns-clause-text : goal.returns-clause-text
returns-clause-text g c = grind (arith, common_steps)

pub returns-in_err-encode_string-clause-lawful : goal.returns-in_err-encode_string-clause-lawful
returns-in_err-encode_string-clause-lawful g c = grind (arith, common_steps)

pub returns-in_err-extend_from_slice-clause-lawful : goal.returns-in_err-extend_from_slice-clause-lawful
returns-in_err-extend_from_slice-clause-lawful g c = grind (arith, common_steps)

pub returns-in_err-field-clause-lawful : goal.returns-in_err-field-clause-lawful
returns-in_err-field-clause-lawful g c = grind (arith, common_steps)

pub returns-in_err-line-clause-lawful : goal.returns-in_err-line-clause-lawful
returns-in_err-line-clause-lawful g c = grind (arith, common_steps)

pub returns-in_err-push_str-2-clause-lawful : goal.returns-in_err-push_str-2-clause-lawful
returns-in_err-push_str-2-clause-lawful g c = grind (arith, common_steps)

pub returns-in_err-push_str-3-clause-lawful : goal.returns-in_err-push_str-3-clause-lawful
returns-in_err-push_str-3-clause-lawful g c = grind (arith, common_steps)

pub returns-in_err-push_str-clause-lawful : goal.returns-in_err-push_str-clause-lawful
returns-in_err-push_str-clause-lawful g c = grind (arith, common_steps)
