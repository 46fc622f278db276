use Rattle.std.proofs.Common.{◌∙◌, ap, map, vec_items, length, arith}
use Rattle.std.proofs.lemmas.Grind.{common_steps}
use Rattle.std.proofs.lemmas.List.{length-map}
use Rattle.tl_command.proofs.Asking.{lines_some}
use Rattle.tl_command.proofs.Failing.{passed_on}
use Rattle.tl_command.specs.Inner.Checks.{FindsInText}
use Rattle.tl_command.specs.ProofText.{proof_lines}
use Rattle.tl_command.proofs.ProofTexts.{proof_plain, entries_of_proof}
use Rattle.tl_command.proofs.commands.check.finding_in.Goals as goal

pub returns-in_default : goal.returns-in_default
returns-in_default g c = λ p lawful e. (rw c.in_default.is at c.in_ok-lines.ensures.lines) (proof_lines p) (proof_plain p lawful) e

pub returns : goal.returns
returns g c = λ p lawful e.
    let none = rw c.in-None.is at c.in_ok-finding.ensures.answer in
    let found = rw c.in-Some.is at c.in_ok-lines.ensures.lines in
    none p lawful (ap (map vec_items) c.as_slice.ensures.value ∙ found.0 ∙ entries_of_proof p c.args.text.now lawful e)

pub returns-in_err-finding : goal.returns-in_err-finding
returns-in_err-finding g c =
    let found = rw c.in-Some.is at c.in_ok-lines.ensures.lines in
    passed_on (FindsInText c.args.text.now) c.from_residual-in_err-finding.result _ c.from_residual-in_err-finding.ensures.1
    (lines_some c.args.text.now (omega (arith, c.in_err-finding.ensures.memory, ap length (ap (map vec_items) c.as_slice.ensures.value ∙ found.0), length-map c.as_slice.result.now vec_items)))

pub returns-in-Some-2 : goal.returns-in-Some-2
returns-in-Some-2 g c = grind (arith, common_steps)
