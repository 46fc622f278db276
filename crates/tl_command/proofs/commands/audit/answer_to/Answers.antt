use Rattle.std.proofs.Common.{◌∙◌, ◌≡◌, sym, ap, subst, map, vec_items, length, All, arith}
use Rattle.std.proofs.lemmas.List.{length-map}
use Rattle.tl_command.proofs.Asking.{lines_some}
use Rattle.tl_command.proofs.Failing.{passed_on}
use Rattle.tl_command.specs.Inner.Answers.{AnswersAuditText}
use Rattle.tl_command.specs.AuditText.{audit_lines}
use Rattle.tl_command.specs.Inner.Shown.{audit_shown}
use Rattle.tl_command.specs.Lines.{entries_of, lines_text, HasNoNewline}
use Rattle.tl_command.proofs.CountedLines.{audit_plain, entries_of_audit, entries_plain, read_is_audit}
use Rattle.tl_command.proofs.commands.audit.answer_to.Goals as goal

pub returns-in_default : goal.returns-in_default
returns-in_default g c = λ a lawful e. (rw c.in_default.is at c.in_ok-lines.ensures.lines) (audit_lines a) (audit_plain a lawful) e

pub returns-in-Some-2 : goal.returns-in-Some-2
returns-in-Some-2 g c =
    let found = rw c.in-Some.is at c.in_ok-lines.ensures.lines in
    let read = rw c.in-Some-2.is at c.in_ok-parts.ensures.audit in
    let lines : entries_of c.args.text.now ≡ audit_lines (audit_shown c.in-Some-2.parts) = sym (ap (map vec_items) c.as_slice.ensures.value ∙ found.0) ∙ read.1 in
    record {
      audit = audit_shown c.in-Some-2.parts;
      lawful = read_is_audit (audit_shown c.in-Some-2.parts) read.0 (subst (All HasNoNewline) lines (entries_plain c.args.text.now));
      spelled = found.1 ∙ ap lines_text lines;
      fact = c.in_ok-answer_of-in-Some-2.ensures;
    }

pub returns : goal.returns
returns g c = λ a lawful e.
    let found = rw c.in-Some.is at c.in_ok-lines.ensures.lines in
    let none = rw c.in-None.is at c.in_ok-parts.ensures.audit in
    none a lawful (ap (map vec_items) c.as_slice.ensures.value ∙ found.0 ∙ entries_of_audit a c.args.text.now lawful e)

pub returns-in_err-parts : goal.returns-in_err-parts
returns-in_err-parts g c =
    let found = rw c.in-Some.is at c.in_ok-lines.ensures.lines in
    passed_on (AnswersAuditText {A = g.row.A.Denot} g.T.TreeHash.digest_of c.args.text.now) c.from_residual-in_err-parts.result _ c.from_residual-in_err-parts.ensures.1
    (lines_some c.args.text.now (omega (arith, c.in_err-parts.ensures.memory, ap length (ap (map vec_items) c.as_slice.ensures.value ∙ found.0), length-map c.as_slice.result.now vec_items)))
