use Rattle.std.proofs.Common.{◌≡◌, Some, ◌<◌, ◌⊎◌, inl, inr, ◌∙◌, refl, arith, length, subst, vec_items, ℕ}
use Rattle.std.proofs.lemmas.Grind.{common_steps}
use Rattle.std.proofs.KnownBytes.{Keeps-refl}
use Rattle.tl_device.specs.Device.{passage}
use Rattle.tl_command.specs.Inner.Steps.{IsServed, WantedComes}
use Rattle.tl_command.specs.Mirror.{mirrored}
use Rattle.tl_command.proofs.Asking.{entry_fails, read_lines}
use Rattle.tl_command.proofs.Wanted.{answer_cut, answer_fails, answer_printed, asks_for, not_there}
use Rattle.tl_run.specs.Run.{Runs}
use Rattle.tl_run.specs.declared.fault.RunFault.TheVariants.{Write}
use Rattle.tl_command.proofs.Failing.{handed_on, passed_on, unread}
use Rattle.tl_command.proofs.commands.build.build.Goals as goal

pub returns-in-Err : goal.returns-in-Err
returns-in-Err g c =
    entry_fails (WantedComes (g.K.LogSigner.log_key c.args.key.now) (Some c.args.wanted)) _ _ (vec_items c.in_ok-input.input) c.as_slice.result.now c.in-Err.fault
    c.in_ok-input.ensures c.as_slice.ensures.value (Keeps-refl (g.W.Write.contents c.args.writer.now.device), refl) (λ place long. long) c.in-Err.ensures.fault

pub returns-in-Err-answer_of : goal.returns-in-Err-answer_of
returns-in-Err-answer_of g c =
    let key = g.K.LogSigner.log_key c.args.key.now in
    let lines = c.lines-lines.result in
    let read = read_lines _ _ (vec_items c.in_ok-input.input) c.as_slice.result.now lines c.in_ok-input.ensures c.as_slice.ensures.value (c.lines-lines.ensures ∙ c.in-Ok.ensures.lines) c.in-Ok.ensures.short in
    let either : (0 < length lines) ⊎ IsServed (mirrored 0) (Some c.args.wanted) =
    elim c.if-is_of_no_entry.ensures as (λ _. (0 < length lines) ⊎ IsServed (mirrored 0) (Some c.args.wanted)) [
      | inl some ↦ inl (omega (arith, some, c.count.ensures.count))
      | inr served ↦ inr served
    ] in
    answer_fails g.row.A.Denot key (Some c.args.wanted) _ _ c.in-Err-answer_of.fault lines read (Keeps-refl (g.W.Write.contents c.args.writer.now.device), refl)
    (asks_for key (Some c.args.wanted) _ lines read either) c.in-Err-answer_of.ensures

pub returns-in_err-print_text : goal.returns-in_err-print_text
returns-in_err-print_text g c =
    let key = g.K.LogSigner.log_key c.args.key.now in
    let lines = c.lines-lines.result in
    let read = read_lines (passage g.R.Read.remaining c.args.reader.now c.read_input.new.reader) _ (vec_items c.in_ok-input.input) c.as_slice.result.now lines c.in_ok-input.ensures c.as_slice.ensures.value (c.lines-lines.ensures ∙ c.in-Ok.ensures.lines) c.in-Ok.ensures.short in
    handed_on (Runs (WantedComes key (Some c.args.wanted)) (passage g.R.Read.remaining c.args.reader.now c.read_input.new.reader) (passage g.W.Write.contents c.args.writer.now c.print_text.new.writer))
    c.from_residual-in_err-print_text.result _ Write c.from_residual-in_err-print_text.ensures.1 c.in_err-print_text.ensures.fault
    (answer_cut key (Some c.args.wanted) _ (passage g.W.Write.contents c.args.writer.now c.print_text.new.writer) lines c.as_slice-2.result.now (vec_items c.in-Ok-answer_of.answer) read c.in-Ok-answer_of.ensures c.as_slice-2.ensures.value c.in_err-print_text.ensures.part)

pub returns : goal.returns
returns g c =
    let key = g.K.LogSigner.log_key c.args.key.now in
    let lines = c.lines-lines.result in
    let read = read_lines (passage g.R.Read.remaining c.args.reader.now c.read_input.new.reader) _ (vec_items c.in_ok-input.input) c.as_slice.result.now lines c.in_ok-input.ensures c.as_slice.ensures.value (c.lines-lines.ensures ∙ c.in-Ok.ensures.lines) c.in-Ok.ensures.short in
    answer_printed key (Some c.args.wanted) _ (passage g.W.Write.contents c.args.writer.now c.print_text.new.writer) lines c.as_slice-2.result.now (vec_items c.in-Ok-answer_of.answer) read c.in-Ok-answer_of.ensures c.as_slice-2.ensures.value c.in_ok-print_text.ensures.whole

pub returns-in_err-input : goal.returns-in_err-input
returns-in_err-input g c =
    passed_on (Runs (WantedComes (g.K.LogSigner.log_key c.args.key.now) (Some c.args.wanted)) (passage g.R.Read.remaining c.args.reader.now c.read_input.new.reader) (passage g.W.Write.contents c.args.writer.now c.args.writer.now))
    c.from_residual.result _ c.from_residual.ensures.1
    (unread (WantedComes (g.K.LogSigner.log_key c.args.key.now) (Some c.args.wanted)) (passage g.R.Read.remaining c.args.reader.now c.read_input.new.reader) (passage g.W.Write.contents c.args.writer.now c.args.writer.now) _ c.in_err-input.ensures (Keeps-refl (g.W.Write.contents c.args.writer.now.device), refl))

pub returns-then-is_of_no_entry : goal.returns-then-is_of_no_entry
returns-then-is_of_no_entry g c =
    let key = g.K.LogSigner.log_key c.args.key.now in
    let lines = c.lines-lines.result in
    let read = read_lines (passage g.R.Read.remaining c.args.reader.now c.read_input.new.reader) _ (vec_items c.in_ok-input.input) c.as_slice.result.now lines c.in_ok-input.ensures c.as_slice.ensures.value (c.lines-lines.ensures ∙ c.in-Ok.ensures.lines) c.in-Ok.ensures.short in
    let none : 0 ≡ length lines = omega (arith, c.if-is_of_no_entry.ensures.0, c.count.ensures.count) in
    not_there key (Some c.args.wanted) _ (passage g.W.Write.contents c.args.writer.now c.args.writer.now) lines read (Keeps-refl (g.W.Write.contents c.args.writer.now.device), refl)
    (subst (λ (n : ℕ). ¬ (IsServed (mirrored n) (Some c.args.wanted))) none c.if-is_of_no_entry.ensures.1)

pub answer_of-requires-after_bounds : goal.answer_of-requires-after_bounds
answer_of-requires-after_bounds g c = grind (arith, common_steps)
