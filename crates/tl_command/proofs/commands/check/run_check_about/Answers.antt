use Rattle.std.proofs.Common.{vec_items, refl}
use Rattle.std.specs.Prelude.{option_map}
use Rattle.tl_command.specs.ProofCommands.{CheckAboutComes, IsAbout, Subject}
use Rattle.tl_command.proofs.Checking.{about_means, answered, good_comes}
use Rattle.std.proofs.KnownBytes.{Keeps-refl}
use Rattle.tl_device.specs.Device.{passage}
use Rattle.tl_run.specs.Run.{Runs}
use Rattle.tl_command.proofs.Failing.{finding_fails, passed_on, unread}
use Rattle.tl_command.proofs.commands.check.run_check_about.Goals as goal

pub returns : goal.returns
returns g c =
    let finding = c.in_ok-finding.finding in
    let subject : Subject = record { size = c.args.size; root = c.args.root; entry = option_map (λ e. e.now) c.args.entry } in
    let means = about_means subject finding c.is_about.result c.is_about.ensures in
    let came = good_comes (IsAbout subject) _ (vec_items c.in_ok-input.input) c.as_slice.result.now finding c.is_about.result c.in_ok-input.ensures c.as_slice.ensures.value c.in_ok-finding.ensures means in
    answered (CheckAboutComes subject) _ _ c.is_about.result c.print_answer.result came c.print_answer.ensures

pub returns-in_err-input : goal.returns-in_err-input
returns-in_err-input g c =
    passed_on (Runs (CheckAboutComes (record { size = c.args.size; root = c.args.root; entry = option_map (λ e. e.now) c.args.entry })) (passage g.R.Read.remaining c.args.reader.now c.read_input.new.reader) (passage g.W.Write.contents c.args.writer.now c.args.writer.now))
    c.from_residual.result _ c.from_residual.ensures.1
    (unread (CheckAboutComes (record { size = c.args.size; root = c.args.root; entry = option_map (λ e. e.now) c.args.entry })) (passage g.R.Read.remaining c.args.reader.now c.read_input.new.reader) (passage g.W.Write.contents c.args.writer.now c.args.writer.now) _ c.in_err-input.ensures (Keeps-refl (g.W.Write.contents c.args.writer.now.device), refl))

pub returns-in_err-finding : goal.returns-in_err-finding
returns-in_err-finding g c =
    passed_on (Runs (CheckAboutComes (record { size = c.args.size; root = c.args.root; entry = option_map (λ e. e.now) c.args.entry })) (passage g.R.Read.remaining c.args.reader.now c.read_input.new.reader) (passage g.W.Write.contents c.args.writer.now c.args.writer.now))
    c.from_residual-in_err-finding.result _ c.from_residual-in_err-finding.ensures.1
    (finding_fails (IsAbout (record { size = c.args.size; root = c.args.root; entry = option_map (λ e. e.now) c.args.entry })) (passage g.R.Read.remaining c.args.reader.now c.read_input.new.reader) (passage g.W.Write.contents c.args.writer.now c.args.writer.now) c.as_slice.result.now _ (rw c.as_slice.ensures.value c.in_ok-input.ensures) (Keeps-refl (g.W.Write.contents c.args.writer.now.device), refl) c.in_err-finding.ensures)
