use Rattle.std.proofs.Common.{vec_items, refl}
use Rattle.sha2.specs.Sha256.{sha256}
use Rattle.tl_command.specs.ProofText.{Accepts}
use Rattle.tl_command.specs.ProofCommands.{CheckComes}
use Rattle.tl_command.proofs.Checking.{answered, good_comes}
use Rattle.std.proofs.KnownBytes.{Keeps-refl}
use Rattle.tl_device.specs.Device.{passage}
use Rattle.tl_run.specs.Run.{Runs}
use Rattle.tl_command.proofs.Failing.{finding_fails, passed_on, unread}
use Rattle.tl_command.proofs.commands.check.run_check.Goals as goal

pub returns : goal.returns
returns g c =
    let finding = c.in_ok-finding.finding in
    let came = good_comes (Accepts sha256) _ (vec_items c.in_ok-input.input) c.as_slice.result.now finding finding.accepted c.in_ok-input.ensures c.as_slice.ensures.value c.in_ok-finding.ensures (λ p is. is.says) in
    answered CheckComes _ _ finding.accepted c.print_answer.result came c.print_answer.ensures

pub returns-in_err-input : goal.returns-in_err-input
returns-in_err-input g c =
    passed_on (Runs CheckComes (passage g.R.Read.remaining c.args.reader.now c.read_input.new.reader) (passage g.W.Write.contents c.args.writer.now c.args.writer.now))
    c.from_residual.result _ c.from_residual.ensures.1
    (unread CheckComes (passage g.R.Read.remaining c.args.reader.now c.read_input.new.reader) (passage g.W.Write.contents c.args.writer.now c.args.writer.now) _ c.in_err-input.ensures (Keeps-refl (g.W.Write.contents c.args.writer.now.device), refl))

pub returns-in_err-finding : goal.returns-in_err-finding
returns-in_err-finding g c =
    passed_on (Runs CheckComes (passage g.R.Read.remaining c.args.reader.now c.read_input.new.reader) (passage g.W.Write.contents c.args.writer.now c.args.writer.now))
    c.from_residual-in_err-finding.result _ c.from_residual-in_err-finding.ensures.1
    (finding_fails (Accepts sha256) (passage g.R.Read.remaining c.args.reader.now c.read_input.new.reader) (passage g.W.Write.contents c.args.writer.now c.args.writer.now) c.as_slice.result.now _ (rw c.as_slice.ensures.value c.in_ok-input.ensures) (Keeps-refl (g.W.Write.contents c.args.writer.now.device), refl) c.in_err-finding.ensures)
