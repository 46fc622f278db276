use Rattle.std.proofs.Common.{refl}
use Rattle.std.proofs.KnownBytes.{Keeps-refl}
use Rattle.tl_device.specs.Device.{passage}
use Rattle.tl_command.specs.AuditCommand.{AuditComes}
use Rattle.tl_run.specs.Run.{Runs}
use Rattle.tl_command.proofs.AuditRuns.{audit_extends, audit_refuses}
use Rattle.tl_command.proofs.Failing.{audit_fails, passed_on, unread}
use Rattle.tl_command.proofs.commands.audit.run_audit.Goals as goal

pub returns-in_err-input : goal.returns-in_err-input
returns-in_err-input g c =
    passed_on (Runs (AuditComes g.T.TreeHash.digest_of) (passage g.R.Read.remaining c.args.reader.now c.read_input.new.reader) (passage g.W.Write.contents c.args.writer.now c.args.writer.now))
    c.from_residual.result _ c.from_residual.ensures.1
    (unread (AuditComes g.T.TreeHash.digest_of) (passage g.R.Read.remaining c.args.reader.now c.read_input.new.reader) (passage g.W.Write.contents c.args.writer.now c.args.writer.now)
    _ c.in_err-input.ensures (Keeps-refl (g.W.Write.contents c.args.writer.now.device), refl))

pub returns-in-Err : goal.returns-in-Err
returns-in-Err g c =
    audit_fails (Unit {0}) g.T.TreeHash.digest_of (passage g.R.Read.remaining c.args.reader.now c.read_input.new.reader) (passage g.W.Write.contents c.args.writer.now c.args.writer.now)
    c.as_slice.result.now c.in-Err.fault (rw c.as_slice.ensures.value c.in_ok-input.ensures) (Keeps-refl (g.W.Write.contents c.args.writer.now.device), refl) c.in-Err.ensures

pub returns : goal.returns
returns g c =
    audit_extends g.row.A.Denot g.T.TreeHash.digest_of (passage g.R.Read.remaining c.args.reader.now c.read_input.new.reader) (passage g.W.Write.contents c.args.writer.now c.print_text.new.writer)
    c.as_slice.result.now c.as_slice-2.result.now c.in-Ok.answer (rw c.as_slice.ensures.value c.in_ok-input.ensures) c.in-Ok.ensures c.if-not-answer.false c.as_slice-2.ensures.value
    c.in-Ok-print_text.ensures.whole

pub returns-then-not-answer : goal.returns-then-not-answer
returns-then-not-answer g c =
    audit_refuses g.row.A.Denot g.T.TreeHash.digest_of (passage g.R.Read.remaining c.args.reader.now c.read_input.new.reader) (passage g.W.Write.contents c.args.writer.now c.print_text.new.writer)
    c.as_slice.result.now c.as_slice-2.result.now c.in-Ok.answer (rw c.as_slice.ensures.value c.in_ok-input.ensures) c.in-Ok.ensures c.if-not-answer.true c.as_slice-2.ensures.value
    c.in-Ok-print_text.ensures.whole
