use Rattle.std.proofs.Common.{rules, refl}
use Rattle.tl_command.proofs.Runs.{runs_under}
use Rattle.std.proofs.KnownBytes.{Keeps-refl}
use Rattle.tl_device.specs.Device.{passage}
use Rattle.tl_command.specs.CheckOpened.{RunsUnder}
use Rattle.tl_command.proofs.Failing.{checkpoint_fails, passed_on}
use Rattle.tl_command.proofs.commands.checking.check_under.Goals as goal

pub returns : goal.returns
returns g c =
    runs_under _ _ _ _ _ _ _ c.run_check_about.result c.in_ok-checkpoint.ensures (search rules) c.run_check_about.ensures

pub returns-in_err-checkpoint : goal.returns-in_err-checkpoint
returns-in_err-checkpoint g c =
    passed_on (RunsUnder c.args.bytes.now _ c.args.name.now _ (passage g.R.Read.remaining c.args.reader.now c.args.reader.now) (passage g.W.Write.contents c.args.writer.now c.args.writer.now))
    c.from_residual.result _ c.from_residual.ensures.1
    (checkpoint_fails (Unit {0}) c.args.bytes.now _ c.args.name.now _ (passage g.R.Read.remaining c.args.reader.now c.args.reader.now) (passage g.W.Write.contents c.args.writer.now c.args.writer.now) _ ((Keeps-refl (g.R.Read.remaining c.args.reader.now.device), refl), (Keeps-refl (g.W.Write.contents c.args.writer.now.device), refl)) c.in_err-checkpoint.ensures)

pub returns-then-ne : goal.returns-then-ne
returns-then-ne g c =
    (record { checkpoint = _; signed = c.in_ok-checkpoint.ensures; other = search rules }, ((Keeps-refl (g.R.Read.remaining c.args.reader.now.device), refl), (Keeps-refl (g.W.Write.contents c.args.writer.now.device), refl)))
