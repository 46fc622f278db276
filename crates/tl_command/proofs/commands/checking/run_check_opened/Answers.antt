use Rattle.std.proofs.Common.{refl, arith}
use Rattle.std.proofs.lemmas.Grind.{common_steps}
use Rattle.std.proofs.KnownBytes.{Keeps-refl}
use Rattle.tl_device.specs.Device.{passage}
use Rattle.tl_command.specs.CheckOpened.{RunsCheckOpened}
use Rattle.tl_run.specs.declared.fault.RunFault.TheVariants.{OutOfMemory}
use Rattle.tl_command.proofs.Failing.{key_fails, passed_on}
use Rattle.tl_command.proofs.commands.checking.run_check_opened.Goals as goal

pub returns-in_err-key : goal.returns-in_err-key
returns-in_err-key g c =
    passed_on (RunsCheckOpened c.args.text.now c.args.bytes.now _ (passage g.R.Read.remaining c.args.reader.now c.args.reader.now) (passage g.W.Write.contents c.args.writer.now c.args.writer.now))
    c.from_residual.result _ c.from_residual.ensures.1
    (key_fails c.args.text.now c.args.bytes.now _ (passage g.R.Read.remaining c.args.reader.now c.args.reader.now) (passage g.W.Write.contents c.args.writer.now c.args.writer.now) _ ((Keeps-refl (g.R.Read.remaining c.args.reader.now.device), refl), (Keeps-refl (g.W.Write.contents c.args.writer.now.device), refl)) c.in_err-key.ensures)

pub into_dyn_box-requires-after_bounds : goal.into_dyn_box-requires-after_bounds
into_dyn_box-requires-after_bounds g c = grind (arith, common_steps)

pub returns-in_err-name : goal.returns-in_err-name
returns-in_err-name g c =
    passed_on (RunsCheckOpened c.args.text.now c.args.bytes.now _ (passage g.R.Read.remaining c.args.reader.now c.args.reader.now) (passage g.W.Write.contents c.args.writer.now c.args.writer.now))
    c.from_residual-in_err-name.result OutOfMemory c.from_residual-in_err-name.ensures.1 (record { key = _; spelled = c.in_ok-key.ensures; fact = (refl, (Keeps-refl (g.W.Write.contents c.args.writer.now.device), refl)) })

pub returns-in_err-new : goal.returns-in_err-new
returns-in_err-new g c =
    passed_on (RunsCheckOpened c.args.text.now c.args.bytes.now _ (passage g.R.Read.remaining c.args.reader.now c.args.reader.now) (passage g.W.Write.contents c.args.writer.now c.args.writer.now))
    c.from_residual-in_err-new.result OutOfMemory c.from_residual-in_err-new.ensures.1 (record { key = _; spelled = c.in_ok-key.ensures; fact = (refl, (Keeps-refl (g.W.Write.contents c.args.writer.now.device), refl)) })
