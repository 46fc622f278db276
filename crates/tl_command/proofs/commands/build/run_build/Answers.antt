use Rattle.std.proofs.Common.{None, Some, subst, refl, arith}
use Rattle.std.proofs.lemmas.Grind.{common_steps}
use Rattle.tl_note.specs.Key.{IsKeyName}
use Rattle.tl_command.specs.Inner.Steps.{IsAsked}
use Rattle.tl_command.proofs.Wanted.{runs_build}
use Rattle.std.proofs.KnownBytes.{Keeps-refl}
use Rattle.tl_device.specs.Device.{passage}
use Rattle.tl_command.specs.Build.{RunsBuild}
use Rattle.tl_command.proofs.Failing.{passed_on, wanted_fails}
use Rattle.tl_command.proofs.commands.build.run_build.Goals as goal

pub returns-in-Some : goal.returns-in-Some
returns-in-Some g c = runs_build (g.K.LogSigner.log_key c.args.key.now) _ (Some c.in-Some.wanted) _ _ c.build.result (subst IsKeyName c.origin.ensures (c.is_key_name.ensures.0 c.if-not-is_key_name.false)) (subst (IsAsked _) c.in-Some.is c.in_ok-wanted.ensures) c.build.ensures

pub returns-in-None : goal.returns-in-None
returns-in-None g c = runs_build (g.K.LogSigner.log_key c.args.key.now) _ None _ _ c.list.result (subst IsKeyName c.origin.ensures (c.is_key_name.ensures.0 c.if-not-is_key_name.false)) (subst (IsAsked _) c.in-None.is c.in_ok-wanted.ensures) c.list.ensures

pub returns-in_err-wanted : goal.returns-in_err-wanted
returns-in_err-wanted g c =
    passed_on (RunsBuild (g.K.LogSigner.log_key c.args.key.now) _ (passage g.R.Read.remaining c.args.reader.now c.args.reader.now) (passage g.W.Write.contents c.args.writer.now c.args.writer.now))
    c.from_residual.result _ c.from_residual.ensures.1
    (wanted_fails (g.K.LogSigner.log_key c.args.key.now) _ (passage g.R.Read.remaining c.args.reader.now c.args.reader.now) (passage g.W.Write.contents c.args.writer.now c.args.writer.now) _ (subst IsKeyName c.origin.ensures (c.is_key_name.ensures.0 c.if-not-is_key_name.false)) (Keeps-refl (g.R.Read.remaining c.args.reader.now.device), refl) (Keeps-refl (g.W.Write.contents c.args.writer.now.device), refl) c.in_err-wanted.ensures)

pub build-requires-after_bounds : goal.build-requires-after_bounds
build-requires-after_bounds g c = grind (arith, common_steps)

pub list-requires-after_bounds : goal.list-requires-after_bounds
list-requires-after_bounds g c = grind (arith, common_steps)

pub returns-then-not-is_key_name : goal.returns-then-not-is_key_name
returns-then-not-is_key_name g c = grind (arith, common_steps)
