use Rattle.std.proofs.Common.{rules, refl}
use Rattle.tl_command.proofs.SignedRuns.{runs_signed}
use Rattle.std.proofs.KnownBytes.{Keeps-refl}
use Rattle.tl_device.specs.Device.{passage}
use Rattle.tl_command.proofs.Failing.{private_fails}
use Rattle.tl_command.proofs.commands.build.signed.run_build_signed.Goals as goal

pub returns : goal.returns
returns g c = runs_signed c.args.origin.now c.args.bytes.now _ c.in-Ok.key _ _ c.run_build.result c.in-Ok.ensures (search rules) c.run_build.ensures

pub returns-in-Err : goal.returns-in-Err
returns-in-Err g c = private_fails c.args.origin.now c.args.bytes.now _ (passage g.R.Read.remaining c.args.reader.now c.args.reader.now) (passage g.W.Write.contents c.args.writer.now c.args.writer.now) c.in-Err.fault (Keeps-refl (g.R.Read.remaining c.args.reader.now.device), refl) (Keeps-refl (g.W.Write.contents c.args.writer.now.device), refl) c.in-Err.ensures

pub returns-then-ne : goal.returns-then-ne
returns-then-ne g c =
    (record { key = c.in-Ok.key; file = c.in-Ok.ensures; fact = search rules }, (Keeps-refl (g.R.Read.remaining c.args.reader.now.device), refl), (Keeps-refl (g.W.Write.contents c.args.writer.now.device), refl))
