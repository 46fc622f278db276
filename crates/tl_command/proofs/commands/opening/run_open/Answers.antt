use Rattle.std.proofs.Common.{refl}
use Rattle.std.proofs.KnownBytes.{Keeps-refl}
use Rattle.tl_device.specs.Device.{passage}
use Rattle.tl_command.proofs.CosignedRuns.{cosigner_fails}
use Rattle.tl_command.proofs.commands.opening.run_open.Goals as goal

pub returns-in-Err : goal.returns-in-Err
returns-in-Err g c =
    cosigner_fails c.args.text.now (passage g.R.Read.remaining c.args.reader.now c.args.reader.now) (passage g.W.Write.contents c.args.writer.now c.args.writer.now) c.in-Err.fault
    c.in-Err.ensures.refused.1.0 (Keeps-refl (g.R.Read.remaining c.args.reader.now.device), refl) (Keeps-refl (g.W.Write.contents c.args.writer.now.device), refl)
    c.in-Err.ensures.refused.0 c.in-Err.ensures.refused.1.1
