use Rattle.std.proofs.Common.{◌-◌}
use Rattle.tl_device.specs.Device.{passage}
use Rattle.tl_serve.proofs.Driven.{tells_rest}
use Rattle.tl_serve.proofs.running.Running.tell_rest.Goals as goal

pub returns : goal.returns
returns g c =
    tells_rest (c.args.lines - c.args.self.now.published) c.saturating_sub-rest.result (passage g.L.Write.contents c.args.out.now c.tell_not_published.new.log) c.tell_not_published.result
    c.saturating_sub-rest.ensures c.if-rest-eq0.false c.tell_not_published.ensures
