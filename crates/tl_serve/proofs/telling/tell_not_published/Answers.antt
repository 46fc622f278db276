use Rattle.std.proofs.Common.{inl, subst, ◌∙◌}
use Rattle.tl_device.specs.Device.{WrotePart, passage}
use Rattle.tl_serve.proofs.telling.tell_not_published.Goals as goal

pub returns : goal.returns
returns g c =
    inl (c.in-Err.ensures.fault, subst (WrotePart (passage g.L.Write.contents c.args.log.now c.print_text.new.writer)) (c.as_bytes.ensures.value ∙ c.in_ok-line.ensures.ok) c.in-Err.ensures.part)
