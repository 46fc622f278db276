use Rattle.std.proofs.Common.{List, Ok, Err, inl, subst}
use Rattle.tl_note.specs.Key.{Key}
use Rattle.tl_device.specs.Device.{passage}
use Rattle.tl_fetch.specs.Command.{RunsUnder}
use Rattle.tl_fetch.proofs.Policies.{with_keys}
use Rattle.tl_fetch.proofs.by_keys.fetch_of.Goals as goal

pub returns-in-Ok : goal.returns-in-Ok
returns-in-Ok g c =
    subst (λ (ks : List Key). RunsUnder (with_keys ks c.args.asked) c.args.options.now (passage g.W.Write.contents c.args.writer.now c.fetch_as_asked.new.writer) (Ok tt)) c.requires c.in-Ok.ensures

pub returns-in-Err : goal.returns-in-Err
returns-in-Err g c =
    inl (subst (λ (ks : List Key). RunsUnder (with_keys ks c.args.asked) c.args.options.now (passage g.W.Write.contents c.args.writer.now c.fetch_as_asked.new.writer) (Err c.in-Err.fault)) c.requires c.in-Err.ensures)
