use Rattle.std.proofs.Common.{subst}
use Rattle.tl_device.specs.Device.{passage}
use Rattle.tl_fetch.specs.declared.log_keys.LogKeys.{LogKeys}
use Rattle.tl_fetch.specs.Command.{RunsUnder}
use Rattle.tl_fetch.specs.Inner.LogKeys.{OrEarly, of_log}
use Rattle.tl_fetch.proofs.by_keys.fetch_by.Goals as goal

pub returns-in_default : goal.returns-in_default
returns-in_default g c =
    let o = passage g.W.Write.contents c.args.writer.now c.fetch_of.new.writer in
    subst (λ (k : LogKeys). OrEarly (RunsUnder (of_log k.key k.other c.args.asked) c.args.options.now o) o c.fetch_of.result) c.of-own.ensures c.fetch_of.ensures

pub returns : goal.returns
returns g c =
    let o = passage g.W.Write.contents c.args.writer.now c.fetch_of-2.new.writer in
    subst (λ (k : LogKeys). OrEarly (RunsUnder (of_log k.key k.other c.args.asked) c.args.options.now o) o c.fetch_of-2.result) c.of-own.ensures c.fetch_of-2.ensures
