use Rattle.std.proofs.Common.{map, string_bytes, subst}
use Rattle.tl_device.specs.Device.{passage}
use Rattle.tl_fetch.specs.declared.log_keys.LogKeys.{LogKeys}
use Rattle.tl_fetch.specs.FeedCommand.{RunsFeedUnder}
use Rattle.tl_fetch.specs.Inner.LogKeys.{OrEarly, of_log}
use Rattle.tl_fetch.proofs.feed.command.feed_by.Goals as goal

pub returns-in_default : goal.returns-in_default
returns-in_default g c =
    let o = passage g.W.Write.contents c.args.writer.now c.feed_of.new.writer in
    subst (λ (k : LogKeys). OrEarly (RunsFeedUnder (of_log k.key k.other c.args.asked) (map string_bytes c.args.to.now) c.args.options.now o) o c.feed_of.result) c.of-own.ensures c.feed_of.ensures

pub returns : goal.returns
returns g c =
    let o = passage g.W.Write.contents c.args.writer.now c.feed_of-2.new.writer in
    subst (λ (k : LogKeys). OrEarly (RunsFeedUnder (of_log k.key k.other c.args.asked) (map string_bytes c.args.to.now) c.args.options.now o) o c.feed_of-2.result) c.of-own.ensures c.feed_of-2.ensures
