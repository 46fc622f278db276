use Rattle.tl_fetch.proofs.FeedLemmas.{feed_no_file, feed_no_state, feed_some_state}
use Rattle.tl_fetch.proofs.Passages.{still}
use Rattle.tl_fetch.proofs.feed.command.feed_with_state.Goals as goal

pub returns-in-Err : goal.returns-in-Err
returns-in-Err g c =
    feed_no_state c.args.options.now.state (g.S.ResourceSource.may_answer c.args.source.now) (g.S.ResourceSource.may_lack c.args.source.now) _ _ _ c.in-Err.fault _ c.in_default.is c.in-Err.ensures.refused

pub returns : goal.returns
returns g c =
    feed_some_state c.args.options.now.state c.in-Some.path (g.S.ResourceSource.may_answer c.args.source.now) (g.S.ResourceSource.may_lack c.args.source.now) _ _ _ c.in-Err-feed_under.fault _ c.in-Some.is c.in-Err-feed_under.ensures.refused

pub returns-in-Err-open : goal.returns-in-Err-open
returns-in-Err-open g c =
    feed_no_file c.args.options.now.state c.in-Some.path (g.S.ResourceSource.may_answer c.args.source.now) (g.S.ResourceSource.may_lack c.args.source.now) _ c.file_refusal.result _ c.in-Some.is
    c.file_refusal.ensures.refused c.file_refusal.ensures.fair (still _ _)
