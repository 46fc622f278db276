use Rattle.std.proofs.Common.{◌∙◌}
use Rattle.tl_fetch.proofs.FeedLemmas.{unfed}
use Rattle.tl_fetch.proofs.feed.feeding.cosigned.Goals as goal

pub returns-in-Err-clause-unfed : goal.returns-in-Err-clause-unfed
returns-in-Err-clause-unfed g c =
    unfed _ c.args.note.now c.as_str.result.now c.in_ok-text.ensures.0 c.in-Err.fault (c.as_str.ensures.value ∙ c.in_ok-text.ensures.1) c.in-Err.ensures.refused
