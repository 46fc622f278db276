use Rattle.tl_fetch.proofs.Passages.{still}
use Rattle.tl_fetch.proofs.RunLemmas.{no_file, runs_without}
use Rattle.tl_fetch.proofs.command.fetch_with_file.Goals as goal

pub returns-in-Err : goal.returns-in-Err
returns-in-Err g c =
    no_file (g.S.ResourceSource.may_answer c.args.source.now) (g.S.ResourceSource.may_lack c.args.source.now) _ c.args.wanted c.file_refusal.result _ c.file_refusal.ensures.refused c.file_refusal.ensures.fair (still _ _)

pub returns : goal.returns
returns g c =
    runs_without (g.S.ResourceSource.may_answer c.args.source.now) (g.S.ResourceSource.may_lack c.args.source.now) _ _ _ _ _ _ _ _ _ c.args.wanted c.fetch_under.result _ c.in_default.not-All c.fetch_under.ensures.fetched c.fetch_under.ensures.refused

pub returns-in-All : goal.returns-in-All
returns-in-All g c = rw (c.in-All.is) c.fetch_beside.ensures
