use Rattle.tl_fetch.specs.declared.options.FetchRequest.TheVariants as wanted
use Rattle.tl_fetch.proofs.Passages.{still}
use Rattle.tl_fetch.proofs.RunLemmas.{no_file, runs_with}
use Rattle.tl_fetch.proofs.command.fetch_beside.Goals as goal

pub returns-in-Err : goal.returns-in-Err
returns-in-Err g c =
    no_file (g.S.ResourceSource.may_answer c.args.source.now) (g.S.ResourceSource.may_lack c.args.source.now) _ wanted.All c.file_refusal.result _ c.file_refusal.ensures.refused c.file_refusal.ensures.fair (still _ _)

pub returns : goal.returns
returns g c =
    runs_with (g.S.ResourceSource.may_answer c.args.source.now) (g.S.ResourceSource.may_lack c.args.source.now) _ _ _ _ _ _ _ wanted.All c.fetch_under.result _ c.fetch_under.ensures.fetched c.fetch_under.ensures.refused
