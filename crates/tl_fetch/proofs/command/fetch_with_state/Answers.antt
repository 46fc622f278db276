use Rattle.tl_fetch.proofs.RunLemmas.{no_state, runs_with, some_state}
use Rattle.tl_fetch.proofs.command.fetch_with_state.Goals as goal

pub returns-in_default : goal.returns-in_default
returns-in_default g c =
    no_state c.args.options.now.state (g.S.ResourceSource.may_answer c.args.source.now) (g.S.ResourceSource.may_lack c.args.source.now) _ c.args.options.now.wanted c.fetch_under.result _ c.in_default.is
    (runs_with (g.S.ResourceSource.may_answer c.args.source.now) (g.S.ResourceSource.may_lack c.args.source.now) _ _ _ _ _ _ _ c.args.options.now.wanted c.fetch_under.result _ c.fetch_under.ensures.fetched c.fetch_under.ensures.refused)

pub returns : goal.returns
returns g c =
    some_state c.args.options.now.state c.in-Some.path (g.S.ResourceSource.may_answer c.args.source.now) (g.S.ResourceSource.may_lack c.args.source.now) _ c.args.options.now.wanted c.fetch_with_file.result _ c.in-Some.is c.fetch_with_file.ensures
