use Rattle.tl_fetch.proofs.RunLemmas.{no_cache, some_cache}
use Rattle.tl_fetch.proofs.command.fetch_through.Goals as goal

pub returns-in_default : goal.returns-in_default
returns-in_default g c =
    no_cache c.args.options.now.cache (g.S.ResourceSource.may_answer c.args.source.now) (g.S.ResourceSource.may_lack c.args.source.now) _ c.args.options.now _ _ c.in_default.is c.fetch_with_state.ensures

pub returns : goal.returns
returns g c =
    some_cache c.args.options.now.cache c.in-Some.folder g.S.ResourceSource.may_answer g.S.ResourceSource.may_lack c.new-source.result c.without_links-cache.result c.args.source.now _ c.args.options.now _ _
    c.in-Some.is c.new-source.ensures c.fetch_with_state-2.ensures
