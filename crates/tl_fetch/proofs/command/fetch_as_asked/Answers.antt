use Rattle.std.proofs.Common.{string_bytes, subst, sym, inl}
use Rattle.tl_source.specs.Sources.{origin_of}
use Rattle.tl_source.specs.Url.{IsNoUrl}
use Rattle.tl_fetch.specs.Command.{HasScheme, IsOriginOf}
use Rattle.tl_fetch.proofs.Passages.{still}
use Rattle.tl_fetch.proofs.RunLemmas.{renamed}
use Rattle.tl_fetch.proofs.command.fetch_as_asked.Goals as goal

pub returns : goal.returns
returns g c =
    let options = c.args.options.now in
    renamed _ options (origin_of c.new-source.result) c.lack.result _ _ _ (subst (λ s. IsOriginOf (string_bytes options.from) (origin_of s)) (sym c.new-source.ensures)
    (subst (λ t. IsOriginOf t (origin_of c.in-Ok.source)) c.as_str-from.ensures.value c.in-Ok.ensures.found)) c.with_lack.ensures c.fetch_through-outcome.ensures

pub returns-in-Err : goal.returns-in-Err
returns-in-Err g c =
    let why = c.in-Err.ensures.refused in
    let from = c.as_str-from.ensures.value in
    inl (why.0, subst HasScheme from why.1, subst IsNoUrl from why.2, still _ _)
