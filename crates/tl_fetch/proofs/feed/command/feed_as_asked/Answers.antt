use Rattle.std.proofs.Common.{map, string_bytes, subst, sym, inl}
use Rattle.tl_source.specs.Sources.{origin_of}
use Rattle.tl_source.specs.Url.{IsNoUrl}
use Rattle.tl_fetch.specs.Command.{HasScheme, IsOriginOf}
use Rattle.tl_fetch.proofs.FeedLemmas.{bad_texts, feed_renamed, no_address}
use Rattle.tl_fetch.proofs.Passages.{still}
use Rattle.tl_fetch.proofs.feed.command.feed_as_asked.Goals as goal

pub returns-in-Err : goal.returns-in-Err
returns-in-Err g c =
    no_address _ (map string_bytes c.args.to.now) c.args.options.now c.in-Err.fault _ (still _ _) (bad_texts (string_bytes c.args.options.now.from) (map string_bytes c.args.to.now) c.in-Err.fault c.in-Err.ensures.refused)

pub returns : goal.returns
returns g c =
    let options = c.args.options.now in
    feed_renamed _ (map string_bytes c.args.to.now) options (origin_of c.new-source.result) c.lack.result _ _ _ (subst (λ s. IsOriginOf (string_bytes options.from) (origin_of s)) (sym c.new-source.ensures)
    (subst (λ t. IsOriginOf t (origin_of c.in-Ok-source_of.source)) c.as_str-from.ensures.value c.in-Ok-source_of.ensures.found)) c.with_lack.ensures c.feed_with_state-outcome.ensures

pub returns-in-Err-source_of : goal.returns-in-Err-source_of
returns-in-Err-source_of g c =
    let why = c.in-Err-source_of.ensures.refused in
    let from = c.as_str-from.ensures.value in
    no_address _ (map string_bytes c.args.to.now) c.args.options.now c.in-Err-source_of.fault _ (still _ _) (inl (why.0, subst HasScheme from why.1, subst IsNoUrl from why.2))
