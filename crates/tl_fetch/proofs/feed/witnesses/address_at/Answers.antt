use Rattle.std.proofs.Common.{◌∙◌, [], ap, string_bytes, subst, sym}
use Rattle.std.specs.Prelude.{MatchOption}
use Rattle.std.proofs.lemmas.List.{get_or-map}
use Rattle.tl_hash.specs.Bytes.{Bytes}
use Rattle.tl_source.specs.Url.{IsNoUrl}
use Rattle.tl_fetch.specs.Inner.Witnesses.{IsAddressOf}
use Rattle.tl_fetch.proofs.feed.witnesses.address_at.Goals as goal

pub returns : goal.returns
returns c =
    let texts = c.args.texts.now in
    let text = c.index-texts-place.result in
    subst (λ (t : Bytes). MatchOption c.parse.result (IsNoUrl t) (λ url. IsAddressOf t url))
    (c.as_str.ensures.value ∙ ap string_bytes c.index-texts-place.is ∙ sym (get_or-map string_bytes texts c.args.place text [] c.requires)) c.parse.ensures
