use Rattle.std.proofs.Common.{◌∷◌, [], Some, ap, inr, ◌∙◌}
use Rattle.std.proofs.lemmas.Bool.Decides.{Decides-eqb}
use Rattle.std.proofs.lemmas.Slice.Eq.{strip_prefix_is, strip_suffix_is}
use Rattle.tl_hash.specs.Bytes.{Bytes}
use Rattle.tl_bucket.proofs.noting.unquoted.Goals as goal

pub returns-in-Some-strip_suffix : goal.returns-in-Some-strip_suffix
returns-in-Some-strip_suffix c =
    let first = strip_prefix_is Decides-eqb c.args.etag.now (34 ∷ []) (Some c.in-Some.rest) c.in-Some.ensures.cases in
    let last = strip_suffix_is Decides-eqb c.in-Some.rest.now (34 ∷ []) (Some c.in-Some-strip_suffix.bare) c.in-Some-strip_suffix.ensures.cases in
    inr (first ∙ ap (λ (text : Bytes). 34 ∷ text) last)
