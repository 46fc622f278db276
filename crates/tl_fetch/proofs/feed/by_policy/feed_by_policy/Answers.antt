use Rattle.std.proofs.Common.{◌∙◌, refl, subst}
use Rattle.tl_hash.specs.Bytes.{Bytes}
use Rattle.tl_policy.specs.Terms.{terms_of}
use Rattle.tl_fetch.specs.ByPolicy.{AreKeysBy}
use Rattle.tl_fetch.proofs.Policies.{feeds_by}
use Rattle.tl_fetch.proofs.feed.by_policy.feed_by_policy.Goals as goal

pub returns : goal.returns
returns g c =
    let keys = c.in_ok-keys.keys in
    let terms = terms_of c.args.text.now in
    feeds_by terms c.args.options.now _ keys.key keys.other (record { terms = terms; since = c.since_of.result }) _ _ _
    (subst (λ (from : Bytes). AreKeysBy terms from keys.key keys.other) c.as_str.ensures.value c.in_ok-keys.ensures.read)
    (c.as_str-2.ensures.value ∙ (c.in_ok-origin.ensures.ok ∙ c.name.ensures)) refl refl refl refl c.since_of.ensures c.feed_by.ensures
