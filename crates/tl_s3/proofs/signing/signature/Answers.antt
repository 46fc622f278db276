use Rattle.std.proofs.Common.{◌∙◌, ap, List, ℕ}
use Rattle.hex.specs.Hex.{encode_lower}
use Rattle.tl_key.specs.Hmac.{hmac}
use Rattle.tl_s3.specs.CanonicalRequests.{credential_of}
use Rattle.tl_s3.specs.Signing.{signing_key}
use Rattle.tl_s3.proofs.signing.signature.Goals as goal

pub returns : goal.returns
returns g c =
    let key = c.as_bytes.ensures.value ∙ c.in_ok-key.ensures.key in
    let text = c.as_bytes-2.ensures.value ∙ c.in_ok-text.ensures.text in
    let mac = c.hmac-mac.ensures ∙ (ap (λ (k : List ℕ). hmac k c.as_bytes-2.result.now) key ∙ ap (λ (t : List ℕ). hmac (signing_key (credential_of c.args.credential.now) c.args.moment.now) t) text) in
    record {
      digits = c.in_ok-digits.ensures ∙ ap (λ (b : List ℕ). encode_lower b) (c.as_slice.ensures ∙ (c.as_bytes-3.ensures.value ∙ mac));
    }
