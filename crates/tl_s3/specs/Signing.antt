-- Signatures (AWS, "Signature Calculations for the Authorization Header: Transferring Payload in a Single Chunk (AWS
-- Signature Version 4)", Tasks 2 and 3).
use Rattle.std.specs.Prelude.{◌++◌, codes}
use Rattle.hex.specs.Hex.{encode_lower}
use Rattle.sha2.specs.Sha256.{sha256}
use Rattle.tl_hash.specs.Bytes.{Bytes}
use Rattle.tl_key.specs.Hmac.{hmac}
use Rattle.tl_s3.specs.Canonical.{Signed, canonical_text, signed_names}
use Rattle.tl_s3.specs.Time.{Civil, day_text, time_text}

-- a credential: its key, and the region and the service that its signatures are for
pub record Scoped : Type 0 where
  pub id : Bytes
  pub secret : Bytes
  pub region : Bytes
  pub service : Bytes

-- the scope of a credential on the day of this time
abbrev pub scope_text : Scoped → Civil → Bytes
scope_text c t =
    day_text t ++ codes "/" ++ c.region ++ codes "/" ++ c.service ++ codes "/aws4_request"

-- the string to sign at this time
abbrev pub string_to_sign : Signed → Scoped → Civil → Bytes
string_to_sign r c t =
    codes "AWS4-HMAC-SHA256\n" ++ time_text t ++ codes "\n" ++ scope_text c t ++ codes "\n"
    ++ encode_lower (sha256 (canonical_text r))

-- the signing key on this day
abbrev pub signing_key : Scoped → Civil → Bytes
signing_key c t =
    hmac (hmac (hmac (hmac (codes "AWS4" ++ c.secret) (day_text t)) c.region) c.service)
    (codes "aws4_request")

-- the signature
abbrev pub signature : Signed → Scoped → Civil → Bytes
signature r c t = encode_lower (hmac (signing_key c t) (string_to_sign r c t))

-- the value of the field Authorization
abbrev pub authorization : Signed → Scoped → Civil → Bytes
authorization r c t =
    codes "AWS4-HMAC-SHA256 Credential=" ++ c.id ++ codes "/" ++ scope_text c t
    ++ codes ",SignedHeaders=" ++ signed_names r.fields
    ++ codes ",Signature=" ++ signature r c t
