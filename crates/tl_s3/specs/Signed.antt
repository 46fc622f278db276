-- Requests as they are signed and sent (AWS, "Signature Calculations for the Authorization Header: Transferring
-- Payload in a Single Chunk (AWS Signature Version 4)"; RFC 9110, section 11.6.2).
use Rattle.std.specs.Prelude.{[], ◌∷◌, ◌++◌, codes}
use Rattle.tl_http.specs.Message.{Sent}
use Rattle.tl_hash.specs.Bytes.{Bytes}
use Rattle.tl_s3.specs.Canonical.{Pair, Signed}
use Rattle.tl_s3.specs.Signing.{Scoped, authorization}
use Rattle.tl_s3.specs.Time.{Civil}

-- the field Authorization with the signature of this very request, by this credential, at this time
abbrev pub authorization_field : Signed → Scoped → Civil → Pair
authorization_field r c t = (codes "authorization", authorization r c t)

-- the request as it is sent: the path and the fields as they are signed, the signature behind them, and the body
abbrev pub signed_sent : Signed → Scoped → Civil → Bytes → Sent
signed_sent r c t body =
    record { method = r.method; target = r.path; fields = r.fields ++ authorization_field r c t ∷ []; body = body }
