-- The fields of a response's head, and how they frame its body (RFC 9110, sections 5.1, 8.4 and 8.6; RFC 9112,
-- section 6).
use Rattle.std.specs.Prelude.{◌≡◌, ◌≢◌, ◌⊎◌, ℕ, ◌<◌, ◌^◌, List, [], ◌∷◌, Option, Some, None, codes, map}
use Rattle.std.specs.Char.{to_ascii_lowercase}
use Rattle.std.specs.List.{AllByRecursion}
use Rattle.tl_hash.specs.Bytes.{Bytes}
use Rattle.tl_http.specs.FieldValues.{values_of, IsNumber}
use Rattle.tl_http.specs.declared.framing.Framing.{Framing}
use Rattle.tl_http.specs.declared.framing.Framing.TheVariants.{Sized, UntilEnd, Chunked}

-- the texts are equal but for the case of letters
abbrev pub IsSameWord : Bytes → Bytes → Type 0
IsSameWord text word = map to_ascii_lowercase text ≡ map to_ascii_lowercase word

-- the body has no content coding: these values of Content-Encoding are none, or `identity` once (RFC 9110, section
-- 8.4.1)
abbrev pub IsIdentity : List Bytes → Type 0
IsIdentity values = (values ≡ []) ⊎ ((value : Bytes) × (values ≡ value ∷ []) × IsSameWord value (codes "identity"))

-- the body is chunked and has no other coding: these values of Transfer-Encoding are `chunked` once (RFC 9112,
-- section 6.1)
abbrev pub IsChunked : List Bytes → Type 0
IsChunked values = (value : Bytes) × (values ≡ value ∷ []) × IsSameWord value (codes "chunked")

-- the body is sent without a transfer coding or, over HTTP/1.1, in chunks
abbrev pub IsSent : ℕ → List (Bytes × Bytes) → Type 0
IsSent minor fields =
    (values_of (codes "Transfer-Encoding") fields ≡ [])
    ⊎ ((minor ≡ 1) × IsChunked (values_of (codes "Transfer-Encoding") fields))

-- the body has no coding but chunks
pub record IsPlain (minor : ℕ) (fields : List (Bytes × Bytes)) : Type 0 where
  pub sent : IsSent minor fields
  pub kept : IsIdentity (values_of (codes "Content-Encoding") fields)

-- the text is digits, at least one, and they write n, which is below 2^63
pub record IsLength (n : ℕ) (text : Bytes) : Type 0 where
  pub written : IsNumber text n
  pub below : n < 2 ^ 63

-- these values of Content-Length announce a body of n bytes: each of them writes n. No value announces no length
abbrev pub AnnouncesLength : List Bytes → Option ℕ → Type 0
AnnouncesLength values None = values ≡ []
AnnouncesLength values (Some n) = (values ≢ []) × AllByRecursion (IsLength n) values

-- the values of Content-Length among the fields announce this length, or none
abbrev pub HasLength : List (Bytes × Bytes) → Option ℕ → Type 0
HasLength fields n = AnnouncesLength (values_of (codes "Content-Length") fields) n

-- the fields say where the body ends: after n bytes, with the input, or with its last chunk. A length beside
-- chunks isn't clear (RFC 9112, section 6.3)
abbrev pub HasFraming : List (Bytes × Bytes) → Framing → Type 0
HasFraming fields (Sized n) = (values_of (codes "Transfer-Encoding") fields ≡ []) × HasLength fields (Some n)
HasFraming fields UntilEnd = (values_of (codes "Transfer-Encoding") fields ≡ []) × HasLength fields None
HasFraming fields Chunked = IsChunked (values_of (codes "Transfer-Encoding") fields) × HasLength fields None
