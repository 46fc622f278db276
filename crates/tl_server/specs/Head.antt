-- The head of a request, of at most 8,192 bytes and 64 fields, and the body that follows (RFC 9112, sections 2 to 6).
use Rattle.std.specs.Prelude.{◌≡◌, ℕ, ◌≤◌, List, [], ◌∷◌, ◌++◌, length, codes}
use Rattle.httparse.specs.Grammar.{RequestHead, ReadsRequest, print_request}
use Rattle.tl_hash.specs.Bytes.{Bytes}
use Rattle.tl_http.specs.FieldValues.{values_of, IsNumber}

-- the input begins with this head, of at most 8,192 bytes and 64 fields, and goes on with rest
pub record HasHead (input : Bytes) (head : RequestHead) (rest : Bytes) : Type 0 where
  pub reads : ReadsRequest input head rest
  pub short : length (print_request head) ≤ 8192
  pub few : length head.fields ≤ 64

-- the fields give the length of the body once, as n bytes, and no field says that it is sent in another form (RFC
-- 9112, section 6)
pub record IsSized (fields : List (Bytes × Bytes)) (n : ℕ) : Type 0 where
  pub plain : values_of (codes "Transfer-Encoding") fields ≡ []
  pub text : Bytes
  pub once : values_of (codes "Content-Length") fields ≡ text ∷ []
  pub length_is : IsNumber text n

-- the first n bytes of `rest` are this body
pub record HasBody (rest : Bytes) (n : ℕ) (body : Bytes) : Type 0 where
  pub after : Bytes
  pub joined : rest ≡ body ++ after
  pub length_is : length body ≡ n
