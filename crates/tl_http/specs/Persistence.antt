-- Connections that stay open after a response (RFC 9112, sections 6.3, 9.3 and 9.6; RFC 9110, sections 7.6.1 and
-- 15.2.2).
use Rattle.std.specs.Prelude.{◌≡◌, ◌≢◌, ℕ, ◌==◌, ◌||◌, ◌++◌, Bool, true, List, [], ◌∷◌, IsTrue, codes, reverse, if◌then◌else◌}
use Rattle.std.specs.List.{AllByRecursion}
use Rattle.httparse.specs.Ascii.{comma}
use Rattle.httparse.specs.Grammar.{is_ows}
use Rattle.tl_hash.specs.Bytes.{Bytes}
use Rattle.tl_http.specs.FieldValues.{values_of}
use Rattle.tl_http.specs.Fields.{IsSameWord}
use Rattle.tl_http.specs.declared.framing.Framing.{Framing}
use Rattle.tl_http.specs.declared.framing.Framing.TheVariants.{Sized}

-- a status of responses that have no body, whatever their fields say (RFC 9112, section 6.3)
abbrev pub is_bodiless : ℕ → Bool
is_bodiless status = status == 204 || status == 304

-- how the body of a response with this status ends, whose fields frame it like this
abbrev pub body_framing : ℕ → Framing → Framing
body_framing status framing = if is_bodiless status then Sized 0 else framing

-- whether only spaces and tabs come before the text's end or a comma
abbrev pub is_item_end : Bytes → Bool
is_item_end [] = true
is_item_end (b ∷ more) = if is_ows b then is_item_end more else b == comma

-- the value is a list of words with commas between them, and one of them is `close` in any case (RFC 9110, section
-- 5.6.1)
pub record NamesClose (value : Bytes) : Type 0 where
  pub before : Bytes
  pub word : Bytes
  pub after : Bytes
  pub joined : value ≡ before ++ word ++ after
  pub close : IsSameWord word (codes "close")
  pub first : IsTrue (is_item_end (reverse before))
  pub last : IsTrue (is_item_end after)

-- the connection goes on after a response over HTTP/1 with this minor version, status, fields and framing: it is of
-- HTTP/1.1 and changes no protocol, no field Connection names `close`, and the head says how long the body is
pub record Persists (minor status : ℕ) (fields : List (Bytes × Bytes)) (framing : Framing) : Type 0 where
  pub version : minor ≡ 1
  pub protocol : status ≢ 101
  pub unclosed : AllByRecursion (λ value. ¬ (NamesClose value)) (values_of (codes "Connection") fields)
  pub sized : (n : ℕ) × (framing ≡ Sized n)
