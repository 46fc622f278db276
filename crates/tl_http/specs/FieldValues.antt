-- The fields of a head (RFC 9110, sections 5.1 and 8.6).
use Rattle.std.specs.Prelude.{◌≡◌, ℕ, ◌<◌, List, length, map, filter}
use Rattle.std.specs.Char.{is_ascii_digit}
use Rattle.std.specs.Str.{str_eq_ignore_ascii_case}
use Rattle.std.specs.Str.Parse.{digits_value}
use Rattle.httparse.specs.Grammar.{Field, AllPass}
use Rattle.httparse.specs.Spans.{name_and_value}
use Rattle.tl_hash.specs.Bytes.{Bytes}

-- the names and values of fields, without the white space around a value
abbrev pub fields_of : List Field → List (Bytes × Bytes)
fields_of fields = map name_and_value fields

-- the values of the fields with this name, in any case
abbrev pub values_of : Bytes → List (Bytes × Bytes) → List Bytes
values_of name fields = map (λ f. f.1) (filter (λ f. str_eq_ignore_ascii_case f.0 name) fields)

-- the text is one or more digits, which write n
pub record IsNumber (text : Bytes) (n : ℕ) : Type 0 where
  pub some : 0 < length text
  pub digits : AllPass is_ascii_digit text
  pub value : digits_value 10 text ≡ n
