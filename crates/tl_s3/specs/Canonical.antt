-- The canonical request (AWS, "Signature Calculations for the Authorization Header: Transferring Payload in a Single
-- Chunk (AWS Signature Version 4)", Task 1). The fields of a request are in canonical form already, and are sent in
-- that form.
use Rattle.std.specs.Prelude.{◌≡◌, ◌==◌, ◌++◌, Bool, true, false, List, [], ◌∷◌, nat_lt, nat_le, codes, if◌then◌else◌}
use Rattle.std.specs.List.{AllByRecursion, flat_map}
use Rattle.tl_hash.specs.Bytes.{Bytes}

-- a field: its name and its value
abbrev pub Pair : Type 0
Pair = Bytes × Bytes

-- the parts of a request that are signed; the path and the query are encoded, and the payload is the digest of the
-- body
pub record Signed : Type 0 where
  pub method : Bytes
  pub path : Bytes
  pub query : Bytes
  pub fields : List Pair
  pub payload : Bytes

-- whether a text comes before another in the order of their characters' codes
abbrev pub comes_before : Bytes → Bytes → Bool
comes_before a [] = false
comes_before [] (y ∷ b) = true
comes_before (x ∷ a) (y ∷ b) =
    if nat_lt x y then true else (if x == y then comes_before a b else false)

-- whether each field's name comes before the next one's
abbrev pub ascend : List Pair → Bool
ascend [] = true
ascend (f ∷ []) = true
ascend (f ∷ g ∷ more) = if comes_before f.0 g.0 then ascend (g ∷ more) else false

-- whether no character is a capital letter
abbrev pub is_lower : Bytes → Bool
is_lower [] = true
is_lower (b ∷ more) =
    if nat_le 65 b then (if nat_le b 90 then false else is_lower more) else is_lower more

-- whether no blank of the text follows another and none ends it; `true` means that a blank, or the beginning, comes
-- before
abbrev pub is_trimmed_after : Bool → Bytes → Bool
is_trimmed_after true [] = false
is_trimmed_after false [] = true
is_trimmed_after before (b ∷ more) =
    if nat_le b 32 then (if before then false else is_trimmed_after true more)
    else is_trimmed_after false more

-- whether a text neither begins nor ends with a blank, and no blank follows another: trimming leaves it as it is
abbrev pub is_trimmed : Bytes → Bool
is_trimmed [] = true
is_trimmed (b ∷ more) = is_trimmed_after true (b ∷ more)

-- the name is in lower case, and the value is trimmed
abbrev pub IsCanonicalField : Pair → Type 0
IsCanonicalField f = (is_lower f.0 ≡ true) × (is_trimmed f.1 ≡ true)

-- the names are in lower case and in order, and each once; the values are trimmed
pub record IsCanonical (fields : List Pair) : Type 0 where
  pub each : AllByRecursion IsCanonicalField fields
  pub ordered : ascend fields ≡ true

-- a line of the canonical headers
abbrev pub field_line : Pair → Bytes
field_line f = f.0 ++ codes ":" ++ f.1 ++ codes "\n"

-- the names of the signed headers
abbrev pub signed_names : List Pair → Bytes
signed_names [] = []
signed_names (f ∷ []) = f.0
signed_names (f ∷ g ∷ more) = f.0 ++ codes ";" ++ signed_names (g ∷ more)

-- the canonical request
abbrev pub canonical_text : Signed → Bytes
canonical_text r =
    r.method ++ codes "\n" ++ r.path ++ codes "\n" ++ r.query ++ codes "\n"
    ++ flat_map field_line r.fields ++ codes "\n"
    ++ signed_names r.fields ++ codes "\n" ++ r.payload
