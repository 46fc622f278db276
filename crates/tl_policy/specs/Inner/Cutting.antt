-- A text that is cut.
use Rattle.std.specs.Prelude.{◌≡◌, ℕ, ◌==◌, ◌⊎◌, Bool, [], ◌∷◌}
use Rattle.std.specs.List.{slice_split}
use Rattle.tl_hash.specs.Bytes.{Bytes}

abbrev pub is_newline : ℕ → Bool
is_newline byte = byte == 10

-- the first of the parts between the bytes that pass, and what the others are parts of; or it is the only one
abbrev pub CutsFirst : (ℕ → Bool) → Bytes → Bytes → Bytes → Type 0
CutsFirst p text first rest =
    (slice_split p text ≡ first ∷ slice_split p rest) ⊎ ((slice_split p text ≡ first ∷ []) × (rest ≡ []))
