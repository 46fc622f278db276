-- The text of a key that signs requests, while it is read.
use Rattle.std.specs.Prelude.{◌≡◌, ◌⊎◌, [], ◌++◌}
use Rattle.tl_hash.specs.Bytes.{Bytes}
use Rattle.tl_text.specs.Pieces.{IsNoLine}
use Rattle.tl_text.specs.Text.{HasNoControl, line}

-- the first line was cut off at its newline, or the text has none
abbrev pub IsCut : Bytes → Bytes → Bytes → Type 0
IsCut text words after =
    (HasNoControl words × (text ≡ line words ++ after)) ⊎ (IsNoLine text × (words ≡ text) × (after ≡ []))
