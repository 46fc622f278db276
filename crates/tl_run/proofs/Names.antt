-- A log's name is one line.
use Rattle.std.proofs.Common.{ℕ, List}
use Rattle.tl_note.specs.Key.{IsKeyName}
use Rattle.tl_note.proofs.OneNote.{name_plain}
use Rattle.tl_text.specs.Text.{IsOneLine}

-- a key's name is one line
pub name_is_one_line : (name : List ℕ) → IsKeyName name → IsOneLine name
name_is_one_line name is = record { some = is.some; plain = name_plain name is }
