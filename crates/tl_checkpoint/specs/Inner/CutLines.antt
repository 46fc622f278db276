-- Lines cut from the text of a checkpoint.
use Rattle.std.specs.Prelude.{◌≡◌, List, ◌∷◌, All}
use Rattle.std.specs.List.{flat_map}
use Rattle.tl_hash.specs.Bytes.{Bytes}
use Rattle.tl_text.specs.Text.{line, IsOneLine}
use Rattle.tl_checkpoint.specs.declared.parsing.Parts.{Parts}
use Rattle.tl_checkpoint.specs.ParseCheckpoint.{IsInLines}

-- the text is these lines, none of them empty
pub record AreExtensions (text : Bytes) (lines : List Bytes) : Type 0 where
  pub each : All IsOneLine lines
  pub joined : text ≡ flat_map line lines

-- the text is any number of lines, none of them empty
abbrev pub AreSome : Bytes → Type 0
AreSome text = (lines : List Bytes) × AreExtensions text lines

-- the text is cut into three lines and the text of the extensions
pub record CutsLines (text : Bytes) (parts : Parts) : Type 0 where
  pub extensions : AreSome parts.extensions.now
  pub lines : IsInLines text (parts.origin.now ∷ parts.size.now ∷ parts.root.now ∷ extensions.0)
