-- Checkpoints and their texts (C2SP tlog-checkpoint, "Note text").
use Rattle.std.specs.Prelude.{ℕ, List, ◌++◌, All, map, string_bytes, vec_items}
use Rattle.std.specs.List.{flat_map}
use Rattle.tl_hash.specs.Bytes.{Bytes, IsHash}
use Rattle.tl_text.specs.Text.{line, number_text, base64_text, IsOneLine, IsSize}
use Rattle.tl_checkpoint.specs.declared.checkpoint.Checkpoint.{Checkpoint}

-- a checkpoint, apart from the memory that its texts are in
pub record Head : Type 0 where
  pub origin : Bytes
  pub size : ℕ
  pub root : Bytes
  pub extensions : List Bytes

abbrev pub head_of : {A : Type 0} → Checkpoint A → Head
head_of c = record { origin = string_bytes c.origin; size = c.size; root = c.root; extensions = map string_bytes (vec_items c.extensions) }

-- a checkpoint that has a text
pub record IsHead (c : Head) : Type 0 where
  pub origin : IsOneLine c.origin
  pub size : IsSize c.size
  pub root : IsHash c.root
  pub extensions : All IsOneLine c.extensions

-- the text: lines for origin, size, root, and the extensions
abbrev pub checkpoint_text : Head → Bytes
checkpoint_text c = line c.origin ++ line (number_text c.size) ++ line (base64_text c.root) ++ flat_map line c.extensions
