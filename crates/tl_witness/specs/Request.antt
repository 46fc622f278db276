-- The body of an add-checkpoint request (C2SP tlog-witness, "add-checkpoint").
use Rattle.std.specs.Prelude.{◌≡◌, ℕ, ◌≤◌, List, ◌∷◌, ◌++◌, length, All, IsUtf8, codes}
use Rattle.std.specs.List.{flat_map}
use Rattle.tl_hash.specs.Bytes.{Bytes, IsHash}
use Rattle.tl_text.specs.Text.{line, number_text, base64_text, IsSize}

-- what a body states: the old size, the consistency proof and the signed checkpoint
pub record Body : Type 0 where
  pub old : ℕ
  pub proof : List Bytes
  pub note : Bytes

-- this can be written as a body: at most 63 hashes, and a note in UTF-8, of which nothing else is required here
pub record IsBody (b : Body) : Type 0 where
  pub old : IsSize b.old
  pub few : length b.proof ≤ 63
  pub hashes : All IsHash b.proof
  pub utf8 : IsUtf8 b.note

-- hashes, one on each line
abbrev pub hash_lines : List Bytes → Bytes
hash_lines hashes = flat_map (λ hash. line (base64_text hash)) hashes

-- the line with the old size, the proof, an empty line, and the note
abbrev pub body_text : Body → Bytes
body_text b = line (codes "old " ++ number_text b.old) ++ hash_lines b.proof ++ 10 ∷ b.note

-- the bytes are this body
pub record IsRequest (bytes : Bytes) (b : Body) : Type 0 where
  pub lawful : IsBody b
  pub spelled : bytes ≡ body_text b
