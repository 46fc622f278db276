-- A proof that an entry is in a log, and its text (C2SP tlog-proof).
use Rattle.std.specs.Prelude.{ℕ, ◌≤◌, List, [], ◌∷◌, ◌++◌, length, All, IsUtf8, codes, Option, Some, None, IfSome, option_map, vec_items}
use Rattle.std.specs.List.{flat_map}
use Rattle.base64.specs.GeneralPurpose.{IsBytes}
use Rattle.tl_hash.specs.Bytes.{Bytes, IsHash}
use Rattle.tl_text.specs.Text.{line, number_text, base64_text, IsSize}
use Rattle.tl_offline.specs.declared.proof.OfflineProof.{OfflineProof}

-- what a proof says: data without a meaning of their own, the entry's index, the inclusion proof, the signed
-- checkpoint
pub record TlogProof : Type 0 where
  pub extra : Option Bytes
  pub index : ℕ
  pub hashes : List Bytes
  pub note : Bytes

-- the same, whatever memory it is in
abbrev pub proof_of : {A : Type 0} → OfflineProof A → TlogProof
proof_of p = record { extra = option_map vec_items p.extra; index = p.index; hashes = vec_items p.hashes; note = p.note.now }

-- what has a text: an index below 2^63, at most 63 hashes, and a note in UTF-8, of which nothing else is asked here
pub record IsProof (p : TlogProof) : Type 0 where
  pub extra : IfSome p.extra IsBytes
  pub index : IsSize p.index
  pub few : length p.hashes ≤ 63
  pub hashes : All IsHash p.hashes
  pub utf8 : IsUtf8 p.note

-- the first line
abbrev pub version_line : Bytes
version_line = line (codes "c2sp.org/tlog-proof@v1")

-- the line of the extra data, if there are any
abbrev pub extra_line : Option Bytes → Bytes
extra_line None = []
extra_line (Some extra) = line (codes "extra " ++ base64_text extra)

-- the line of the index
abbrev pub index_line : ℕ → Bytes
index_line index = line (codes "index " ++ number_text index)

-- hashes, one on each line
abbrev pub hash_lines : List Bytes → Bytes
hash_lines hashes = flat_map (λ hash. line (base64_text hash)) hashes

-- the version, the extra data, the index, the hashes, an empty line, the note
abbrev pub proof_text : TlogProof → Bytes
proof_text p = version_line ++ extra_line p.extra ++ index_line p.index ++ hash_lines p.hashes ++ 10 ∷ p.note
