-- Parts cut from the text of a proof.
use Rattle.std.specs.Prelude.{◌≡◌, ◌≢◌, ℕ, ◌+◌, ◌≤◌, List, ◌∷◌, ◌++◌, length, take, All, IsUtf8, Option, Some, None, IfNone, Result, Ok, Err}
use denote.Ref.{Bor}
use Rattle.tl_hash.specs.Bytes.{Bytes, IsHash}
use Rattle.tl_text.specs.Text.{line, base64_text, IsSize}
use Rattle.tl_text.specs.Pieces.{IsNoHash}
use Rattle.tl_text.specs.Base64.{IsSpelled}
use Rattle.tl_offline.specs.declared.proof.ProofFault.{ProofFault}
use Rattle.tl_offline.specs.declared.proof.ProofFault.TheVariants.{BadExtra, NoHash, TooMany, NoCheckpoint}
use Rattle.tl_offline.specs.declared.parsing.Extra.{Extra}
use Rattle.tl_offline.specs.declared.parsing.Front.{Front}
use Rattle.tl_offline.specs.declared.parsing.Hashes.{Hashes}
use Rattle.tl_offline.specs.ProofText.{extra_line, index_line, hash_lines, version_line}
use Rattle.tl_offline.specs.ParseProof.{HasNoData, HasNoExtra, HasNoNewline, index_place, IsNoProofFor}

-- the base64 of these extra data, or neither
abbrev pub Spells : Option (Bor Bytes) → Option Bytes → Type 0
Spells None None = Unit {0}
Spells (Some words) (Some bytes) = IsSpelled words.now bytes
Spells None (Some bytes) = ⊥
Spells (Some words) None = ⊥

-- the text begins with the line of extra data, or not with `extra `
pub record HasCutExtra (text : Bytes) (cut : Extra) : Type 0 where
  pub bytes : Option Bytes
  pub spelled : Spells cut.words bytes
  pub begins : text ≡ extra_line bytes ++ cut.rest.now
  pub whole : IfNone bytes (HasNoExtra text)
  pub place : 2 + cut.lines ≡ index_place bytes

abbrev pub CutsExtra : Bytes → Result Extra ProofFault → Type 0
CutsExtra text (Ok cut) = HasCutExtra text cut
CutsExtra text (Err BadExtra) = HasNoData text
CutsExtra text (Err _) = ⊥

-- the text begins with the lines before the hashes
pub record HasCutFront (text : Bytes) (front : Front) : Type 0 where
  pub bytes : Option Bytes
  pub spelled : Spells front.extra bytes
  pub small : IsSize front.index
  pub begins : text ≡ version_line ++ extra_line bytes ++ index_line front.index ++ front.rest.now
  pub place : front.next ≡ index_place bytes + 1

abbrev pub CutsFront : Bytes → Result Front ProofFault → Type 0
CutsFront text (Ok front) = HasCutFront text front
CutsFront text (Err fault) = IsNoProofFor text fault

-- the first line of the text is no hash; it has no newline behind it, or it is a line
abbrev pub IsNoHashLine : Bytes → Type 0
IsNoHashLine text = (words : Bytes) × (rest : Bytes) × (text ≡ line words ++ rest) × HasNoNewline words × IsNoHash words

-- the first line is a hash, or why it isn't
abbrev pub CutsHash : Bytes → ℕ → Result (Bytes × Bor Bytes) ProofFault → Type 0
CutsHash text n (Ok r) = IsHash r.0 × (text ≡ line (base64_text r.0) ++ r.1.now) × IsUtf8 r.1.now
CutsHash text n (Err (NoHash m)) = (m ≡ n) × IsNoHashLine text
CutsHash text n (Err (NoCheckpoint m)) = (m ≡ n) × HasNoNewline text
CutsHash text n (Err _) = ⊥

-- the text is the lines of these hashes, and what is left of it
pub record HasRead (text : Bytes) (hashes : List Bytes) (left : Bytes) : Type 0 where
  pub each : All IsHash hashes
  pub whole : text ≡ hash_lines hashes ++ left

-- the text is the lines of hashes, an empty line and a note
pub record HasCutHashes (text : Bytes) (cut : Hashes) : Type 0 where
  pub few : cut.count ≤ 63
  pub utf8 : IsUtf8 cut.note.now
  pub read : HasRead text (take cut.count cut.found) (10 ∷ cut.note.now)

-- the text begins with at most 63 hashes, and then comes this
pub record HasStopped (text : Bytes) (first n : ℕ) (left : Bytes) : Type 0 where
  pub hashes : List Bytes
  pub few : length hashes ≤ 63
  pub read : HasRead text hashes left
  pub place : n ≡ first + length hashes

abbrev pub CutsHashes : Bytes → ℕ → Result Hashes ProofFault → Type 0
CutsHashes text first (Ok cut) = HasCutHashes text cut
CutsHashes text first (Err (NoHash n)) = (left : Bytes) × HasStopped text first n left × IsNoHashLine left × ((rest : Bytes) → left ≢ 10 ∷ rest)
CutsHashes text first (Err (TooMany n)) = (left : Bytes) × (hashes : List Bytes) × HasRead text hashes left × (length hashes ≡ 64) × (n + 1 ≡ first + 64)
CutsHashes text first (Err (NoCheckpoint n)) = (left : Bytes) × HasStopped text first n left × HasNoNewline left
CutsHashes text first (Err _) = ⊥
