-- What reading a proof answers: the proof that a text is, or the first line that is wrong (C2SP tlog-proof).
use Rattle.std.specs.Prelude.{◌≡◌, ◌≢◌, ℕ, ◌+◌, ◌<◌, ◌≤◌, List, [], ◌++◌, length, All, codes, Option, Some, None, IfNone, IfSome, IsSome, Result, Ok, Err, ◌⊎◌}
use Rattle.base64.specs.GeneralPurpose.{IsBytes}
use Rattle.tl_hash.specs.Bytes.{Bytes, IsHash}
use Rattle.tl_text.specs.Text.{line, IsSize}
use Rattle.tl_text.specs.Pieces.{IsNoHash}
use Rattle.tl_offline.specs.declared.proof.OfflineProof.{OfflineProof}
use Rattle.tl_offline.specs.declared.proof.ProofFault.{ProofFault}
use Rattle.tl_offline.specs.declared.proof.ProofFault.TheVariants.{NoHeader, BadExtra, NoIndex, NoHash, TooMany, NoCheckpoint, OutOfMemory}
use Rattle.tl_offline.specs.ProofText.{TlogProof, IsProof, proof_of, proof_text, version_line, extra_line, index_line, hash_lines}

-- the text has no newline
abbrev pub HasNoNewline : Bytes → Type 0
HasNoNewline text = All (λ byte. byte ≢ 10) text

-- the text doesn't begin with the version's line
abbrev pub HasNoVersion : Bytes → Type 0
HasNoVersion text = (rest : Bytes) → text ≢ version_line ++ rest

-- the text begins with `extra `, but not with the line of extra data
pub record HasNoData (text : Bytes) : Type 0 where
  pub rest : Bytes
  pub begins : text ≡ codes "extra " ++ rest
  pub bad : (extra after : Bytes) → IsBytes extra → text ≢ extra_line (Some extra) ++ after

-- the text doesn't begin with `extra `
abbrev pub HasNoExtra : Bytes → Type 0
HasNoExtra text = (rest : Bytes) → text ≢ codes "extra " ++ rest

-- the text doesn't begin with the line of an index
abbrev pub HasNoIndexLine : Bytes → Type 0
HasNoIndexLine text = (index : ℕ) (rest : Bytes) → IsSize index → text ≢ index_line index ++ rest

-- the number of the line after the version and the extra data
abbrev pub index_place : Option Bytes → ℕ
index_place None = 2
index_place (Some extra) = 3

-- the version's line is followed by `extra `, but not by the line of extra data
abbrev pub HasBadExtra : Bytes → Type 0
HasBadExtra text = (rest : Bytes) × (text ≡ version_line ++ rest) × HasNoData rest

-- line n, after the version and the extra data if there are any, isn't that of an index
pub record HasBadIndex (text : Bytes) (n : ℕ) : Type 0 where
  pub extra : Option Bytes
  pub rest : Bytes
  pub begins : text ≡ version_line ++ extra_line extra ++ rest
  pub lawful : IfSome extra IsBytes
  pub whole : IfNone extra (HasNoExtra rest)
  pub place : n ≡ index_place extra
  pub bad : HasNoIndexLine rest

-- the text begins with the lines of a proof up to these hashes, and goes on with this, from line n on
pub record HasHashes (text : Bytes) (hashes : List Bytes) (n : ℕ) (rest : Bytes) : Type 0 where
  pub extra : Option Bytes
  pub index : ℕ
  pub lawful : IfSome extra IsBytes
  pub small : IsSize index
  pub each : All IsHash hashes
  pub begins : text ≡ version_line ++ extra_line extra ++ index_line index ++ hash_lines hashes ++ rest
  pub place : n ≡ index_place extra + 1 + length hashes

-- line n, after at most 63 hashes, is neither a hash nor empty
pub record HasBadHash (text : Bytes) (n : ℕ) : Type 0 where
  pub hashes : List Bytes
  pub words : Bytes
  pub rest : Bytes
  pub few : length hashes ≤ 63
  pub before : HasHashes text hashes n (line words ++ rest)
  pub whole : HasNoNewline words
  pub some : words ≢ []
  pub bad : IsNoHash words

-- line n is the 64th hash
abbrev pub HasTooMany : Bytes → ℕ → Type 0
HasTooMany text n = (hashes : List Bytes) × (rest : Bytes) × (length hashes ≡ 64) × HasHashes text hashes (n + 1) rest

-- the text ends in line n, after at most 63 hashes
pub record HasNoEnd (text : Bytes) (n : ℕ) : Type 0 where
  pub hashes : List Bytes
  pub rest : Bytes
  pub few : length hashes ≤ 63
  pub before : HasHashes text hashes n rest
  pub ended : HasNoNewline rest

-- the text is no proof, for this reason
abbrev pub IsNoProofFor : Bytes → ProofFault → Type 0
IsNoProofFor text NoHeader = HasNoVersion text
IsNoProofFor text BadExtra = HasBadExtra text
IsNoProofFor text (NoIndex n) = HasBadIndex text n
IsNoProofFor text (NoHash n) = HasBadHash text n
IsNoProofFor text (TooMany n) = HasTooMany text n
IsNoProofFor text (NoCheckpoint n) = HasNoEnd text n
IsNoProofFor text OutOfMemory = ⊥

-- the text is this proof's
abbrev pub IsProofText : Bytes → TlogProof → Type 0
IsProofText text p = IsProof p × (text ≡ proof_text p)

-- memory is asked for hashes and for extra data
abbrev pub TakesMemory : TlogProof → Type 0
TakesMemory p = (0 < length p.hashes) ⊎ IsSome p.extra

-- the proof that the text is, or why it is none
abbrev pub ParsesProof : {A : Type 0} → Bytes → Result (OfflineProof A) ProofFault → Type 0
ParsesProof text (Ok p) = IsProofText text (proof_of p)
ParsesProof text (Err OutOfMemory) = (p : TlogProof) × IsProofText text p × TakesMemory p
ParsesProof text (Err fault) = IsNoProofFor text fault
