-- How the publications of a log relate to each other (RFC 6962, "Merkle Consistency Proofs").
use Rattle.std.specs.Prelude.{◌≡◌, ◌≢◌, ◌⊎◌, List, AllPairs, Contains}
use Rattle.tl_hash.specs.Bytes.{Bytes}
use Rattle.tl_note.specs.Note.{Signature, Note}
use Rattle.tl_checkpoint.specs.Checkpoint.{IsHead}
use Rattle.tl_log.specs.Histories.{Prefix, Begins}
use Rattle.tl_log.specs.Checkpoints.{head_of_log, text_of_log}

-- one list is a prefix of the other
abbrev pub AreConsistent : List Bytes → List Bytes → Type 0
AreConsistent a b = Begins a b ⊎ Begins b a

-- of any two publications the entries of the earlier one are a prefix of the later one's
abbrev pub NeverShrinks : List Prefix → Type 0
NeverShrinks history = AllPairs (λ p q. Begins p.entries q.entries) history

-- two different notes of these publications have one entity tag
pub record HaveOneTag (tag : Bytes → Bytes) (history : List Prefix) : Type 0 where
  pub one : Prefix
  pub other : Prefix
  pub of_one : Contains history one
  pub of_other : Contains history other
  pub apart : one.note ≢ other.note
  pub met : tag one.note ≡ tag other.note

-- the bytes are a note of the checkpoint that the log with this origin has for these entries, whoever signed it (C2SP
-- tlog-checkpoint)
pub record IsCheckpointOf (origin : Bytes) (entries : List Bytes) (note : Bytes) : Type 0 where
  pub lines : List Signature
  pub stated : IsHead (head_of_log origin entries)
  pub noted : Note note (text_of_log origin entries) lines
