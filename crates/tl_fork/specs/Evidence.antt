-- Evidence that a log forked: two checkpoints that it signed, of which neither tree is a prefix of the other (C2SP
-- tlog-checkpoint; RFC 6962, section 2.1.2).
use Rattle.std.specs.Prelude.{◌≡◌, ◌≢◌, ◌⊎◌, List, [], ◌++◌, length, take}
use Rattle.sha2.specs.Sha256.{sha256}
use Rattle.tl_hash.specs.Bytes.{Bytes}
use Rattle.tl_hash.specs.Collision.{Collides}
use Rattle.tl_hash.specs.Tree.{tree_hash, inputs}
use Rattle.tl_note.specs.Key.{Key}
use Rattle.tl_proof.specs.Acceptance.{AcceptsConsistency}
use Rattle.tl_proof.specs.Collisions.{fold_inputs}
use Rattle.tl_checkpoint.specs.Checkpoint.{Head}
use Rattle.tl_checkpoint.specs.OpenCheckpoint.{IsSignedCheckpoint}
use Rattle.tl_command.specs.ProofText.{Consistency, IsConsistency, consistency_text}

-- the bytes are a signed checkpoint of the log of this name, signed by one of its keys
pub record IsOfLog (keys : List Key) (name bytes : Bytes) (c : Head) : Type 0 where
  pub signed : IsSignedCheckpoint bytes keys c
  pub named : c.origin ≡ name

-- a proof is accepted, and leads to the second checkpoint's tree from a tree of the first one's size with another
-- root
pub record LeadsElsewhere (a b : Head) (p : Consistency) : Type 0 where
  pub accepted : AcceptsConsistency sha256 p.proof p.size p.root p.old p.old_root
  pub old : p.old ≡ a.size
  pub other : p.old_root ≢ a.root
  pub size : p.size ≡ b.size
  pub root : p.root ≡ b.root

-- two checkpoints have one size and different roots
pub record HaveTwoRoots (a b : Head) : Type 0 where
  pub size : a.size ≡ b.size
  pub roots : a.root ≢ b.root

-- the text behind two checkpoints shows that they disagree: it is empty, and they have one size and different roots;
-- or it is a consistency proof that leads to the tree of one from a tree of the other's size with another root
abbrev pub Disagree : Head → Head → Bytes → Type 0
Disagree a b text =
    ((text ≡ []) × HaveTwoRoots a b)
    ⊎ ((p : Consistency) × IsConsistency p × (text ≡ consistency_text p) × (LeadsElsewhere a b p ⊎ LeadsElsewhere b a p))

-- the text is evidence that the log of this name, which signs by these keys, forked: two of its checkpoints, and what
-- shows that they disagree
pub record IsEvidence (keys : List Key) (name text : Bytes) : Type 0 where
  pub first : Bytes
  pub second : Bytes
  pub proof : Bytes
  pub a : Head
  pub b : Head
  pub parts : text ≡ first ++ (second ++ proof)
  pub first_of : IsOfLog keys name first a
  pub second_of : IsOfLog keys name second b
  pub disagree : Disagree a b proof

-- ---- what evidence shows

-- a checkpoint is that of a prefix of this list
pub record IsOfBeginning (log : List Bytes) (c : Head) : Type 0 where
  pub root : c.root ≡ tree_hash sha256 (take c.size log)
  pub within : length (take c.size log) ≡ c.size

-- two different byte strings have one SHA-256: one that is hashed to check the proof, and one that is hashed for the
-- tree of a prefix of the list
abbrev pub ProofCollides : List Bytes → Consistency → Type 0
ProofCollides log p =
    (x : Bytes) × (y : Bytes)
    × Collides sha256 x y (fold_inputs sha256 p.old p.size p.proof p.old_root) (inputs sha256 (take p.size log))

-- evidence accuses no log whose checkpoints are each of a prefix of one list, or two byte strings collide
abbrev pub AccusesNoHonestLog : Type 0
AccusesNoHonestLog =
    (a b : Head) (text : Bytes) → Disagree a b text
    → (log : List Bytes) → IsOfBeginning log a → IsOfBeginning log b
    → (p : Consistency) × (text ≡ consistency_text p) × ProofCollides log p
