-- A log that is resumed from a published checkpoint and the bundles of its entries (C2SP tlog-checkpoint,
-- tlog-tiles).
use Rattle.std.specs.Prelude.{◌≡◌, ◌≢◌, ℕ, ◌*◌, ◌<◌, ◌≤◌, ◌^◌, List, [], length, take, drop, slice_index_or, Err}
use Rattle.std.specs.Global.{Global}
use Rattle.sha2.specs.Sha256.{sha256}
use Rattle.tl_hash.specs.Tree.{tree_hash}
use Rattle.tl_note.specs.Key.{Key, SigningKey}
use Rattle.tl_note.specs.Note.{IsNote}
use Rattle.tl_tile.specs.Bundle.{bundle_text, AreShortEntries, IsBundle}
use Rattle.tl_tile.specs.Needed.{bundle_width, pieces}
use Rattle.tl_tile.specs.declared.resource.Resource.TheVariants as resource
use Rattle.tl_checkpoint.specs.Checkpoint.{Head}
use Rattle.tl_checkpoint.specs.OpenCheckpoint.{IsSignedCheckpoint, OpensCheckpoint}
use Rattle.tl_checkpoint.specs.declared.opening.OpenCheckpointFault.{OpenCheckpointFault}
use Rattle.tl_checkpoint.specs.declared.opening.OpenCheckpointFault.TheVariants as checkpoint
use Rattle.tl_publisher.specs.declared.fault.OperatorFault.TheVariants as operator
use Rattle.tl_publisher.specs.declared.fault.ResumeFault.{ResumeFault}
use Rattle.tl_publisher.specs.declared.fault.ResumeFault.TheVariants as resume
use Rattle.tl_publisher.specs.Publishing.{OpenRefusesOperator}

-- how many bundles a log of this size needs
abbrev pub bundle_count : ℕ → ℕ
bundle_count size = length (pieces resource.Entries size)

-- what a log is resumed from: the note of its checkpoint, the keys that open it, its bundles, and the log's origin
-- and limit
pub record Resumption : Type 0 where
  pub note : List ℕ
  pub keys : List Key
  pub bundles : List (List ℕ)
  pub origin : List ℕ
  pub limit : ℕ

abbrev pub resumption : List ℕ → List Key → List (List ℕ) → List ℕ → ℕ → Resumption
resumption note keys bundles origin limit =
    record { note = note; keys = keys; bundles = bundles; origin = origin; limit = limit }

-- these are the bundles of these entries
pub record AreBundlesOf (entries bundles : List (List ℕ)) : Type 0 where
  pub short : AreShortEntries entries
  pub count : length bundles ≡ bundle_count (length entries)
  pub each : (place : ℕ) → place < length bundles → slice_index_or bundles place [] ≡ bundle_text (take 256 (drop (place * 256) entries))

-- the log may have this many entries, and has the number of bundles that they need
pub record IsSized (r : Resumption) (size : ℕ) : Type 0 where
  pub within : size ≤ r.limit
  pub small : size < 2 ^ 32
  pub bundled : length r.bundles ≡ bundle_count size

-- the bundle at this position is one of the width that it must have
abbrev pub IsBundleAt : List (List ℕ) → ℕ → ℕ → Type 0
IsBundleAt bundles size place = IsBundle (slice_index_or bundles place []) (bundle_width size place)

-- the first bundle that is not one is at this position
pub record IsFirstBad (bundles : List (List ℕ)) (size place : ℕ) : Type 0 where
  pub within : place < length bundles
  pub bad : IsBundleAt bundles size place → ⊥
  pub before : (i : ℕ) → i < place → IsBundleAt bundles size i

-- the note opens as this checkpoint, which is of this origin
pub record IsOfOrigin (r : Resumption) (c : Head) : Type 0 where
  pub signed : IsSignedCheckpoint r.note r.keys c
  pub origin : c.origin ≡ r.origin

-- the entries are those of the bundles, as many as the checkpoint states and the log may have
pub record AreStated (r : Resumption) (c : Head) (entries : List (List ℕ)) : Type 0 where
  pub of : IsOfOrigin r c
  pub sized : IsSized r c.size
  pub length : length entries ≡ c.size
  pub bundled : AreBundlesOf entries r.bundles

-- the log begins with these entries: they have the size and root of a checkpoint that opened
pub record IsBase (r : Resumption) (base : List (List ℕ)) : Type 0 where
  pub checkpoint : Head
  pub stated : AreStated r checkpoint base
  pub root : tree_hash sha256 base ≡ checkpoint.root

-- The first reason that applies. `Place` and `OutOfMemory` come if no other reason applies; `OutOfMemory` also
-- before, but only if the note is a note.
abbrev pub ResumeRefuses : Resumption → List SigningKey → ℕ → ℕ → ℕ → ResumeFault → Type 0
ResumeRefuses r signers lanes capacity readers resume.Note =
    (fault : OpenCheckpointFault) × (fault ≢ checkpoint.OutOfMemory) × OpensCheckpoint {A = Global} r.note r.keys (Err fault)
ResumeRefuses r signers lanes capacity readers resume.Origin = (c : Head) × IsSignedCheckpoint r.note r.keys c × (c.origin ≢ r.origin)
ResumeRefuses r signers lanes capacity readers resume.Size = (c : Head) × IsOfOrigin r c × (IsSized r c.size → ⊥)
ResumeRefuses r signers lanes capacity readers (resume.Bundle place) = (c : Head) × IsOfOrigin r c × IsSized r c.size × IsFirstBad r.bundles c.size place
ResumeRefuses r signers lanes capacity readers resume.Root = (c : Head) × (base : List (List ℕ)) × AreStated r c base × (tree_hash sha256 base ≢ c.root)
ResumeRefuses r signers lanes capacity readers (resume.Open fault) =
    (base : List (List ℕ)) × IsBase r base × OpenRefusesOperator r.origin signers lanes capacity r.limit readers fault × (fault ≢ operator.OutOfMemory)
ResumeRefuses r signers lanes capacity readers resume.OutOfMemory = IsNote r.note
