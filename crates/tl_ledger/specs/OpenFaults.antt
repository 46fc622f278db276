-- Why a log on a shelf was not opened.
use Rattle.std.specs.Prelude.{◌≡◌, ◌≢◌, ℕ, ◌≤◌, ◌/◌, ◌%◌, ◌^◌, ◌⊎◌, Bool, true, List, Option, Some, None, Err, Contains, IsUtf8, ⊤}
use Rattle.std.specs.Global.{Global}
use Rattle.sha2.specs.Sha256.{sha256}
use Rattle.tl_hash.specs.Bytes.{Bytes}
use Rattle.tl_hash.specs.declared.head.Head.{Head}
use Rattle.tl_note.specs.Key.{Key}
use Rattle.tl_checkpoint.specs.Checkpoint.{Head as Checkpoint}
use Rattle.tl_checkpoint.specs.OpenCheckpoint.{IsSignedCheckpoint, OpensCheckpoint}
use Rattle.tl_checkpoint.specs.declared.opening.OpenCheckpointFault.{OpenCheckpointFault}
use Rattle.tl_checkpoint.specs.declared.opening.OpenCheckpointFault.TheVariants as unopened
use Rattle.tl_tile.specs.declared.resource.Resource.{Resource}
use Rattle.tl_tile.specs.declared.resource.Resource.TheVariants as resource
use Rattle.tl_tile.specs.declared.resource.Tile.{Tile}
use Rattle.tl_tile.specs.Bundle.{bundle_text}
use Rattle.tl_tile.specs.Fetched.{tiles_of}
use Rattle.tl_tile.specs.Needed.{needed_resources}
use Rattle.tl_tile.specs.SourceFaults.{IsBadTile}
use Rattle.tl_client.specs.Blame.{AnswersNoBundle}
use Rattle.tl_client.specs.Checked.{AreCheckedEntries}
use Rattle.tl_client.specs.Refused.{AnswersOtherEntry, BundleRead}
use Rattle.tl_archive.specs.Shelves.{Held}
use Rattle.tl_archive.specs.declared.fault.ShelfFault.{ShelfFault}
use Rattle.tl_ledger.specs.Opening.{Found, IsNamed, IsOfHeld, IsOfNote, IsOfSigned}
use Rattle.tl_ledger.specs.declared.opened.fault.OpenFault.{OpenFault}
use Rattle.tl_ledger.specs.declared.opened.fault.OpenFault.TheVariants as opening

-- the bytes that a shelf may answer for a resource: if it is honest, those that are there
abbrev pub MayRead : Bool → Held → Resource → Bytes → Type 0
MayRead honest held r text = honest ≡ true → held r ≡ Some text

-- a read of some resource may fail with this error
abbrev pub FailsRead : (Resource → ShelfFault → Type 0) → ShelfFault → Type 0
FailsRead may_fail fault = (r : Resource) × may_fail r fault

-- a log of this size needs the resource, and if the shelf is honest it isn't there
pub record IsMissing (honest : Bool) (held : Held) (size : ℕ) (r : Resource) : Type 0 where
  pub needed : Contains (needed_resources size) r
  pub none : honest ≡ true → held r ≡ None

-- the read of the partial bundle of a log of this size and root, and the tiles over it
abbrev pub last_read : Head → List (Tile × Bytes) → BundleRead
last_read head fetched = record { size = head.size; root = head.root; bundle = head.size / 256; fetched = fetched }

-- the bytes that were read are not the bundle of the entries that were checked
pub record AnswersOtherBytes (answers : Resource → Bytes → Type 0) (read : BundleRead) (width : ℕ) : Type 0 where
  pub text : Bytes
  pub entries : List Bytes
  pub answered : answers (resource.Entries read.bundle width) text
  pub checked : AreCheckedEntries sha256 (tiles_of read.fetched) read.size read.root read.bundle entries
  pub other : text ≢ bundle_text entries

-- the bytes that may be read for the partial bundle are no bundle of its width, or have an entry that isn't the
-- log's, or aren't the bundle of the checked entries
abbrev pub IsBadBundle : (Resource → Bytes → Type 0) → BundleRead → ℕ → Type 0
IsBadBundle answers read width =
    AnswersNoBundle answers read.bundle width
    ⊎ (((entry : ℕ) × AnswersOtherEntry answers read entry) ⊎ AnswersOtherBytes answers read width)

-- the partial tile or the partial bundle of a log of this size and root is wrong, given what was read
abbrev pub IsDamaged : (Resource → Bytes → Type 0) → Head → List (Tile × Bytes) → List (Tile × Bytes) → Resource → Type 0
IsDamaged answers head edge_tiles entry_tiles (resource.Tile t) =
    IsBadTile sha256 head.size head.root edge_tiles t ⊎ IsBadTile sha256 head.size head.root entry_tiles t
IsDamaged answers head edge_tiles entry_tiles (resource.Entries index width) =
    (index ≡ head.size / 256) × (width ≡ head.size % 256) × IsBadBundle answers (last_read head entry_tiles) width
IsDamaged answers head edge_tiles entry_tiles resource.Checkpoint = ⊥

-- the checkpoint that was found is signed, is the one that is there if the shelf is honest, and this holds of its
-- size and root
pub record HasSigned (honest : Bool) (held : Held) (keys : List Key) (found : Option Head) (Holds : Head → Type 0) : Type 0 where
  pub signed : IsOfSigned keys found
  pub there : honest ≡ true → IsOfHeld held keys found
  pub head : Head
  pub is : found ≡ Some head
  pub holds : Holds head

-- the shelf may answer bytes for the checkpoint of which this holds
abbrev pub HasRead : Bool → Held → (Bytes → Type 0) → Type 0
HasRead honest held Holds = (bytes : Bytes) × MayRead honest held resource.Checkpoint bytes × Holds bytes

-- the bytes are no text, or no note that opens with these keys and states a checkpoint
abbrev pub IsUnopened : Bytes → List Key → Type 0
IsUnopened bytes keys =
    (IsUtf8 bytes → ⊥) ⊎ ((fault : OpenCheckpointFault) × (fault ≢ unopened.OutOfMemory) × OpensCheckpoint {A = Global} bytes keys (Err fault))

-- the note opens with these keys, but its checkpoint's origin is the name of none of them
abbrev pub IsOfOther : List Key → Bytes → Type 0
IsOfOther keys note =
    (checkpoint : Checkpoint) × IsSignedCheckpoint note keys checkpoint × ¬ (IsNamed keys checkpoint.origin)

-- the note opens with these keys as a checkpoint of their log with this many entries
pub record StatesSize (note : Bytes) (keys : List Key) (size : ℕ) : Type 0 where
  pub checkpoint : Checkpoint
  pub signed : IsSignedCheckpoint note keys checkpoint
  pub named : IsNamed keys checkpoint.origin
  pub sized : checkpoint.size ≡ size

-- the note opens with these keys, and states more entries than a log may have
abbrev pub StatesTooMany : List Key → Bytes → Type 0
StatesTooMany keys note = (size : ℕ) × StatesSize note keys size × (2 ^ 32 ≤ size)

-- when `Ledger::open` returns each error, given what was read
abbrev pub OpenFails : Bool → Held → (Resource → ShelfFault → Type 0) → List Key → Found → OpenFault → Type 0
OpenFails honest held may_fail keys found opening.Checkpoint = HasRead honest held (λ bytes. IsUnopened bytes keys)
OpenFails honest held may_fail keys found opening.OtherLog = HasRead honest held (IsOfOther keys)
OpenFails honest held may_fail keys found opening.TooLarge = HasRead honest held (StatesTooMany keys)
OpenFails honest held may_fail keys found (opening.Missing r) =
    HasSigned honest held keys found.head (λ head. IsMissing honest held head.size r)
OpenFails honest held may_fail keys found (opening.Damaged r) =
    HasSigned honest held keys found.head (λ head. IsDamaged (MayRead honest held) head found.edge_tiles found.entry_tiles r)
OpenFails honest held may_fail keys found (opening.Shelf fault) = FailsRead may_fail fault
OpenFails honest held may_fail keys found opening.OutOfMemory = ⊤

-- the note states the size and root that were found, and this holds of them
pub record HasStated (note : Bytes) (keys : List Key) (found : Option Head) (Holds : Head → Type 0) : Type 0 where
  pub head : Head
  pub is : found ≡ Some head
  pub signed : IsOfNote note keys head
  pub holds : Holds head

-- when `Ledger::open_note` returns each error, given what was read
abbrev pub OpenNoteFails : Bool → Held → (Resource → ShelfFault → Type 0) → Bytes → List Key → Found → OpenFault → Type 0
OpenNoteFails honest held may_fail note keys found opening.Checkpoint = IsUnopened note keys
OpenNoteFails honest held may_fail note keys found opening.OtherLog = IsOfOther keys note
OpenNoteFails honest held may_fail note keys found opening.TooLarge = StatesTooMany keys note
OpenNoteFails honest held may_fail note keys found (opening.Missing r) =
    HasStated note keys found.head (λ head. IsMissing honest held head.size r)
OpenNoteFails honest held may_fail note keys found (opening.Damaged r) =
    HasStated note keys found.head (λ head. IsDamaged (MayRead honest held) head found.edge_tiles found.entry_tiles r)
OpenNoteFails honest held may_fail note keys found (opening.Shelf fault) = FailsRead may_fail fault
OpenNoteFails honest held may_fail note keys found opening.OutOfMemory = ⊤
