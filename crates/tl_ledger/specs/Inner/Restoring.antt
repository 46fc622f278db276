-- The parts of opening a log.
use Rattle.std.specs.Prelude.{◌≡◌, ◌≢◌, ℕ, ◌*◌, ◌/◌, ◌⊎◌, Bool, List, length, drop, Err, ⊤}
use Rattle.sha2.specs.Sha256.{sha256}
use Rattle.tl_hash.specs.Bytes.{Bytes}
use Rattle.tl_hash.specs.Tree.{tree_hash}
use Rattle.tl_hash.specs.declared.head.Head.{Head}
use Rattle.tl_note.specs.Key.{Key}
use Rattle.tl_tile.specs.declared.resource.Resource.{Resource}
use Rattle.tl_tile.specs.declared.resource.Tile.{Tile}
use Rattle.tl_tile.specs.Bundle.{bundle_text}
use Rattle.tl_tile.specs.Fetched.{tiles_of}
use Rattle.tl_tile.specs.Folds.{TilesCollide}
use Rattle.tl_checkpoint.specs.OpenCheckpoint.{OpensCheckpoint}
use Rattle.tl_checkpoint.specs.declared.opening.OpenCheckpointFault.{OpenCheckpointFault}
use Rattle.tl_checkpoint.specs.declared.opening.OpenCheckpointFault.TheVariants as unopened
use Rattle.tl_client.specs.Checked.{LeavesCollide}
use Rattle.tl_archive.specs.Shelves.{Held, Item}
use Rattle.tl_archive.specs.declared.fault.ShelfFault.{ShelfFault}
use Rattle.tl_archive.specs.Complete.{HasAll}
use Rattle.tl_ledger.specs.Standing.{Ledger, IsStanding}
use Rattle.tl_ledger.specs.Opening.{Found, FoundCollides}
use Rattle.tl_ledger.specs.OpenFaults.{FailsRead, HasRead, IsDamaged, IsMissing, IsOfOther, IsUnopened, MayRead, StatesTooMany}
use Rattle.tl_ledger.specs.Inner.Reads.{AreThere}
use Rattle.tl_ledger.specs.declared.opened.fault.OpenFault.{OpenFault}
use Rattle.tl_ledger.specs.declared.opened.fault.OpenFault.TheVariants as opening

-- ---- the checkpoint

-- why a note states no size and root
abbrev pub StatesNone : Type 0 → Bytes → List Key → OpenFault → Type 0
StatesNone A note keys opening.Checkpoint = (why : OpenCheckpointFault) × (why ≢ unopened.OutOfMemory) × OpensCheckpoint {A = A} note keys (Err why)
StatesNone A note keys opening.OtherLog = IsOfOther keys note
StatesNone A note keys opening.TooLarge = StatesTooMany keys note
StatesNone A note keys (opening.Missing r) = ⊥
StatesNone A note keys (opening.Damaged r) = ⊥
StatesNone A note keys (opening.Shelf fault) = ⊥
StatesNone A note keys opening.OutOfMemory = ⊤

-- why no checkpoint was found
abbrev pub FindsNone : Bool → Held → (Resource → ShelfFault → Type 0) → List Key → OpenFault → Type 0
FindsNone honest held may_fail keys opening.Checkpoint = HasRead honest held (λ bytes. IsUnopened bytes keys)
FindsNone honest held may_fail keys opening.OtherLog = HasRead honest held (IsOfOther keys)
FindsNone honest held may_fail keys opening.TooLarge = HasRead honest held (StatesTooMany keys)
FindsNone honest held may_fail keys (opening.Missing r) = ⊥
FindsNone honest held may_fail keys (opening.Damaged r) = ⊥
FindsNone honest held may_fail keys (opening.Shelf fault) = FailsRead may_fail fault
FindsNone honest held may_fail keys opening.OutOfMemory = ⊤

-- ---- the right edge and the bundle

-- the log has this size and root
abbrev pub IsLogAt : Head → List Bytes → Type 0
IsLogAt head log = (length log ≡ head.size) × (tree_hash sha256 log ≡ head.root)

-- these bytes are the partial bundle of every log of this size and root, or inputs of the hash collide
abbrev pub IsBundleOf : Head → List Bytes → List (Tile × Bytes) → Bytes → Type 0
IsBundleOf head entries fetched bytes =
    (log : List Bytes) → IsLogAt head log
    → (bytes ≡ bundle_text (drop (length log / 256 * 256) log))
    ⊎ (LeavesCollide sha256 entries log ⊎ TilesCollide sha256 (tiles_of fetched) head.size log)

-- why a part was not restored, given what was read and fetched
abbrev pub PartFails : (Resource → Bytes → Type 0) → Head → List (Tile × Bytes) → List (Tile × Bytes) → OpenFault → Type 0
PartFails answers head edge_tiles entry_tiles opening.Checkpoint = ⊥
PartFails answers head edge_tiles entry_tiles opening.OtherLog = ⊥
PartFails answers head edge_tiles entry_tiles opening.TooLarge = ⊥
PartFails answers head edge_tiles entry_tiles (opening.Missing r) = ⊥
PartFails answers head edge_tiles entry_tiles (opening.Damaged r) = IsDamaged answers head edge_tiles entry_tiles r
PartFails answers head edge_tiles entry_tiles (opening.Shelf fault) = ⊥
PartFails answers head edge_tiles entry_tiles opening.OutOfMemory = ⊤

-- the ledger is that of every log of this size and root, or inputs of the hash collide
pub record Restores (head : Head) (found : Found) (ledger : Ledger) : Type 0 where
  pub sized : ledger.edge.size ≡ head.size
  pub stands : (log : List Bytes) → IsLogAt head log → IsStanding sha256 log ledger ⊎ FoundCollides sha256 found log

-- the ledger is that of every log of this size, if what was read is there with all that the log needs
abbrev pub StandsWhereRead : List Item → ℕ → Ledger → Type 0
StandsWhereRead items size ledger =
    (held : Held) → AreThere held items → (log : List Bytes) → length log ≡ size → HasAll sha256 log held
    → IsStanding sha256 log ledger

-- why a log of this size and root was not opened, given what was read
abbrev pub HeadFails : Bool → Held → (Resource → ShelfFault → Type 0) → Head → Found → OpenFault → Type 0
HeadFails honest held may_fail head found opening.Checkpoint = ⊥
HeadFails honest held may_fail head found opening.OtherLog = ⊥
HeadFails honest held may_fail head found opening.TooLarge = ⊥
HeadFails honest held may_fail head found (opening.Missing r) = IsMissing honest held head.size r
HeadFails honest held may_fail head found (opening.Damaged r) = IsDamaged (MayRead honest held) head found.edge_tiles found.entry_tiles r
HeadFails honest held may_fail head found (opening.Shelf fault) = FailsRead may_fail fault
HeadFails honest held may_fail head found opening.OutOfMemory = ⊤
