-- What was read of a shelf to open a log.
use Rattle.std.specs.Prelude.{◌≡◌, ◌≢◌, ℕ, ◌/◌, ◌%◌, ◌<◌, ◌⊎◌, Bool, true, List, [], map, vec_items, Contains, Some, ⊤}
use Rattle.std.specs.declared.vec.Vec.{Vec}
use Rattle.tl_hash.specs.Bytes.{Bytes}
use Rattle.tl_tile.specs.declared.resource.Resource.{Resource}
use Rattle.tl_tile.specs.declared.resource.Resource.TheVariants as resource
use Rattle.tl_tile.specs.TileText.{partial_tile}
use Rattle.tl_archive.specs.Shelves.{Held, Item}
use Rattle.tl_archive.specs.declared.fault.ShelfFault.{ShelfFault}
use Rattle.tl_ledger.specs.Inner.Putting.{IsPartial}
use Rattle.tl_ledger.specs.OpenFaults.{FailsRead, IsMissing}
use Rattle.tl_ledger.specs.declared.opened.fault.OpenFault.{OpenFault}
use Rattle.tl_ledger.specs.declared.opened.fault.OpenFault.TheVariants as opening

-- the resources with their bytes
abbrev pub items_of : {A : Type 0} → List (Resource × Vec ℕ A) → List Item
items_of items = map (λ i. (i.0, vec_items i.1)) items

-- none of the items is for the resource
abbrev pub LacksItem : List Item → Resource → Type 0
LacksItem items r = (text : Bytes) → Contains items (r, text) → ⊥

-- one of the items is for the resource
abbrev pub HasItem : List Item → Resource → Type 0
HasItem items r = (text : Bytes) × Contains items (r, text)

-- the bytes of each item are those that are there
abbrev pub AreThere : Held → List Item → Type 0
AreThere held items = (r : Resource) (text : Bytes) → Contains items (r, text) → held r ≡ Some text

-- if the shelf is honest, the bytes of each item are those that are there
abbrev pub AreHeld : Bool → Held → List Item → Type 0
AreHeld honest held items = honest ≡ true → AreThere held items

-- the partial tile of this level is among the items, if there is one
abbrev pub HasLevel : ℕ → ℕ → List Item → Type 0
HasLevel size level items = 0 < (partial_tile size level).width → HasItem items (resource.Tile (partial_tile size level))

-- the partial tile of each level below this one is among the items, if there is one
abbrev pub HasLevels : ℕ → ℕ → List Item → Type 0
HasLevels size below items = (level : ℕ) → level < below → HasLevel size level items

-- the partial bundle of the size is among the items, if there is one
abbrev pub HasBundle : ℕ → List Item → Type 0
HasBundle size items = 0 < size % 256 → HasItem items (resource.Entries (size / 256) (size % 256))

-- all partial tiles of the size and its partial bundle are among the items
abbrev pub HasPartials : ℕ → List Item → Type 0
HasPartials size items = (r : Resource) → IsPartial size r → HasItem items r

-- other bytes than these were read for the partial bundle of the size
abbrev pub ReadsOther : List Item → ℕ → Bytes → Type 0
ReadsOther items size bytes =
    (text : Bytes) × Contains items (resource.Entries (size / 256) (size % 256), text) × (text ≢ bytes)

-- these bytes were read for the partial bundle of the size; there are none if it has none
abbrev pub IsBundleRead : List Item → ℕ → Bytes → Type 0
IsBundleRead items size bytes =
    ((size % 256 ≡ 0) × (bytes ≡ []))
    ⊎ ((0 < size % 256) × Contains items (resource.Entries (size / 256) (size % 256), bytes))

-- more was read, and what was read before is kept
pub record ReadsOn (honest : Bool) (held : Held) (before after : List Item) : Type 0 where
  pub keeps : (i : Item) → Contains before i → Contains after i
  pub still : AreHeld honest held before → AreHeld honest held after

-- why a part of a log of this size was not read
abbrev pub ReadFails : Bool → Held → (Resource → ShelfFault → Type 0) → ℕ → OpenFault → Type 0
ReadFails honest held may_fail size opening.Checkpoint = ⊥
ReadFails honest held may_fail size opening.OtherLog = ⊥
ReadFails honest held may_fail size opening.TooLarge = ⊥
ReadFails honest held may_fail size (opening.Missing r) = IsMissing honest held size r
ReadFails honest held may_fail size (opening.Damaged r) = ⊥
ReadFails honest held may_fail size (opening.Shelf fault) = FailsRead may_fail fault
ReadFails honest held may_fail size opening.OutOfMemory = ⊤
