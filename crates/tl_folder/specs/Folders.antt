-- A folder as a shelf: what it keeps after its calls.
use Rattle.std.specs.Prelude.{◌≡◌, ◌⊎◌, ℕ, ◌+◌, Bool, true, false, List, [], ◌∷◌, ◌++◌, Option, Some, None, ◌==◌, nat_lt, if◌then◌else◌, Result, Ok, Err}
use Rattle.tl_tile.specs.declared.resource.Resource.{Resource}
use Rattle.tl_tile.specs.declared.resource.Resource.TheVariants as resource
use Rattle.tl_archive.specs.Shelves.{Item, Held, Kept}
use Rattle.tl_archive.specs.declared.fault.ShelfFault.{ShelfFault}
use Rattle.tl_device.specs.declared.fault.DeviceFault.TheVariants.{Moved}
use Rattle.tl_folder.specs.declared.call_outcome.CallOutcome.TheVariants as call
use Rattle.tl_folder.specs.Events.{Event}
use Rattle.tl_folder.specs.Step.{Path}
use Rattle.tl_folder.specs.FileCalls.{Call, Takes}
use Rattle.tl_folder.specs.Settling.{Move, AreCovered, settling}

-- two resources are the same
abbrev pub is_same : Resource → Resource → Bool
is_same (resource.Tile a) (resource.Tile b) = if a.level == b.level then (if a.index == b.index then a.width == b.width else false) else false
is_same (resource.Tile a) (resource.Entries index width) = false
is_same (resource.Tile a) resource.Checkpoint = false
is_same (resource.Entries i w) (resource.Tile b) = false
is_same (resource.Entries i w) (resource.Entries index width) = if i == index then w == width else false
is_same (resource.Entries i w) resource.Checkpoint = false
is_same resource.Checkpoint (resource.Tile b) = false
is_same resource.Checkpoint (resource.Entries index width) = false
is_same resource.Checkpoint resource.Checkpoint = true

-- what is there after these bytes were put under their resources, one after another
abbrev pub put : List Item → Held → Held
put [] held = held
put (item ∷ more) held = put more (λ r. if is_same r item.0 then Some item.1 else held r)

-- the second resource is a partial one of the first, which is full
abbrev pub is_partial_of : Resource → Resource → Bool
is_partial_of (resource.Tile full) (resource.Tile t) = if t.level == full.level then (if t.index == full.index then nat_lt t.width 256 else false) else false
is_partial_of (resource.Tile full) (resource.Entries index width) = false
is_partial_of (resource.Tile full) resource.Checkpoint = false
is_partial_of (resource.Entries own full) (resource.Tile t) = false
is_partial_of (resource.Entries own full) (resource.Entries index width) = if index == own then nat_lt width 256 else false
is_partial_of (resource.Entries own full) resource.Checkpoint = false
is_partial_of resource.Checkpoint r = false

-- what is there without the resources of which this is true
abbrev pub without : (Resource → Bool) → Held → Held
without gone held = λ r. if gone r then None else held r

-- for which resources the n-th call took effect, if it failed: a settling replaced their bytes, a removal removed
-- them
abbrev pub Reached : Type 0
Reached = ℕ → Resource → Bool

-- what the folder keeps after the n-th call
abbrev pub after_call : Reached → ℕ → Event → Kept → Kept
after_call reached n (call.Staged r, bytes) kept = record { held = kept.held; staged = kept.staged ++ (r, bytes) ∷ [] }
after_call reached n (call.Settled, bytes) kept = record { held = put kept.staged kept.held; staged = [] }
after_call reached n (call.Cut, bytes) kept = record { held = (λ r. if reached n r then put kept.staged kept.held r else kept.held r); staged = [] }
after_call reached n (call.Removed full, bytes) kept = record { held = without (is_partial_of full) kept.held; staged = kept.staged }
after_call reached n (call.PartRemoved full, bytes) kept =
    record { held = without (λ r. if is_partial_of full r then reached n r else false) kept.held; staged = kept.staged }
after_call reached n (call.Marked, bytes) kept = kept
after_call reached n (call.Failed, bytes) kept = kept

-- what the folder keeps after these calls, of which the first is the n-th
abbrev pub after_calls : Reached → ℕ → List Event → Kept → Kept
after_calls reached n [] kept = kept
after_calls reached n (event ∷ more) kept = after_calls reached (n + 1) more (after_call reached n event kept)

-- what the folder keeps after each of these calls
abbrev pub after_each : Reached → ℕ → List Event → Kept → List Kept
after_each reached n [] kept = []
after_each reached n (event ∷ more) kept = after_call reached n event kept ∷ after_each reached (n + 1) more (after_call reached n event kept)

-- what the folder keeps before any call: nothing is staged
abbrev pub at_first : Held → Kept
at_first held = record { held = held; staged = [] }

-- a folder: the outcomes of its calls so far and how many of them failed; its path, the files that are staged, and
-- the system calls so far; the path by which it was opened, and the last mark
pub record Calls : Type 0 where
  pub events : List Event
  pub failures : ℕ
  pub root : Path
  pub moves : List Move
  pub made : List Call
  pub place : Path
  pub published : Option ℕ

-- what a folder keeps, given what it had at first and its calls
abbrev pub kept_by : Held → Reached → Calls → Kept
kept_by held reached calls = after_calls reached 0 calls.events (at_first held)

-- what a folder kept after each call so far
abbrev pub traced_by : Held → Reached → Calls → List Kept
traced_by held reached calls = after_each reached 0 calls.events (at_first held)

-- Ok: all files that are staged were put in place, and the names in each folder above a place, up to the folder
-- itself, were synced. Err: none of these calls was made, or one of them failed.
abbrev pub SettlesFiles : {T E : Type 0} → Calls → List Call → Result T E → Type 0
SettlesFiles folder after result =
    (folders : List Path) × AreCovered folder.root folders folder.moves × Takes (settling folder.moves folders) folder.made after result

-- The outcome of a removal is noted. Ok: the partial ones of the full one were removed. Err: some may be gone; or
-- nothing changed, and no system call was made.
abbrev pub NotesRemoval : {T E : Type 0} → Resource → Calls → Calls → Result T E → Type 0
NotesRemoval full before after (Ok it) = after.events ≡ before.events ++ (call.Removed full, []) ∷ []
NotesRemoval full before after (Err fault) =
    (after.events ≡ before.events ++ (call.PartRemoved full, []) ∷ [])
    ⊎ ((after.events ≡ before.events ++ (call.Failed, []) ∷ []) × (after.made ≡ before.made))

-- the fault is for this resource, or for none if another folder took the folder's path
abbrev pub IsOver : Resource → ShelfFault → Type 0
IsOver r fault = (fault.resource ≡ Some r) ⊎ ((fault.resource ≡ None) × (fault.why ≡ Moved))
