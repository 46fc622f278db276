-- What a log that is opened goes on from, if the note of a checkpoint that it proposed is kept.
use Rattle.std.specs.Prelude.{◌≡◌, ℕ, ◌≤◌, List, Option, Some, None, ⊤}
use Rattle.tl_hash.specs.Bytes.{Bytes}
use Rattle.tl_hash.specs.declared.head.Head.{Head}
use Rattle.tl_note.specs.Key.{Key}
use Rattle.tl_tile.specs.declared.resource.Resource.TheVariants as resource
use Rattle.tl_archive.specs.Shelves.{Held}
use Rattle.tl_ledger.specs.Opening.{IsOfNote, IsStated}

-- a log of this size has all entries that the note states, if there is one; the note opens under these keys
abbrev pub IsNoOlder : Option Bytes → List Key → ℕ → Type 0
IsNoOlder None keys size = ⊤
IsNoOlder (Some note) keys size = (head : Head) × IsOfNote note keys head × (head.size ≤ size)

-- a log of this size has all entries of a proposal that may be kept
abbrev pub HasProposal : (Option Bytes → Type 0) → List Key → ℕ → Type 0
HasProposal MayHave keys size = (note : Option Bytes) × MayHave note × IsNoOlder note keys size

-- the size and the root are those of a proposal that may be kept
abbrev pub IsProposed : (Option Bytes → Type 0) → List Key → Option Head → Type 0
IsProposed MayHave keys found = (note : Bytes) × MayHave (Some note) × IsStated note keys found

-- a checkpoint is there that states the size and the root
abbrev pub IsThere : Held → List Key → Option Head → Type 0
IsThere held keys found = (note : Bytes) × (held resource.Checkpoint ≡ Some note) × IsStated note keys found
