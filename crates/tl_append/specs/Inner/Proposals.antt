-- A proposal with more entries than the log that was found.
use Rattle.std.specs.Prelude.{◌<◌, ℕ, List, Option, Some, None}
use Rattle.tl_hash.specs.Bytes.{Bytes}
use Rattle.tl_hash.specs.declared.head.Head.{Head}
use Rattle.tl_note.specs.Key.{Key}
use Rattle.tl_ledger.specs.Opening.{IsOfNote}
use Rattle.tl_append.specs.Proposing.{HasProposal}

-- the proposal that is kept has more than `size` entries, or a log of that size has all entries of it
abbrev pub IsNewer : (Option Bytes → Type 0) → List Key → ℕ → Option Bytes → Type 0
IsNewer MayHave keys size None = HasProposal MayHave keys size
IsNewer MayHave keys size (Some note) = MayHave (Some note) × ((head : Head) × IsOfNote note keys head × (size < head.size))
