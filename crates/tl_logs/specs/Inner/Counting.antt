-- Which origins count.
use Rattle.std.specs.Prelude.{Option, Some, None, is_some, true}
use Rattle.tl_logs.specs.State.{Counts}
use Rattle.tl_logs.specs.Inner.ByOrigin.{index_of}
use Rattle.tl_logs.specs.declared.by_origin.ByOrigin.{ByOrigin}
use Rattle.tl_logs.specs.declared.known.Counting.{Counting}

-- all origins count, or those in the map
abbrev pub counts_by : {A : Type 0} → Option (ByOrigin A) → Counts
counts_by None origin = true
counts_by (Some places) origin = is_some (index_of places origin)

abbrev pub counts_of : {A : Type 0} → Counting A → Counts
counts_of counting = counts_by counting.places
