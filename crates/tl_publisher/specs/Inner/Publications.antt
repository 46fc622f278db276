-- Publications.
use Rattle.std.specs.Prelude.{ℕ, List}
use Rattle.tl_log.specs.Histories.{Prefix}

-- the publication of these entries under this note
abbrev pub published_as : List (List ℕ) → List ℕ → Prefix
published_as entries note = record { entries = entries; note = note }
