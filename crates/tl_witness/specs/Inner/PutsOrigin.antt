-- Putting one origin into an index.
use Rattle.std.specs.Prelude.{◌≡◌, ℕ, Some, bytes_eq, if◌then◌else◌}
use Rattle.tl_hash.specs.Bytes.{Bytes}
use Rattle.tl_witness.specs.ByOrigin.{Index}

-- this origin gets this position, and all others keep theirs
abbrev pub PutsOrigin : Bytes → ℕ → Index → Index → Type 0
PutsOrigin origin place old new = (other : Bytes) → new other ≡ (if bytes_eq origin other then Some place else old other)
