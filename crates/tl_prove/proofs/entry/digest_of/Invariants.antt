use Rattle.std.proofs.Common.{◌≡◌, ℕ, ◌-◌, List, length}
use Rattle.std.specs.Io.KnownBytes.{Consumes}
use Rattle.sha2.specs.Hashers.{Holds256}
use Rattle.tl_prove.proofs.entry.digest_of.Given as goal

-- the bytes so far were consumed, and the hasher holds them
abbrev pub invariant-loop-total : goal.invariant-loop-total
invariant-loop-total g l =
    (bytes : List ℕ) × Consumes (g.R.Read.remaining l.initial.reader.device) (g.R.Read.remaining l.reader.device) bytes
    × Holds256 l.hasher bytes × (l.total ≡ length bytes) × (l.reader.failed ≡ l.initial.reader.failed)

abbrev pub decreases-loop-total : goal.decreases-loop-total
decreases-loop-total g l = 4611686018427387905 - l.total
