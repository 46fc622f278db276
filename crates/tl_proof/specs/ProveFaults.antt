-- When a prover fails (RFC 6962, sections 2.1.1 and 2.1.2, over at most 2 ^ 62 entries).
use Rattle.std.specs.Prelude.{ℕ, ◌<◌, ◌≤◌, ◌^◌}
use Rattle.tl_store.specs.Head.{GivesHeadFault}
use Rattle.tl_proof.specs.ReadFaults.{IsOfReading}
use Rattle.tl_store.specs.declared.reader.ReadFault.{ReadFault}
use Rattle.tl_proof.specs.declared.fault.ProveFault.{ProveFault}
use Rattle.tl_proof.specs.declared.fault.ProveFault.TheVariants.{BadRange, Read, OutOfMemory}

-- an index among the first `size` entries
abbrev pub IsIndex : ℕ → ℕ → Type 0
IsIndex size index = (index < size) × (size ≤ 2 ^ 62)

-- an old size, up to `size` entries
abbrev pub IsOldSize : ℕ → ℕ → Type 0
IsOldSize size old = (old ≤ size) × (size ≤ 2 ^ 62)

-- when a prover over a reader of `count` entries, whose source may give certain faults, fails with this fault;
-- `in_range` says whether its arguments are in range, and the proof is made from the first `needed` entries. A read
-- fails as that of the tree hash of the first `needed` entries does, and is out of range if the reader has fewer. An
-- empty proof needs none, and allocates nothing
abbrev pub GivesProveFault : Type 0 → ℕ → (ReadFault → Type 0) → ℕ → ProveFault → Type 0
GivesProveFault in_range count may_fail needed BadRange = in_range → ⊥
GivesProveFault in_range count may_fail needed (Read fault) =
    in_range × IsOfReading fault × GivesHeadFault count may_fail needed fault
GivesProveFault in_range count may_fail needed OutOfMemory = in_range × (0 < needed)

-- when a prover of this many inclusion proofs fails with this fault: as above, except that it allocates whenever
-- there is an index, since the list of an empty proof takes memory too
abbrev pub GivesProofsFault : Type 0 → ℕ → ℕ → (ReadFault → Type 0) → ℕ → ProveFault → Type 0
GivesProofsFault in_range proofs count may_fail needed BadRange = in_range → ⊥
GivesProofsFault in_range proofs count may_fail needed (Read fault) =
    in_range × IsOfReading fault × GivesHeadFault count may_fail needed fault
GivesProofsFault in_range proofs count may_fail needed OutOfMemory = in_range × (0 < proofs)
