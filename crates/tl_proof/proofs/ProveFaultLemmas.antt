-- Faults of reads as faults of a prover.
use Rattle.std.proofs.Common.{ℕ, ◌<◌}
use Rattle.tl_store.specs.Head.{GivesHeadFault}
use Rattle.tl_store.specs.declared.reader.ReadFault.{ReadFault}
use Rattle.tl_store.specs.declared.reader.ReadFault.TheVariants.{OutOfRange, Source, OutOfMemory, BadTile}
use Rattle.tl_proof.specs.ReadFaults.{from_read}
use Rattle.tl_proof.specs.ProveFaults.{GivesProveFault, GivesProofsFault}

pub read_fault : (in_range : Type 0) (count : ℕ) (may_fail : ReadFault → Type 0) (needed : ℕ) (fault : ReadFault) → in_range → GivesHeadFault count may_fail needed fault
    → GivesProveFault in_range count may_fail needed (from_read fault)
read_fault in_range count may_fail needed OutOfRange inside gives = (inside, tt, gives)
read_fault in_range count may_fail needed Source inside gives = (inside, tt, gives)
read_fault in_range count may_fail needed OutOfMemory inside gives = (inside, gives.0)
read_fault in_range count may_fail needed (BadTile level index width) inside gives = (inside, tt, gives)

-- the same of several proofs
pub read_proofs_fault : (in_range : Type 0) (proofs count : ℕ) (may_fail : ReadFault → Type 0) (needed : ℕ) (fault : ReadFault) → in_range → 0 < proofs → GivesHeadFault count may_fail needed fault
    → GivesProofsFault in_range proofs count may_fail needed (from_read fault)
read_proofs_fault in_range proofs count may_fail needed OutOfRange inside some gives = (inside, tt, gives)
read_proofs_fault in_range proofs count may_fail needed Source inside some gives = (inside, tt, gives)
read_proofs_fault in_range proofs count may_fail needed OutOfMemory inside some gives = (inside, some)
read_proofs_fault in_range proofs count may_fail needed (BadTile level index width) inside some gives = (inside, tt, gives)
