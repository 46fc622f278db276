-- The fault of a prover for each fault of a read.
use Rattle.tl_store.specs.declared.reader.ReadFault.{ReadFault}
use Rattle.tl_store.specs.declared.reader.ReadFault.TheVariants.{OutOfRange, Source, OutOfMemory, BadTile}
use Rattle.tl_proof.specs.declared.fault.ProveFault.{ProveFault}
use Rattle.tl_proof.specs.declared.fault.ProveFault.TheVariants as prove

-- running out of memory is a fault of its own
abbrev pub from_read : ReadFault → ProveFault
from_read OutOfRange = prove.Read OutOfRange
from_read Source = prove.Read Source
from_read OutOfMemory = prove.OutOfMemory
from_read (BadTile level index width) = prove.Read (BadTile level index width)

-- the fault isn't that memory ran out
abbrev pub IsOfReading : ReadFault → Type 0
IsOfReading OutOfRange = Unit {0}
IsOfReading Source = Unit {0}
IsOfReading OutOfMemory = ⊥
IsOfReading (BadTile level index width) = Unit {0}
