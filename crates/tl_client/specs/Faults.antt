-- Faults of the calls that a client makes, as faults of the client.
use Rattle.tl_store.specs.declared.reader.ReadFault.{ReadFault}
use Rattle.tl_store.specs.declared.reader.ReadFault.TheVariants as read
use Rattle.tl_proof.specs.declared.fault.ProveFault.{ProveFault}
use Rattle.tl_proof.specs.declared.fault.ProveFault.TheVariants as prove
use Rattle.tl_tile.specs.declared.source.SourceFault.{SourceFault}
use Rattle.tl_tile.specs.declared.source.SourceFault.TheVariants as source
use Rattle.tl_client.specs.declared.fault.ClientFault.{ClientFault}
use Rattle.tl_client.specs.declared.fault.ClientFault.TheVariants as client

-- what a fault of a source becomes
abbrev pub after_source : SourceFault → ClientFault
after_source source.Unavailable = client.Unavailable
after_source source.OutOfMemory = client.OutOfMemory

-- what a fault of reading stored hashes becomes
abbrev pub after_read : ReadFault → ClientFault
after_read read.OutOfRange = client.Range
after_read read.Source = client.Unavailable
after_read read.OutOfMemory = client.OutOfMemory
after_read (read.BadTile level index width) = client.BadTile level index width

-- what a fault of making a proof becomes
abbrev pub after_prove : ProveFault → ClientFault
after_prove prove.BadRange = client.Range
after_prove (prove.Read fault) = after_read fault
after_prove prove.OutOfMemory = client.OutOfMemory
