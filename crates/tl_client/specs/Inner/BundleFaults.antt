-- Faults of an entry bundle, as faults of the client.
use Rattle.std.specs.Prelude.{ℕ}
use Rattle.tl_tile.specs.declared.bundle.BundleFault.{BundleFault}
use Rattle.tl_tile.specs.declared.bundle.BundleFault.TheVariants as bundle
use Rattle.tl_client.specs.declared.fault.ClientFault.{ClientFault}
use Rattle.tl_client.specs.declared.fault.ClientFault.TheVariants as client

-- what a fault of reading the bundle with this index becomes
abbrev pub after_bundle : ℕ → BundleFault → ClientFault
after_bundle index bundle.EntryTooLong = client.BadBundle index
after_bundle index bundle.Truncated = client.BadBundle index
after_bundle index bundle.Trailing = client.BadBundle index
after_bundle index bundle.OutOfMemory = client.OutOfMemory
