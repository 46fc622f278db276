-- Tiles that a source serves, after none that were kept.
use Rattle.std.proofs.Common.{List, [], inl, refl}
use Rattle.tl_hash.specs.Bytes.{Bytes}
use Rattle.tl_hash.specs.declared.head.Head.{Head}
use Rattle.tl_tile.specs.declared.resource.Resource.{Resource}
use Rattle.tl_tile.specs.declared.resource.Tile.{Tile}
use Rattle.tl_client.specs.Blame.{AreServed}
use Rattle.tl_fetch.specs.Entries.{AreServedOrPassed}

-- what the source alone serves
pub served_alone : (answers : Resource → Bytes → Type 0) (head : Head) (fetched : List (Tile × Bytes)) → AreServed answers head.size fetched → AreServedOrPassed answers head fetched
served_alone answers head fetched served = ([], record { order = tt; passed = inl refl }, record { added = fetched; joined = refl; served = served })
