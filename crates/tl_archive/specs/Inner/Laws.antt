-- The laws under names that proofs use.
use Rattle.std.specs.Prelude.{◌≡◌, List, ◌++◌, length, Contains}
use Rattle.tl_hash.specs.Bytes.{Bytes, Digest}
use Rattle.tl_tile.specs.declared.resource.Resource.{Resource}
use Rattle.tl_tile.specs.Needed.{needed_resources}
use Rattle.tl_log.specs.Histories.{Prefix}
use Rattle.tl_archive.specs.Shelves.{Kept}
use Rattle.tl_archive.specs.Complete.{text_of, IsComplete, IsSafe}

-- a tile or bundle that a log needed once has the same bytes over a longer log
abbrev pub NeededBytesStay : Type 0
NeededBytesStay = (H : Digest) (entries more : List Bytes) (r : Resource)
    → Contains (needed_resources (length entries)) r → text_of H r (entries ++ more) ≡ text_of H r entries

-- what is there on a safe shelf is complete
abbrev pub SafeIsComplete : Type 0
SafeIsComplete = (H : Digest) (history : List Prefix) (kept : Kept) → IsSafe H history kept → IsComplete H history kept.held
