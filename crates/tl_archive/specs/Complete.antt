-- When a shelf is complete for the checkpoint that is on it (C2SP tlog-tiles).
use Rattle.std.specs.Prelude.{◌≡◌, ◌*◌, ◌⊎◌, List, [], ◌++◌, take, drop, length, Some, None, Contains}
use Rattle.std.specs.List.{All}
use Rattle.tl_hash.specs.Bytes.{Bytes, Digest}
use Rattle.tl_tile.specs.declared.resource.Resource.{Resource}
use Rattle.tl_tile.specs.declared.resource.Resource.TheVariants as resource
use Rattle.tl_tile.specs.TileText.{tile_text}
use Rattle.tl_tile.specs.Bundle.{bundle_text}
use Rattle.tl_tile.specs.Needed.{needed_resources}
use Rattle.tl_log.specs.Histories.{Prefix}
use Rattle.tl_archive.specs.Shelves.{Held, Kept, MayLeave}

-- the bytes of a tile or bundle over a list of entries; a checkpoint isn't either, and has none here
abbrev pub text_of : Digest → Resource → List Bytes → Bytes
text_of H (resource.Tile t) entries = tile_text H t entries
text_of H (resource.Entries index width) entries = bundle_text (take width (drop (index * 256) entries))
text_of H resource.Checkpoint entries = []

-- each resource that a log of these entries needs is there with its bytes
abbrev pub HasAll : Digest → List Bytes → Held → Type 0
HasAll H entries held = (r : Resource) → Contains (needed_resources (length entries)) r → held r ≡ Some (text_of H r entries)

-- the checkpoint of this publication is there, with all that a client of it needs
pub record IsFor (H : Digest) (q : Prefix) (held : Held) : Type 0 where
  pub note : held resource.Checkpoint ≡ Some q.note
  pub all : HasAll H q.entries held

-- there is no checkpoint, or there is that of a publication of the history, with all that a client of it needs
abbrev pub IsComplete : Digest → List Prefix → Held → Type 0
IsComplete H history held =
    (held resource.Checkpoint ≡ None) ⊎ ((q : Prefix) × Contains history q × IsFor H q held)

-- whatever a crash leaves is complete
abbrev pub IsSafe : Digest → List Prefix → Kept → Type 0
IsSafe H history kept = (left : Held) → MayLeave kept left → IsComplete H history left

-- what was there was safe after each step
pub record KeptSafe (H : Digest) (history : List Prefix) (before after : List Kept) : Type 0 where
  pub steps : List Kept
  pub trace : after ≡ before ++ steps
  pub each : All (IsSafe H history) steps
