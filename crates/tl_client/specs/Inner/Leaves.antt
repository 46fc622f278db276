-- Bundles, and the leaves of their entries.
use Rattle.std.specs.Prelude.{◌≡◌, ◌≢◌, ℕ, ◌+◌, ◌<◌, ◌≤◌, List, [], length, slice_index_or}
use Rattle.sha2.specs.Sha256.{sha256}
use Rattle.tl_hash.specs.Bytes.{Bytes, Digest}
use Rattle.tl_hash.specs.Tree.{leaf_input}
use Rattle.tl_tile.specs.declared.resource.Resource.{Resource}
use Rattle.tl_tile.specs.declared.resource.Resource.TheVariants as resource
use Rattle.tl_tile.specs.SourceFaults.{IsBadTile}
use Rattle.tl_tile.specs.TileReader.{Reading}
use Rattle.tl_client.specs.Blame.{AnswersNoBundle, LacksTile}
use Rattle.tl_client.specs.declared.fault.ClientFault.{ClientFault}
use Rattle.tl_client.specs.declared.fault.ClientFault.TheVariants as client

-- each entry has its leaf hash
abbrev pub HaveLeaves : Digest → List Bytes → List Bytes → Type 0
HaveLeaves H entries leaves = (i : ℕ) → i < length entries → H (leaf_input (slice_index_or entries i [])) ≡ slice_index_or leaves i []

-- the entries at positions `from` to `upto` - 1 have their leaf hashes
abbrev pub HaveLeavesBetween : Digest → ℕ → ℕ → List Bytes → List Bytes → Type 0
HaveLeavesBetween H from upto entries leaves =
    (i : ℕ) → from ≤ i → i < upto → H (leaf_input (slice_index_or entries i [])) ≡ slice_index_or leaves i []

-- the fault names one of these entries, whose first has index `first`, that has another leaf hash
pub record IsOfOne (first : ℕ) (entries leaves : List Bytes) (fault : ClientFault) : Type 0 where
  pub place : ℕ
  pub below : place < length entries
  pub named : fault ≡ client.BadEntry (first + place)
  pub other : sha256 (leaf_input (slice_index_or entries place [])) ≢ slice_index_or leaves place []

-- why a bundle of this index and width is not fetched
abbrev pub RefusesBundle : (Resource → Bytes → Type 0) → (Resource → Type 0) → ℕ → ℕ → ClientFault → Type 0
RefusesBundle answers lacks bundle width client.Range = ⊥
RefusesBundle answers lacks bundle width client.Unavailable = lacks (resource.Entries bundle width)
RefusesBundle answers lacks bundle width (client.BadTile _ _ _) = ⊥
RefusesBundle answers lacks bundle width (client.BadBundle index) =
    (index ≡ bundle) × AnswersNoBundle answers bundle width
RefusesBundle answers lacks bundle width (client.BadEntry _) = ⊥
RefusesBundle answers lacks bundle width client.Shrunk = ⊥
RefusesBundle answers lacks bundle width client.Forked = ⊥
RefusesBundle answers lacks bundle width client.OutOfMemory = Unit {0}

-- why leaf hashes that are in range are not read
abbrev pub RefusesLeaves : (Resource → Type 0) → Reading → ClientFault → Type 0
RefusesLeaves lacks read client.Range = ⊥
RefusesLeaves lacks read client.Unavailable = LacksTile lacks read
RefusesLeaves lacks read (client.BadTile level index width) =
    IsBadTile sha256 read.size read.root read.fetched (record { level = level; index = index; width = width })
RefusesLeaves lacks read (client.BadBundle _) = ⊥
RefusesLeaves lacks read (client.BadEntry _) = ⊥
RefusesLeaves lacks read client.Shrunk = ⊥
RefusesLeaves lacks read client.Forked = ⊥
RefusesLeaves lacks read client.OutOfMemory = Unit {0}
