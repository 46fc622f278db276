-- Why a client has no answer.
use Rattle.std.specs.Prelude.{◌≡◌, ◌≢◌, ℕ, ◌-◌, ◌*◌, ◌<◌, ◌≤◌, ◌^◌, ◌⊎◌, List, length, take, slice_index_or, [], Some}
use Rattle.sha2.specs.Sha256.{sha256}
use Rattle.tl_hash.specs.Bytes.{Bytes, Digest}
use Rattle.tl_hash.specs.Tree.{leaf_input, tree_hash}
use Rattle.tl_proof.specs.ProveFaults.{IsIndex}
use Rattle.tl_tile.specs.declared.resource.Resource.{Resource}
use Rattle.tl_tile.specs.declared.resource.Resource.TheVariants as resource
use Rattle.tl_tile.specs.declared.resource.Tile.{Tile}
use Rattle.tl_tile.specs.Bundle.{AreEntries, bundle_text}
use Rattle.tl_tile.specs.Folds.{TilesCollide}
use Rattle.tl_tile.specs.Fetched.{tiles_of}
use Rattle.tl_tile.specs.Source.{AreAnswers}
use Rattle.tl_tile.specs.SourceFaults.{IsBadTile}
use Rattle.tl_tile.specs.TileReader.{Reading}
use Rattle.tl_tile.specs.Verified.{AreVerified}
use Rattle.tl_tile.specs.Needed.{bundle_width}
use Rattle.tl_client.specs.Bundles.{HasBundle, IsInBundle}
use Rattle.tl_client.specs.Blame.{AnswersNoBundle, LacksTile, ServesBadTile, WantsTile, leaf_reading}
use Rattle.tl_client.specs.declared.fault.ClientFault.{ClientFault}
use Rattle.tl_client.specs.declared.fault.ClientFault.TheVariants as client
use Rattle.tl_hash.specs.declared.head.Head.{Head}

-- a read of the entries of a bundle: the size and root that they are checked against, the bundle, and the tiles that
-- were fetched
pub record BundleRead : Type 0 where
  pub size : ℕ
  pub root : Bytes
  pub bundle : ℕ
  pub fetched : List (Tile × Bytes)

-- the read of the leaves of all its entries
abbrev pub bundle_leaves : BundleRead → Reading
bundle_leaves read =
    leaf_reading read.size read.root (256 * read.bundle) (bundle_width read.size read.bundle) read.fetched

-- the source may lack the bundle of this width, or a tile that its leaves need
abbrev pub LacksEntries : (Resource → Type 0) → BundleRead → Type 0
LacksEntries lacks read =
    lacks (resource.Entries read.bundle (bundle_width read.size read.bundle)) ⊎ LacksTile lacks (bundle_leaves read)

-- The source may answer a bundle whose entry with this index differs from that of every list of the size and root; or
-- an input of the list's tree collides with a string that was hashed for the tiles that were fetched.
abbrev pub AnswersOtherEntry : (Resource → Bytes → Type 0) → BundleRead → ℕ → Type 0
AnswersOtherEntry answers read index =
    (entries : List Bytes) × AreEntries (bundle_width read.size read.bundle) entries
    × answers (resource.Entries read.bundle (bundle_width read.size read.bundle)) (bundle_text entries)
    × ((all : List Bytes) → length all ≡ read.size → tree_hash sha256 all ≡ read.root
    → (slice_index_or entries (index - 256 * read.bundle) [] ≢ slice_index_or all index [])
    ⊎ TilesCollide sha256 (tiles_of read.fetched) read.size all)

-- Why the entries of a bundle are not read from a source. A bad tile is among those that were fetched. An entry is
-- bad only if the tiles passed all checks.
abbrev pub RefusesEntries : (Resource → Bytes → Type 0) → (Resource → Type 0) → BundleRead → ClientFault → Type 0
RefusesEntries answers lacks read client.Range = HasBundle read.size read.bundle → ⊥
RefusesEntries answers lacks read client.Unavailable = HasBundle read.size read.bundle × LacksEntries lacks read
RefusesEntries answers lacks read (client.BadTile level index width) =
    HasBundle read.size read.bundle
    × IsBadTile sha256 read.size read.root read.fetched (record { level = level; index = index; width = width })
RefusesEntries answers lacks read (client.BadBundle bundle) =
    (bundle ≡ read.bundle) × HasBundle read.size bundle × AnswersNoBundle answers bundle (bundle_width read.size bundle)
RefusesEntries answers lacks read (client.BadEntry index) =
    HasBundle read.size read.bundle × IsInBundle read.size read.bundle index
    × AreVerified sha256 read.size read.root read.fetched × AnswersOtherEntry answers read index
RefusesEntries answers lacks read client.Shrunk = ⊥
RefusesEntries answers lacks read client.Forked = ⊥
RefusesEntries answers lacks read client.OutOfMemory = HasBundle read.size read.bundle

-- a list of this size and root such that no input of its tree collides with a string that is hashed for these tiles,
-- or for some of them
pub record IsApart (H : Digest) (size : ℕ) (root : Bytes) (fetched : List (Tile × Bytes)) (all : List Bytes) : Type 0 where
  pub sized : length all ≡ size
  pub rooted : tree_hash H all ≡ root
  pub free : (some : List (Tile × Bytes)) → AreAnswers (λ t text. tiles_of fetched t ≡ Some text) size some
      → TilesCollide H (tiles_of some) size all → ⊥

-- for some tiles that passed all checks against this size and root, this holds of each list that is apart from them
abbrev pub HoldsByTiles : Digest → ℕ → Bytes → (List Bytes → Type 0) → Type 0
HoldsByTiles H size root Holds =
    (fetched : List (Tile × Bytes)) × AreVerified H size root fetched
    × ((all : List Bytes) → IsApart H size root fetched all → Holds all)

-- the log's entry with this index has another leaf hash
abbrev pub IsOtherLeaf : Digest → ℕ → Bytes → ℕ → Bytes → Type 0
IsOtherLeaf H size root index leaf =
    HoldsByTiles H size root (λ all. H (leaf_input (slice_index_or all index [])) ≢ leaf)

-- an entry of a log, and what is claimed to be its leaf hash
pub record LeafRead : Type 0 where
  pub size : ℕ
  pub root : Bytes
  pub index : ℕ
  pub leaf : Bytes

-- why a source gives no inclusion proof for a leaf hash
abbrev pub RefusesEntry : (Resource → Bytes → Type 0) → (Resource → Type 0) → LeafRead → ClientFault → Type 0
RefusesEntry answers lacks read client.Range = IsIndex read.size read.index → ⊥
RefusesEntry answers lacks read client.Unavailable =
    IsIndex read.size read.index × WantsTile answers lacks read.size read.root read.index
RefusesEntry answers lacks read (client.BadTile level index width) =
    IsIndex read.size read.index
    × ServesBadTile answers read.size read.root (record { level = level; index = index; width = width })
RefusesEntry answers lacks read (client.BadBundle _) = ⊥
RefusesEntry answers lacks read (client.BadEntry entry) =
    (entry ≡ read.index) × IsIndex read.size read.index
    × IsOtherLeaf sha256 read.size read.root read.index read.leaf
RefusesEntry answers lacks read client.Shrunk = ⊥
RefusesEntry answers lacks read client.Forked = ⊥
RefusesEntry answers lacks read client.OutOfMemory = IsIndex read.size read.index

-- a consistency proof between these sizes has hashes: the old log is neither empty nor as large as the new one
pub record IsBetween (old size : ℕ) : Type 0 where
  pub some : 0 < old
  pub more : old < size

-- the old root isn't that of the new log's first entries
pub record IsFork (H : Digest) (old new : Head) : Type 0 where
  pub order : old.size ≤ new.size
  pub limit : new.size ≤ 2 ^ 62
  -- at the same size, the roots differ
  pub same_size : old.size ≡ new.size → old.root ≢ new.root
  -- from an empty log to one with entries, the old root isn't the hash of no bytes
  pub from_none : old.size ≡ 0 → 0 < new.size → old.root ≢ H []
  -- else the new log's first entries have another root
  pub no_prefix : IsBetween old.size new.size
      → HoldsByTiles H new.size new.root (λ all. tree_hash H (take old.size all) ≢ old.root)

-- the growth between these heads needs a proof: the old log isn't empty, and the new one is larger and in range
abbrev pub NeedsProof : Head → Head → Type 0
NeedsProof old new = IsBetween old.size new.size × (new.size ≤ 2 ^ 62)

-- Why a source doesn't show the growth of a log. The tiles are those of the new log over the last old entry.
abbrev pub RefusesGrowth : (Resource → Bytes → Type 0) → (Resource → Type 0) → Head → Head → ClientFault → Type 0
RefusesGrowth answers lacks old new client.Range = (old.size ≤ new.size) × (2 ^ 62 < new.size)
RefusesGrowth answers lacks old new client.Unavailable =
    NeedsProof old new × WantsTile answers lacks new.size new.root (old.size - 1)
RefusesGrowth answers lacks old new (client.BadTile level index width) =
    NeedsProof old new
    × ServesBadTile answers new.size new.root (record { level = level; index = index; width = width })
RefusesGrowth answers lacks old new (client.BadBundle _) = ⊥
RefusesGrowth answers lacks old new (client.BadEntry _) = ⊥
RefusesGrowth answers lacks old new client.Shrunk = new.size < old.size
RefusesGrowth answers lacks old new client.Forked = IsFork sha256 old new
RefusesGrowth answers lacks old new client.OutOfMemory = NeedsProof old new
