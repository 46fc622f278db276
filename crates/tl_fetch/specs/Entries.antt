-- Entries of a log that were checked against its size and its root (RFC 6962, section 2.1; C2SP tlog-tiles).
use Rattle.std.specs.Prelude.{◌≡◌, ◌⊎◌, ℕ, ◌+◌, ◌/◌, ◌%◌, ◌<◌, ◌≤◌, List, [], length, slice_index_or}
use Rattle.sha2.specs.Sha256.{sha256}
use Rattle.tl_hash.specs.Bytes.{Bytes, Digest}
use Rattle.tl_tile.specs.declared.resource.Tile.{Tile}
use Rattle.tl_tile.specs.Fetched.{tiles_of}
use Rattle.tl_tile.specs.Verified.{AreVerified, HavePassed}
use Rattle.tl_client.specs.Checked.{AreCheckedEntries}
use Rattle.tl_client.specs.Blame.{AddsServed}
use Rattle.tl_client.specs.Bundles.{HasBundle}
use Rattle.tl_client.specs.Refused.{RefusesEntries, RefusesEntry}
use Rattle.tl_client.specs.declared.fault.ClientFault.{ClientFault}
use Rattle.tl_fetch.specs.Listed.{listed_text}
use Rattle.tl_client.specs.declared.fault.ClientFault.TheVariants.{Range}
use Rattle.tl_hash.specs.declared.head.Head.{Head}
use Rattle.tl_tile.specs.declared.resource.Resource.{Resource}

-- entries of a bundle of a log of this size and root, checked with tiles that passed all checks
pub record IsCheckedBundle (H : Digest) (head : Head) (bundle : ℕ) (entries : List Bytes) : Type 0 where
  pub within : HasBundle head.size bundle
  pub fetched : List (Tile × Bytes)
  pub verified : AreVerified H head.size head.root fetched
  pub checked : AreCheckedEntries H (tiles_of fetched) head.size head.root bundle entries

-- the entry with this index, at its place among the checked entries of its bundle
pub record IsCheckedEntry (H : Digest) (head : Head) (index : ℕ) (entry : Bytes) : Type 0 where
  pub below : index < head.size
  pub entries : List Bytes
  pub bundle : IsCheckedBundle H head (index / 256) entries
  pub place : index % 256 < length entries
  pub is : slice_index_or entries (index % 256) [] ≡ entry

-- the entries with the indexes from `from` up to, but not including, `upto`
pub record AreEntriesBetween (H : Digest) (head : Head) (from upto : ℕ) (entries : List Bytes) : Type 0 where
  pub count : from + length entries ≡ upto
  pub each : (i : ℕ) → i < length entries → IsCheckedEntry H head (from + i) (slice_index_or entries i [])

-- the text lists these entries
abbrev pub AreLinesBetween : Head → ℕ → ℕ → Bytes → Type 0
AreLinesBetween head from upto text =
    (entries : List Bytes) × AreEntriesBetween sha256 head from upto entries × (text ≡ listed_text entries)

-- ---- why they aren't given, by a source that may answer these texts and may lack these resources

-- tiles that passed all checks against this size and root, or none, and then tiles that the source may answer
abbrev pub AreServedOrPassed : (Resource → Bytes → Type 0) → Head → List (Tile × Bytes) → Type 0
AreServedOrPassed answers head fetched =
    (kept : List (Tile × Bytes)) × HavePassed sha256 head.size head.root kept × AddsServed answers head.size kept fetched

-- the entries of a bundle of a log of this size and root can't be read, for this reason
abbrev pub RefusesBundle : (Resource → Bytes → Type 0) → (Resource → Type 0) → Head → ℕ → ClientFault → Type 0
RefusesBundle answers lacks head bundle fault =
    (fetched : List (Tile × Bytes)) × AreServedOrPassed answers head fetched
    × RefusesEntries answers lacks (record { size = head.size; root = head.root; bundle = bundle; fetched = fetched }) fault

-- the log has no entry with this index, or the bundle that has it can't be read
abbrev pub RefusesOne : (Resource → Bytes → Type 0) → (Resource → Type 0) → Head → ℕ → ClientFault → Type 0
RefusesOne answers lacks head index fault =
    ((head.size ≤ index) × (fault ≡ Range)) ⊎ ((index < head.size) × RefusesBundle answers lacks head (index / 256) fault)

-- there is no inclusion proof for some leaf hash at this index
abbrev pub RefusesLeaf : (Resource → Bytes → Type 0) → (Resource → Type 0) → Head → ℕ → ClientFault → Type 0
RefusesLeaf answers lacks head index fault =
    (leaf : Bytes) × RefusesEntry answers lacks (record { size = head.size; root = head.root; index = index; leaf = leaf }) fault

-- the entry isn't given, or no proof of it
abbrev pub RefusesProof : (Resource → Bytes → Type 0) → (Resource → Type 0) → Head → ℕ → ClientFault → Type 0
RefusesProof answers lacks head index fault =
    RefusesOne answers lacks head index fault ⊎ RefusesLeaf answers lacks head index fault
