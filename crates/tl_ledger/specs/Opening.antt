-- Opening a log that is on a shelf (C2SP tlog-checkpoint; C2SP tlog-tiles, "Partial Tiles").
use Rattle.std.specs.Prelude.{◌≡◌, ℕ, ◌⊎◌, List, [], length, Any, Option, Some, None, ⊤}
use Rattle.tl_hash.specs.Bytes.{Bytes, Digest}
use Rattle.tl_hash.specs.Tree.{tree_hash}
use Rattle.tl_hash.specs.declared.head.Head.{Head}
use Rattle.tl_note.specs.Key.{Key}
use Rattle.tl_tile.specs.declared.resource.Tile.{Tile}
use Rattle.tl_tile.specs.declared.resource.Resource.TheVariants as resource
use Rattle.tl_tile.specs.Fetched.{tiles_of}
use Rattle.tl_tile.specs.Folds.{TilesCollide}
use Rattle.tl_checkpoint.specs.Checkpoint as checkpoint
use Rattle.tl_checkpoint.specs.OpenCheckpoint.{IsSignedCheckpoint}
use Rattle.tl_client.specs.Checked.{LeavesCollide}
use Rattle.tl_archive.specs.Shelves.{Held}
use Rattle.tl_archive.specs.Complete.{HasAll}
use Rattle.tl_ledger.specs.Standing.{Ledger, IsStanding}

-- what was read to open a log: the size and root of its checkpoint, if it has one; the tiles from which its right
-- edge was restored; the entries of its partial bundle; and the tiles by which these were checked
pub record Found : Type 0 where
  pub head : Option Head
  pub edge_tiles : List (Tile × Bytes)
  pub entries : List Bytes
  pub entry_tiles : List (Tile × Bytes)

-- the number of entries that the checkpoint states, 0 if there is none
abbrev pub found_size : Option Head → ℕ
found_size None = 0
found_size (Some head) = head.size

-- these are the entries of a log that was found: none without a checkpoint, else a list with the checkpoint's size
-- and root
abbrev pub IsLogOf : Digest → Option Head → List Bytes → Type 0
IsLogOf H None log = log ≡ []
IsLogOf H (Some head) log = (length log ≡ head.size) × (tree_hash H log ≡ head.root)

-- some input hashed for the tree of these entries and a different one hashed for what was read have the same digest
abbrev pub FoundCollides : Digest → Found → List Bytes → Type 0
FoundCollides H found log =
    TilesCollide H (tiles_of found.edge_tiles) (found_size found.head) log
    ⊎ (LeavesCollide H found.entries log ⊎ TilesCollide H (tiles_of found.entry_tiles) (found_size found.head) log)

-- one of the keys has this name
abbrev pub IsNamed : List Key → Bytes → Type 0
IsNamed keys name = Any (λ key. key.name ≡ name) keys

-- the note opens with the keys as a checkpoint of this size and root, whose origin is the name of one of the keys
abbrev pub IsOfNote : Bytes → List Key → Head → Type 0
IsOfNote note keys head =
    (signed : checkpoint.Head) × IsSignedCheckpoint note keys signed × IsNamed keys signed.origin
    × (signed.size ≡ head.size) × (signed.root ≡ head.root)

-- there is no checkpoint, or some note that these keys open states this size and root for their log
abbrev pub IsOfSigned : List Key → Option Head → Type 0
IsOfSigned keys None = ⊤
IsOfSigned keys (Some head) = (note : Bytes) × IsOfNote note keys head

-- there is no checkpoint on the shelf, or the note there states this size and root
abbrev pub IsOfHeld : Held → List Key → Option Head → Type 0
IsOfHeld held keys None = held resource.Checkpoint ≡ None
IsOfHeld held keys (Some head) = (note : Bytes) × (held resource.Checkpoint ≡ Some note) × IsOfNote note keys head

-- the size and root that were found are those that the note states
abbrev pub IsStated : Bytes → List Key → Option Head → Type 0
IsStated note keys found = (head : Head) × (found ≡ Some head) × IsOfNote note keys head

-- the ledger is that of every log with the size and root of the checkpoint that was found, or inputs of the hash
-- collide
pub record Opens (H : Digest) (keys : List Key) (found : Found) (ledger : Ledger) : Type 0 where
  pub signed : IsOfSigned keys found.head
  pub sized : ledger.edge.size ≡ found_size found.head
  pub stands : (log : List Bytes) → IsLogOf H found.head log → IsStanding H log ledger ⊎ FoundCollides H found log

-- the ledger is that of every log of the size that was found of which all that it needs is there
abbrev pub StandsWhereWhole : Digest → Held → Found → Ledger → Type 0
StandsWhereWhole H held found ledger =
    (log : List Bytes) → length log ≡ found_size found.head → HasAll H log held → IsStanding H log ledger
