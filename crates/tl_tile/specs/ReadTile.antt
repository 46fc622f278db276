-- What reading a tile through a reader of stored hashes returns (C2SP tlog-tiles, "Merkle Tree").
use Rattle.std.specs.Prelude.{ℕ, ◌+◌, ◌*◌, ◌^◌, ◌≤◌}
use Rattle.tl_store.specs.declared.reader.ReadFault.{ReadFault}
use Rattle.tl_store.specs.declared.reader.ReadFault.TheVariants.{OutOfRange, Source, OutOfMemory, BadTile}
use Rattle.tl_tile.specs.declared.resource.Tile.{Tile}

-- the end of the entries under a tile
abbrev pub end_of : Tile → ℕ
end_of t = (t.index * 256 + t.width) * 256 ^ t.level

-- a reader of this size has all hashes of the tile
abbrev pub HasTile : ℕ → Tile → Type 0
HasTile size t = (size ≤ 2 ^ 62) × (end_of t ≤ size)

-- when reading a tile through a reader of this size fails with this fault; `may_fail` says which of `Source` and
-- `BadTile` the reader may give. Each tile has a hash, so each call allocates
abbrev pub GivesTileFault : ℕ → (ReadFault → Type 0) → Tile → ReadFault → Type 0
GivesTileFault size may_fail t OutOfRange = HasTile size t → ⊥
GivesTileFault size may_fail t Source = may_fail Source × HasTile size t
GivesTileFault size may_fail t OutOfMemory = Unit {0}
GivesTileFault size may_fail t (BadTile level index width) = may_fail (BadTile level index width) × HasTile size t
