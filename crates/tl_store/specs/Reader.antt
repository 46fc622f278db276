-- What a reader of stored hashes returns (HashReader of Go's golang.org/x/mod/sumdb/tlog).
use Rattle.std.specs.Prelude.{ℕ, ◌<◌, ◌≤◌, ◌^◌, List, length, All, Any, nat_le, if◌then◌else◌}
use Rattle.tl_store.specs.Stored.{stored_count}
use Rattle.tl_store.specs.declared.reader.ReadFault.{ReadFault}
use Rattle.tl_store.specs.declared.reader.ReadFault.TheVariants.{OutOfRange, Source, OutOfMemory, BadTile}

-- the number of entries of a reader of this size: none if the size is above 2 ^ 62
abbrev pub readable_size : ℕ → ℕ
readable_size size = if nat_le size (2 ^ 62) then size else 0

-- the number of its stored hashes
abbrev pub readable_count : ℕ → ℕ
readable_count size = stored_count (readable_size size)

-- each number is below the count of stored hashes
abbrev pub AreReadable : ℕ → List ℕ → Type 0
AreReadable size indexes = All (λ index. index < readable_count size) indexes

-- when a reader of this size fails with this fault: out of range first, and otherwise only if some hash is asked for;
-- `may_fail` says which faults its source may give
abbrev pub GivesFault : ℕ → (ReadFault → Type 0) → List ℕ → ReadFault → Type 0
GivesFault size may_fail indexes OutOfRange = Any (λ index. readable_count size ≤ index) indexes
GivesFault size may_fail indexes Source = may_fail Source × AreReadable size indexes × (0 < length indexes)
GivesFault size may_fail indexes OutOfMemory = AreReadable size indexes × (0 < length indexes)
GivesFault size may_fail indexes (BadTile level index width) = may_fail (BadTile level index width) × AreReadable size indexes × (0 < length indexes)
