-- The contents of a store of hashes, and the entries it stands for: those whose stored hashes it has (Go's
-- golang.org/x/mod/sumdb/tlog).
use Rattle.std.specs.Prelude.{◌≡◌, ◌≤◌, ◌^◌, ℕ, List, length}
use Rattle.tl_hash.specs.Bytes.{Bytes, Digest}
use Rattle.tl_store.specs.Stored.{stored_hashes}

-- the number of entries, and the hashes stored for them
pub record Contents : Type 0 where
  pub size : ℕ
  pub hashes : List Bytes
  -- the number of hashes that it has memory for
  pub room : ℕ

-- the store has the size of these entries, at most 2 ^ 62, and the hashes stored for them under this digest function
abbrev pub StandsFor : Contents → Digest → List Bytes → Type 0
StandsFor store H entries =
    (length entries ≡ store.size) × (length entries ≤ 2 ^ 62) × (store.hashes ≡ stored_hashes H entries)
