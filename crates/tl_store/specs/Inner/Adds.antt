-- What is stored when entries are added.
use Rattle.std.specs.Prelude.{◌≡◌, ℕ, ◌+◌, List, [], ◌∷◌, ◌++◌, length, map}
use Rattle.std.specs.List.{range_with_len}
use Rattle.tl_hash.specs.Bytes.{Bytes, Digest}
use Rattle.tl_store.specs.Stored.{stored_count, stored_hashes}
use Rattle.tl_store.specs.Inner.Subtrees.{subtree_hash}

-- `before` are the hashes of `size` entries, and `now` those of them and the next ones
pub record AddsEntries (H : Digest) (size : ℕ) (next : List Bytes) (before now : List Bytes) : Type 0 where
  pub counted : length before ≡ stored_count size → length now ≡ stored_count (size + length next)
  pub hashes : (entries : List Bytes) → length entries ≡ size → before ≡ stored_hashes H entries
      → now ≡ stored_hashes H (entries ++ next)

-- the hashes stored for some entries, and then those of the subtrees up to this level that end with one more entry,
-- the last of `size`; `hash` is the last of them
abbrev pub IsBegun : Digest → ℕ → List Bytes → Bytes → ℕ → List Bytes → Bytes → Type 0
IsBegun H size entries entry level hashes hash =
    (hash ≡ subtree_hash H (entries ++ entry ∷ []) size level)
    × (hashes ≡ stored_hashes H entries ++ map (subtree_hash H (entries ++ entry ∷ []) size) (range_with_len 0 (level + 1)))
