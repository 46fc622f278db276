-- How the hashes of a growing tree are stored and numbered (StoredHashIndex, StoredHashCount and StoredHashes of Go's
-- golang.org/x/mod/sumdb/tlog). The hash of each complete subtree is stored once, as soon as its last entry is there,
-- the smaller subtrees first. A complete subtree of a level is over 2 ^ level entries, level 0 has the leaves, and a
-- place is the number of a subtree within its level, counted from 0.
use Rattle.std.specs.Prelude.{ℕ, zero, suc, ◌+◌, ◌-◌, ◌*◌, ◌%◌, ◌^◌, List, [], ◌++◌, length, take, drop, map, filter, sum_by, count_by, ◌==◌, nat_le, slice_index_or}
use Rattle.std.specs.List.{range_with_len}
use Rattle.tl_hash.specs.Bytes.{Bytes, Digest}
use Rattle.tl_hash.specs.Tree.{tree_hash}

-- the number of complete subtrees over n entries: at each level one for each place whose 2 ^ level entries are all
-- there; a tree of n entries has none above level n - 1
unfoldable pub stored_count : ℕ → ℕ
stored_count n =
    sum_by (λ level. count_by (λ place. nat_le ((place + 1) * 2 ^ level) n) (range_with_len 0 n)) (range_with_len 0 n)

-- the number of the stored hash of a complete subtree
unfoldable pub stored_index : ℕ → ℕ → ℕ
stored_index level place = stored_count ((place + 1) * 2 ^ level - 1) + level

-- the levels of the complete subtrees that end with the n-th entry, from 0 up
unfoldable pub levels_ending : ℕ → List ℕ
levels_ending n = filter (λ level. n % 2 ^ level == 0) (range_with_len 0 n)

-- the hashes stored for the first n entries: each entry adds those of the subtrees that end with it, over the last 2
-- ^ level of the entries so far
unfoldable pub stored_for : Digest → ℕ → List Bytes → List Bytes
stored_for H zero entries = []
stored_for H (suc n) entries =
    stored_for H n entries
    ++ map (λ level. tree_hash H (drop (suc n - 2 ^ level) (take (suc n) entries))) (levels_ending (suc n))

-- the hashes stored for a list of entries, in the order of their numbers
unfoldable pub stored_hashes : Digest → List Bytes → List Bytes
stored_hashes H entries = stored_for H (length entries) entries

-- the stored hash with this number
abbrev pub stored_hash : Digest → List Bytes → ℕ → Bytes
stored_hash H entries index = slice_index_or (stored_hashes H entries) index []
