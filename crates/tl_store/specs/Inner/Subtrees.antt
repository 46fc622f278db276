-- The complete subtrees over some entries, level by level.
use Rattle.std.specs.Prelude.{ℕ, ◌+◌, ◌-◌, ◌*◌, ◌^◌, List, take, drop, count_by, nat_le}
use Rattle.std.specs.List.{range_with_len}
use Rattle.tl_hash.specs.Bytes.{Bytes, Digest}
use Rattle.tl_hash.specs.Tree.{tree_hash}

-- the levels 0 to n - 1; a tree of n entries has no complete subtree above them
abbrev pub levels : ℕ → List ℕ
levels n = range_with_len 0 n

-- the number of complete subtrees of a level over n entries
abbrev pub count_at : ℕ → ℕ → ℕ
count_at n level = count_by (λ place. nat_le ((place + 1) * 2 ^ level) n) (range_with_len 0 n)

-- the hash of the last 2 ^ level of the first n entries
abbrev pub subtree_hash : Digest → List Bytes → ℕ → ℕ → Bytes
subtree_hash H entries n level = tree_hash H (drop (n - 2 ^ level) (take n entries))
