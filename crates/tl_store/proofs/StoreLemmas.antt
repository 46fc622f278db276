-- The steps of a store in memory.
use Rattle.std.proofs.Common.{◌≡◌, ℕ, List, [], length, ap}
use Rattle.tl_hash.specs.Bytes.{Digest}
use Rattle.tl_store.specs.Stored.{stored_count, stored_hashes, stored_for}

pub counted_none : (xs : List (List ℕ)) → xs ≡ [] → length xs ≡ stored_count 0
unfolding stored_count
counted_none xs e = ap length e

pub hashes_none : (H : Digest) (xs : List (List ℕ)) → xs ≡ [] → xs ≡ stored_hashes H []
unfolding stored_hashes stored_for
hashes_none H xs e = e
