use Rattle.std.proofs.Common.{◌≡◌, ℕ, [], map, take, slice_index_or}
use Rattle.tl_store.proofs.store.HashStoreHashReader.read.Given as goal

abbrev pub invariant-loop-index : goal.invariant-loop-index
invariant-loop-index g l = l.answer.items ≡ map (λ (i : ℕ). slice_index_or l.self.hashes i []) (take l.index-index l.indexes)
