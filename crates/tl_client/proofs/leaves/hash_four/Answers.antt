use Rattle.std.proofs.Common.{◌≡◌, ◌+◌, ℕ, [], map, slice_index_or, vec_items, subst, arith}
use Rattle.sha2.specs.Sha256.{sha256}
use Rattle.tl_hash.specs.Tree.{leaf_input}
use Rattle.tl_client.proofs.FourLeaves.{below_four, leaf_at}
use Rattle.tl_client.proofs.leaves.hash_four.Goals as goal

pub returns : goal.returns
returns g c =
    let xs = c.args.entries.now in
    let from = c.args.from in
    let zero_on : from ≡ from + 0 = omega arith in
    below_four (λ j. slice_index_or c.digest_four.result j [] ≡ sha256 (leaf_input (slice_index_or (map vec_items xs) (from + j) [])))
    (subst (λ (p : ℕ). slice_index_or c.digest_four.result 0 [] ≡ sha256 (leaf_input (slice_index_or (map vec_items xs) p []))) zero_on
    (leaf_at vec_items xs from c.index-entries-from.result c.deref.result.now _ (omega (arith, c.requires)) c.index-entries-from.is c.deref.ensures.value c.digest_four.ensures.a))
    (leaf_at vec_items xs (from + 1) c.index-entries-from-2.result c.deref-2.result.now _ (omega (arith, c.requires)) c.index-entries-from-2.is c.deref-2.ensures.value c.digest_four.ensures.b)
    (leaf_at vec_items xs (from + 2) c.index-entries-from-3.result c.deref-3.result.now _ (omega (arith, c.requires)) c.index-entries-from-3.is c.deref-3.ensures.value c.digest_four.ensures.c)
    (leaf_at vec_items xs (from + 3) c.index-entries-from-4.result c.deref-4.result.now _ (omega (arith, c.requires)) c.index-entries-from-4.is c.deref-4.ensures.value c.digest_four.ensures.d)
