-- The link of a chain at which an old root isn't that of the list's prefix.
use Rattle.std.proofs.Common.{◌≡◌, ℕ, ◌⊎◌, inl, inr, true, List, length, take, reverse, Some, None, sym, ap, ◌∙◌, arith}
use Rattle.std.proofs.lemmas.List.{take_all}
use Rattle.tl_hash.specs.Bytes.{Digest}
use Rattle.tl_hash.specs.Tree.{tree_hash, inputs}
use Rattle.tl_hash.proofs.TreeLemmas.{tree_hash-none}
use Rattle.tl_proof.specs.Acceptance.{roots_from, AcceptsConsistency}
use Rattle.tl_proof.specs.Collisions.{fold_inputs, fold_inputs_from}
use Rattle.tl_proof.specs.Inner.Forks.{SameOrForks, IsCheckWalk}
use Rattle.tl_proof.specs.declared.audit.fork.CheckWalk.{CheckWalk}
use Rattle.tl_proof.proofs.Audits.{fold_inputs-some}
use Rattle.tl_proof.proofs.Folds.{Some-injective, None-no_Some}
use Rattle.tl_proof.proofs.Forks.{SameOrForks-among}

-- from no entries, and from as many as the list has, the old root is that of the prefix
pub link-none : (H : Digest) (proof : List (List ℕ)) (old : ℕ) (old_root : List ℕ) (entries : List (List ℕ)) → (old ≡ 0) ⊎ (old ≡ length entries)
    → AcceptsConsistency H proof (length entries) (tree_hash H entries) old old_root → old_root ≡ tree_hash H (take old entries)
unfolding AcceptsConsistency
link-none H proof old old_root entries reason (inl (same, none, equal)) = equal ∙ ap (tree_hash H) (sym (take_all old entries (omega (arith, same))))
link-none H proof old old_root entries reason (inr (inl (zero_is, some, none, equal))) =
    equal ∙ sym (tree_hash-none H) ∙ ap (λ (n : ℕ). tree_hash H (take n entries)) (sym zero_is)
link-none H proof old old_root entries (inl zero_is) (inr (inr (some, less, leads))) = absurd (omega (arith, some, zero_is))
link-none H proof old old_root entries (inr same) (inr (inr (some, less, leads))) = absurd (omega (arith, less, same))

-- an accepted proof between two sizes leads to the old root and the list's
accepted_leads : (H : Digest) (proof : List (List ℕ)) (size : ℕ) (root : List ℕ) (old : ℕ) (old_root : List ℕ) → (old ≡ 0 → ⊥) → (old ≡ size → ⊥)
    → AcceptsConsistency H proof size root old old_root → roots_from H old size true (reverse proof) old_root ≡ Some (old_root, root)
unfolding AcceptsConsistency
accepted_leads H proof size root old old_root some differ (inl a) = absurd (differ a.0)
accepted_leads H proof size root old old_root some differ (inr (inl a)) = absurd (some a.0)
accepted_leads H proof size root old old_root some differ (inr (inr a)) = a.2

pub link-walk : (H : Digest) (proof : List (List ℕ)) (old : ℕ) (old_root : List ℕ) (entries : List (List ℕ)) (walk : CheckWalk) → (old ≡ 0 → ⊥) → (old ≡ length entries → ⊥)
    → IsCheckWalk H old true (reverse proof) old_root entries walk
    → AcceptsConsistency H proof (length entries) (tree_hash H entries) old old_root
    → SameOrForks H walk.fork old_root (tree_hash H (take old entries)) (fold_inputs H old (length entries) proof old_root) (inputs H entries)
link-walk H proof old old_root entries walk some differ is accepted =
    let leads = sym is.leads ∙ accepted_leads H proof (length entries) (tree_hash H entries) old old_root some differ accepted in
    let p = Some-injective (walk.old, walk.new) (old_root, tree_hash H entries) leads in
    let old_is : walk.old ≡ old_root = ap (λ (q : List ℕ × List ℕ). q.0) p in
    let new_is : walk.new ≡ tree_hash H entries = ap (λ (q : List ℕ × List ℕ). q.1) p in
    let folded : List (List ℕ) = fold_inputs_from H old (length entries) true (reverse proof) old_root in
    SameOrForks-among H walk.fork walk.old (tree_hash H (take old entries)) old_root (tree_hash H (take old entries))
    folded (inputs H entries) (fold_inputs H old (length entries) proof old_root) (inputs H entries)
    (λ e. sym old_is ∙ e)
    (λ x here. rw (fold_inputs-some H old (length entries) proof old_root (omega (arith, some))) here)
    (λ x here. here)
    (is.meets (new_is ∙ sym is.list))

pub link-nowhere : (H : Digest) (proof : List (List ℕ)) (old : ℕ) (old_root : List ℕ) (entries : List (List ℕ)) → (old ≡ 0 → ⊥) → (old ≡ length entries → ⊥)
    → roots_from H old (length entries) true (reverse proof) old_root ≡ None
    → AcceptsConsistency H proof (length entries) (tree_hash H entries) old old_root → ⊥
link-nowhere H proof old old_root entries some differ none accepted =
    None-no_Some (roots_from H old (length entries) true (reverse proof) old_root) (old_root, tree_hash H entries) none
    (accepted_leads H proof (length entries) (tree_hash H entries) old old_root some differ accepted)
