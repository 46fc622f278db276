-- A made proof that is not accepted shows a fork.
use Rattle.std.proofs.Common.{◌≡◌, ℕ, ◌≤◌, ◌^◌, ◌⊎◌, inl, inr, List, [], length, take, sym, arith}
use Rattle.tl_hash.specs.Bytes.{Digest}
use Rattle.tl_hash.specs.Tree.{tree_hash}
use Rattle.tl_proof.specs.Acceptance.{AcceptsConsistency}
use Rattle.tl_proof.specs.Proofs.{consistency_proof}
use Rattle.tl_proof.proofs.Consistency.{consistency_is_accepted}
use Rattle.tl_client.specs.Refused.{IsBetween, IsFork}
use Rattle.tl_client.specs.Inner.Growing.{IsMadeProof}
use Rattle.tl_hash.specs.declared.head.Head.{Head}

accepted_of : (H : Digest) (all : List (List ℕ)) (old size : ℕ) (root old_root : List ℕ) (proof : List (List ℕ)) → old ≤ size → length all ≡ size
    → tree_hash H all ≡ root → tree_hash H (take old all) ≡ old_root → proof ≡ consistency_proof H old all
    → AcceptsConsistency H proof size root old old_root
accepted_of H all old size root old_root proof most sized rooted old_rooted is =
    rw (is, sym sized, sym rooted, sym old_rooted) (consistency_is_accepted H all old (omega (arith, most, sized)))

pub fork_of : (H : Digest) (old new : Head) (proof : List (List ℕ)) → old.size ≤ new.size → new.size ≤ 2 ^ 62
    → ((old.size ≡ 0) ⊎ (old.size ≡ new.size) → proof ≡ []) → (IsBetween old.size new.size → IsMadeProof H old.size new.size new.root proof)
    → (AcceptsConsistency H proof new.size new.root old.size old.root → ⊥) → IsFork H old new
unfolding AcceptsConsistency
fork_of H old new proof order limit empty made refused =
    record {
      order = order;
      limit = limit;
      same_size = λ same roots. refused (inl (same, empty (inr same), roots));
      from_none = λ zero_is some root_is. refused (inr (inl (zero_is, some, empty (inl zero_is), root_is)));
      no_prefix = λ between.
          let tiles = made between in (
            tiles.0,
            tiles.1,
            λ all apart is.
                refused (accepted_of H all old.size new.size new.root old.root proof order apart.sized apart.rooted is (tiles.2 all apart)),
          );
    }
