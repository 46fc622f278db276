-- The chain of one step, from size 0 to where steps lead.
use Rattle.std.proofs.Common.{◌≡◌, ◌≢◌, ◌<◌, ℕ, List, [], ◌∷◌, refl, ap, subst, ◌∙◌, ◌⊎◌, inl, inr, arith, All}
use Rattle.std.proofs.lemmas.List.Elements.{All-cons, All-head, All-nil, All-tail}
use Rattle.tl_hash.specs.Bytes.{Digest}
use Rattle.tl_proof.specs.Acceptance.{AcceptsConsistency, Linked, Step}
use Rattle.tl_proof.specs.Laws.{HasHashLength, MadeOfHashes}
use Rattle.tl_witness.specs.Chain.{Follows, IsChain, IsLinked, TreeHead, first_head, head_after, last_head}
use Rattle.tl_witness.specs.Open.{SavedChain}
use Rattle.tl_witness.proofs.ChainLaws.{linked-one}
use Rattle.tl_logs.specs.State.{end_of, in_one_step, whole_step}

-- a head that may be reached: it has a size, or is the first
abbrev Reached : Digest → TreeHead → Type 0
Reached H head = (0 < head.size) ⊎ (first_head H ≡ head)

made : (h : TreeHead) (size : ℕ) (root : List ℕ) → h.size ≡ size → h.root ≡ root → h ≡ record { size = size; root = root }
made h size root e f = ap (λ (n : ℕ). record { size = n; root = h.root }) e ∙ ap (λ (r : List ℕ). record { size = size; root = r }) f

step_reaches : (H : Digest) (old : TreeHead) (step : Step) → Reached H old → Follows H old step → Reached H (head_after step)
unfolding AcceptsConsistency
step_reaches H old step reached (inl (size, none, root)) = subst (Reached H) (made old step.size step.root size root) reached
step_reaches H old step reached (inr (inl (first, some, none, root))) = inl some
step_reaches H old step reached (inr (inr (some, less, leads))) = inl (omega (arith, less))

steps_reach : (H : Digest) (old : TreeHead) (steps : List Step) → Reached H old → IsLinked H old steps → Reached H (last_head old steps)
unfolding Linked
steps_reach H old [] reached linked = reached
steps_reach H old (s ∷ steps) reached linked = steps_reach H (head_after s) steps (step_reaches H old s reached linked.0) linked.1

whole_follows : (H : Digest) (head : TreeHead) → Reached H head → Follows H (first_head H) (whole_step head)
unfolding AcceptsConsistency
whole_follows H head (inl some) = inr (inl (refl, some, refl, refl))
whole_follows H head (inr first) = inl (ap (λ (h : TreeHead). h.size) first, refl, ap (λ (h : TreeHead). h.root) first)

last_made : (old : TreeHead) (s : Step) (steps : List Step) → All MadeOfHashes (s ∷ steps) → HasHashLength (last_head old (s ∷ steps)).root
last_made old s [] all = (All-head MadeOfHashes s [] all).0
last_made old s (t ∷ steps) all = last_made (head_after s) t steps (All-tail MadeOfHashes s (t ∷ steps) all)

pub whole_chain : (H : Digest) (steps : List Step) → IsChain H steps → steps ≢ [] → IsChain H (whole_step (last_head (first_head H) steps) ∷ [])
whole_chain H [] is some = absurd (some refl)
whole_chain H (s ∷ steps) is some =
    let head = last_head (first_head H) (s ∷ steps) in
    record {
      linked = linked-one H (first_head H) (whole_step head) (whole_follows H head (steps_reach H (first_head H) (s ∷ steps) (inr refl) is.linked));
      made = All-cons MadeOfHashes (whole_step head) [] (last_made (first_head H) s steps is.made, All-nil HasHashLength) (All-nil MadeOfHashes);
    }

pub whole_end : (H : Digest) (chain : SavedChain) → end_of H (in_one_step (end_of H chain)) ≡ end_of H chain
whole_end H chain = refl
