-- Heads that are written as lines, and made chains.
use Rattle.std.proofs.Common.{◌≡◌, ◌<◌, ℕ, List, [], ◌∷◌, ◌++◌, length, map, take, refl, sym, ap, subst, ◌∙◌, All, get_or, arith, append-nil}
use Rattle.std.proofs.lemmas.List.{get_or-map, length-map, take_all}
use Rattle.tl_proof.specs.Acceptance.{Step}
use Rattle.tl_witness.specs.ChainLine.{IsChainLine, chain_text}
use Rattle.tl_witness.specs.Open.{SavedChain}
use Rattle.tl_logs.specs.State.{OriginHead, in_one_step, whole_line, whole_step}
use Rattle.tl_logs.proofs.ListLaws.{shown_twice}

-- the line of the head at a position
pub line_at : {A : Type 0} (view : A → OriginHead) (heads : List A) (place : ℕ) (x : A) (origin : List ℕ) (step : Step) → place < length heads → x ≡ get_or heads place x
    → All (λ o. IsChainLine (whole_line o)) (map view heads) → origin ≡ (view x).origin → step ≡ whole_step (view x).head
    → IsChainLine (record { origin = origin; step = step })
line_at view heads place x origin step less read all named whole =
    let at : get_or (map view heads) place (view x) ≡ view x = get_or-map view heads place x (view x) less ∙ ap view (sym read) in
    let is : IsChainLine (whole_line (view x)) = subst (λ (o : OriginHead). IsChainLine (whole_line o)) at (all place (view x) (omega (arith, less, length-map heads view))) in
    subst (λ (o : List ℕ). IsChainLine (record { origin = o; step = step })) (sym named)
    (subst (λ (s : Step). IsChainLine (record { origin = (view x).origin; step = s })) (sym whole) is)

-- all of them are written
pub all_written : {A : Type 0} (view : A → OriginHead) (heads : List A) (count : ℕ) (text : List ℕ) → (count < length heads → ⊥)
    → text ≡ chain_text (map (λ o. whole_line (view o)) (take count heads)) → text ≡ chain_text (map whole_line (map view heads))
all_written view heads count text done so_far =
    so_far ∙ ap (λ (hs : List _). chain_text (map (λ o. whole_line (view o)) hs)) (take_all count heads (omega (arith, done)))
    ∙ ap chain_text (shown_twice view whole_line (λ o. whole_line (view o)) heads (λ o. refl))

-- all of them are made chains
pub all_chains : {A : Type 0} (view : A → OriginHead) (heads left : List A) (chains : List SavedChain) → length left ≡ 0
    → chains ++ map (λ o. in_one_step (view o)) left ≡ map (λ o. in_one_step (view o)) heads → chains ≡ map in_one_step (map view heads)
all_chains view heads [] chains none so_far =
    sym (append-nil chains) ∙ so_far ∙ shown_twice view in_one_step (λ o. in_one_step (view o)) heads (λ o. refl)
all_chains view heads (x ∷ left) chains none so_far = absurd (omega arith)
