-- Chains of links: where they lead, link by link, and back.
use Rattle.std.proofs.Common.{◌≡◌, ℕ, ◌+◌, ◌-◌, ◌<◌, ◌≤◌, ◌↔◌, List, [], ◌∷◌, ◌++◌, length, map, take, drop, get_or, Option, Contains, refl, sym, ap, subst, ◌∙◌, arith}
use Rattle.std.proofs.lemmas.List.{take_all, take-take, take_more, drop_more, take-append-drop, drop_all, length-map, length-take-le, take-map, get_or-map}
use Rattle.std.proofs.lemmas.List.Elements.{Contains-append_left, Contains-append_right}
use Rattle.tl_hash.specs.Bytes.{Digest}
use Rattle.tl_hash.specs.Tree.{tree_hash, inputs}
use Rattle.tl_proof.specs.Acceptance.{AcceptsConsistency, Step, Linked, EndsWith}
use Rattle.tl_proof.specs.Collisions.{fold_inputs, step_inputs}
use Rattle.tl_proof.specs.Inner.Forks.{SameOrForks, end_size, end_root}
use Rattle.tl_proof.specs.declared.audit.fork.Fork.{Fork}
use Rattle.tl_proof.proofs.Audits.{AcceptsConsistency-ordered}
use Rattle.tl_proof.proofs.Forks.{SameOrForks-among}

-- accepted steps from a size and root that end with that size and root
abbrev pub Lead : (List ℕ → List ℕ) → ℕ → List ℕ → List Step → ℕ → List ℕ → Type 0
Lead H old old_root steps size root = Linked H old old_root steps × EndsWith old old_root steps size root

-- the steps that are left lead there exactly if all do
abbrev pub LeadOn : (List ℕ → List ℕ) → ℕ → List ℕ → List Step → ℕ → List ℕ → List Step → ℕ → List ℕ → Type 0
LeadOn H at at_root left old old_root steps size root = Lead H at at_root left size root ↔ Lead H old old_root steps size root

Lead-step : (H : Digest) (old : ℕ) (old_root : List ℕ) (step : Step) (steps : List Step) (size : ℕ) (root : List ℕ)
    → AcceptsConsistency H step.proof step.size step.root old old_root → Lead H step.size step.root steps size root ↔ Lead H old old_root (step ∷ steps) size root
unfolding Linked EndsWith
Lead-step H old old_root step steps size root accepted = (λ a. ((accepted, a.0), a.1), λ a. (a.0.1, a.1))

Lead-accepted : (H : Digest) (old : ℕ) (old_root : List ℕ) (step : Step) (steps : List Step) (size : ℕ) (root : List ℕ)
    → Lead H old old_root (step ∷ steps) size root → AcceptsConsistency H step.proof step.size step.root old old_root
unfolding Linked EndsWith
Lead-accepted H old old_root step steps size root a = a.0.0

Lead-none : (H : Digest) (old : ℕ) (old_root : List ℕ) (size : ℕ) (root : List ℕ) → ((old ≡ size) × (old_root ≡ root)) ↔ Lead H old old_root [] size root
unfolding Linked EndsWith
Lead-none H old old_root size root = (λ a. (tt, a), λ a. a.1)

-- what is left at a link
left_at : {X : Type 0} (f : X → Step) (xs : List X) (i : ℕ) (x : X) → i < length xs → x ≡ get_or xs i x → map f (drop i xs) ≡ f x ∷ map f (drop (i + 1) xs)
left_at f xs i x within is = ap (map f) (drop_more xs i x within) ∙ ap (λ (z : _). f z ∷ map f (drop (i + 1) xs)) (sym is)

pub LeadOn-step : {X : Type 0} (f : X → Step) (H : Digest) (at : ℕ) (at_root : List ℕ) (xs : List X) (i : ℕ) (x : X) (old : ℕ) (old_root : List ℕ) (size : ℕ) (root : List ℕ)
    → i < length xs → x ≡ get_or xs i x → AcceptsConsistency H (f x).proof (f x).size (f x).root at at_root
    → LeadOn H at at_root (map f (drop i xs)) old old_root (map f xs) size root
    → LeadOn H (f x).size (f x).root (map f (drop (i + 1) xs)) old old_root (map f xs) size root
LeadOn-step f H at at_root xs i x old old_root size root within is accepted on =
    let here : LeadOn H at at_root (f x ∷ map f (drop (i + 1) xs)) old old_root (map f xs) size root =
    subst (λ (left : List Step). LeadOn H at at_root left old old_root (map f xs) size root) (left_at f xs i x within is) on in
    let step = Lead-step H at at_root (f x) (map f (drop (i + 1) xs)) size root accepted in
    (λ a. here.0 (step.0 a), λ a. step.1 (here.1 a))

pub LeadOn-refused : {X : Type 0} (f : X → Step) (H : Digest) (at : ℕ) (at_root : List ℕ) (xs : List X) (i : ℕ) (x : X) (old : ℕ) (old_root : List ℕ) (size : ℕ) (root : List ℕ)
    → i < length xs → x ≡ get_or xs i x → (AcceptsConsistency H (f x).proof (f x).size (f x).root at at_root → ⊥)
    → LeadOn H at at_root (map f (drop i xs)) old old_root (map f xs) size root
    → Lead H old old_root (map f xs) size root → ⊥
LeadOn-refused f H at at_root xs i x old old_root size root within is refused on a =
    let here : LeadOn H at at_root (f x ∷ map f (drop (i + 1) xs)) old old_root (map f xs) size root =
    subst (λ (left : List Step). LeadOn H at at_root left old old_root (map f xs) size root) (left_at f xs i x within is) on in
    refused (Lead-accepted H at at_root (f x) (map f (drop (i + 1) xs)) size root (here.1 a))

pub LeadOn-end : {X : Type 0} (f : X → Step) (H : Digest) (at : ℕ) (at_root : List ℕ) (xs : List X) (i : ℕ) (old : ℕ) (old_root : List ℕ) (size : ℕ) (root : List ℕ)
    → length xs ≤ i → LeadOn H at at_root (map f (drop i xs)) old old_root (map f xs) size root
    → ((at ≡ size) × (at_root ≡ root)) ↔ Lead H old old_root (map f xs) size root
LeadOn-end f H at at_root xs i old old_root size root all on =
    let none : map f (drop i xs) ≡ [] = ap (map f) (drop_all i xs all) in
    let here : LeadOn H at at_root [] old old_root (map f xs) size root = subst (λ (left : List Step). LeadOn H at at_root left old old_root (map f xs) size root) none on in
    let last = Lead-none H at at_root size root in
    (λ a. here.0 (last.0 a), λ a. last.1 (here.1 a))

pub LeadOn-start : {X : Type 0} (f : X → Step) (H : Digest) (xs : List X) (old : ℕ) (old_root : List ℕ) (size : ℕ) (root : List ℕ) → LeadOn H old old_root (map f (drop 0 xs)) old old_root (map f xs) size root
LeadOn-start f H xs old old_root size root = (λ a. a, λ a. a)

-- where steps end, with one more
pub end_size-push : (old : ℕ) (steps : List Step) (step : Step) → end_size old (steps ++ step ∷ []) ≡ step.size
unfolding end_size
end_size-push old [] step = refl
end_size-push old (first ∷ steps) step = end_size-push first.size steps step

pub end_root-push : (old_root : List ℕ) (steps : List Step) (step : Step) → end_root old_root (steps ++ step ∷ []) ≡ step.root
unfolding end_root
end_root-push old_root [] step = refl
end_root-push old_root (first ∷ steps) step = end_root-push first.root steps step

pub end_size-none : (old : ℕ) → end_size old [] ≡ old
unfolding end_size
end_size-none old = refl

pub end_root-none : (old_root : List ℕ) → end_root old_root [] ≡ old_root
unfolding end_root
end_root-none old_root = refl

-- steps end where they end
pub ends_size : (steps : List Step) (old : ℕ) (old_root : List ℕ) (size : ℕ) (root : List ℕ) → EndsWith old old_root steps size root → end_size old steps ≡ size
unfolding EndsWith end_size
ends_size [] old old_root size root ends = ends.0
ends_size (step ∷ steps) old old_root size root ends = ends_size steps step.size step.root size root ends

pub ends_root : (steps : List Step) (old : ℕ) (old_root : List ℕ) (size : ℕ) (root : List ℕ) → EndsWith old old_root steps size root → end_root old_root steps ≡ root
unfolding EndsWith end_root
ends_root [] old old_root size root ends = ends.1
ends_root (step ∷ steps) old old_root size root ends = ends_root steps step.size step.root size root ends

-- a step is accepted from where those before it end
pub linked_at : (H : Digest) (before : List Step) (step : Step) (after : List Step) (old : ℕ) (old_root : List ℕ) → Linked H old old_root (before ++ step ∷ after)
    → AcceptsConsistency H step.proof step.size step.root (end_size old before) (end_root old_root before)
unfolding Linked end_size end_root
linked_at H [] step after old old_root linked = linked.0
linked_at H (first ∷ before) step after old old_root linked = linked_at H before step after first.size first.root linked.1

-- no step ends above the last one
pub linked_most : (H : Digest) (steps : List Step) (old : ℕ) (old_root : List ℕ) (size : ℕ) (root : List ℕ) → Linked H old old_root steps → EndsWith old old_root steps size root → old ≤ size
unfolding Linked EndsWith
linked_most H [] old old_root size root linked ends = omega (arith, ends.0)
linked_most H (step ∷ steps) old old_root size root linked ends =
    omega (arith, AcceptsConsistency-ordered H step.proof step.size step.root old old_root linked.0, linked_most H steps step.size step.root size root linked.1 ends)

pub most_at : (H : Digest) (before after : List Step) (old : ℕ) (old_root : List ℕ) (size : ℕ) (root : List ℕ) → Linked H old old_root (before ++ after) → EndsWith old old_root (before ++ after) size root
    → end_size old before ≤ size
unfolding Linked EndsWith end_size
most_at H [] after old old_root size root linked ends = linked_most H after old old_root size root linked ends
most_at H (first ∷ before) after old old_root size root linked ends = most_at H before after first.size first.root size root linked.1 ends

-- what is hashed for one step is hashed for all
pub step_inputs-at : (H : Digest) (new : List (List ℕ)) (before : List Step) (step : Step) (after : List Step) (old : ℕ) (old_root : List ℕ) (x : List ℕ)
    → Contains (inputs H (take step.size new) ++ fold_inputs H (end_size old before) step.size step.proof (end_root old_root before)) x
    → Contains (step_inputs H new old old_root (before ++ step ∷ after)) x
unfolding step_inputs end_size end_root
step_inputs-at H new [] step after old old_root x here =
    Contains-append_left (inputs H (take step.size new) ++ fold_inputs H old step.size step.proof old_root) (step_inputs H new step.size step.root after) x here
step_inputs-at H new (first ∷ before) step after old old_root x here =
    Contains-append_right (inputs H (take first.size new) ++ fold_inputs H old first.size first.proof old_root) (step_inputs H new first.size first.root (before ++ step ∷ after)) x
    (step_inputs-at H new before step after first.size first.root x here)

-- the first links of values that say steps
pub size_after-none : (old count : ℕ) (steps : List Step) → count ≡ 0 → old ≡ end_size old (take count steps)
unfolding end_size
size_after-none old count steps none = rw none refl

pub root_after-none : (old_root : List ℕ) (count : ℕ) (steps : List Step) → count ≡ 0 → old_root ≡ end_root old_root (take count steps)
unfolding end_root
root_after-none old_root count steps none = rw none refl

pub taken_more : {X : Type 0} (f : X → Step) (xs : List X) (i : ℕ) (d : X) → i < length xs → take (i + 1) (map f xs) ≡ take i (map f xs) ++ f (get_or xs i d) ∷ []
taken_more f xs i d within =
    take_more (map f xs) i (f d) (omega (arith, within, length-map xs f)) ∙ ap (λ (z : Step). take i (map f xs) ++ z ∷ []) (get_or-map f xs i d (f d) within)

pub size_after-some : {X : Type 0} (f : X → Step) (old count : ℕ) (xs : List X) (d : X) → (count ≡ 0 → ⊥) → count ≤ length xs → (f (get_or xs (count - 1) d)).size ≡ end_size old (take count (map f xs))
size_after-some f old count xs d some most =
    let i : ℕ = count - 1 in
    let next : i + 1 ≡ count = omega (arith, some) in
    sym (end_size-push old (take i (map f xs)) (f (get_or xs i d)))
    ∙ ap (end_size old) (sym (taken_more f xs i d (omega (arith, some, most)))) ∙ ap (λ (n : ℕ). end_size old (take n (map f xs))) next

pub root_after-some : {X : Type 0} (f : X → Step) (old_root : List ℕ) (count : ℕ) (xs : List X) (d : X) → (count ≡ 0 → ⊥) → count ≤ length xs → (f (get_or xs (count - 1) d)).root ≡ end_root old_root (take count (map f xs))
root_after-some f old_root count xs d some most =
    let i : ℕ = count - 1 in
    let next : i + 1 ≡ count = omega (arith, some) in
    sym (end_root-push old_root (take i (map f xs)) (f (get_or xs i d)))
    ∙ ap (end_root old_root) (sym (taken_more f xs i d (omega (arith, some, most)))) ∙ ap (λ (n : ℕ). end_root old_root (take n (map f xs))) next

-- the steps before one, it, and those after it
pub parts_at : {X : Type 0} (f : X → Step) (xs : List X) (i : ℕ) (d : X) → i < length xs → map f xs ≡ take i (map f xs) ++ f (get_or xs i d) ∷ drop (i + 1) (map f xs)
parts_at f xs i d within =
    sym (take-append-drop i (map f xs))
    ∙ ap (λ (z : List Step). take i (map f xs) ++ z)
    (drop_more (map f xs) i (f d) (omega (arith, within, length-map xs f)) ∙ ap (λ (z : Step). z ∷ drop (i + 1) (map f xs)) (get_or-map f xs i d (f d) within))

-- the sizes at a step: that before it is at most its own, and that at most the last one
pub sizes_at : {X : Type 0} (f : X → Step) (H : Digest) (xs : List X) (i : ℕ) (d : X) (old : ℕ) (old_root : List ℕ) (size : ℕ) (root : List ℕ)
    → i < length xs → Linked H old old_root (map f xs) → EndsWith old old_root (map f xs) size root
    → (end_size old (take i (map f xs)) ≤ (f (get_or xs i d)).size) × ((f (get_or xs i d)).size ≤ size)
sizes_at f H xs i d old old_root size root within linked ends =
    let step : Step = f (get_or xs i d) in
    let before : List Step = take i (map f xs) in
    let after : List Step = drop (i + 1) (map f xs) in
    let parts : map f xs ≡ before ++ step ∷ after = parts_at f xs i d within in
    let linked_here : Linked H old old_root (before ++ step ∷ after) = subst (λ (z : List Step). Linked H old old_root z) parts linked in
    let split : map f xs ≡ take (i + 1) (map f xs) ++ drop (i + 1) (map f xs) = sym (take-append-drop (i + 1) (map f xs)) in
    let most : end_size old (take (i + 1) (map f xs)) ≤ size =
    most_at H (take (i + 1) (map f xs)) after old old_root size root (subst (λ (z : List Step). Linked H old old_root z) split linked) (subst (λ (z : List Step). EndsWith old old_root z size root) split ends) in
    let size_is : end_size old (take (i + 1) (map f xs)) ≡ step.size = ap (end_size old) (taken_more f xs i d within) ∙ end_size-push old before step in (
      AcceptsConsistency-ordered H step.proof step.size step.root (end_size old before) (end_root old_root before) (linked_at H before step after old old_root linked_here),
      omega (arith, most, size_is),
    )

-- a fork in one link is one of the whole chain
fork_at-step : (H : Digest) (entries : List (List ℕ)) (before : List Step) (step : Step) (after : List Step) (old : ℕ) (old_root : List ℕ) (fork : Option Fork)
    → step.size ≤ length entries → end_size old before ≤ step.size → Linked H old old_root (before ++ step ∷ after) → step.root ≡ tree_hash H (take step.size entries)
    → (AcceptsConsistency H step.proof (length (take step.size entries)) (tree_hash H (take step.size entries)) (end_size old before) (end_root old_root before)
    → SameOrForks H fork (end_root old_root before) (tree_hash H (take (end_size old before) (take step.size entries)))
    (fold_inputs H (end_size old before) (length (take step.size entries)) step.proof (end_root old_root before)) (inputs H (take step.size entries)))
    → SameOrForks H fork (end_root old_root before) (tree_hash H (take (end_size old before) entries))
    (step_inputs H entries old old_root (before ++ step ∷ after)) (step_inputs H entries old old_root (before ++ step ∷ after))
fork_at-step H entries before step after old old_root fork most less linked root_is found =
    let part : List (List ℕ) = take step.size entries in
    let size : ℕ = end_size old before in
    let root : List ℕ = end_root old_root before in
    let len : length part ≡ step.size = length-take-le step.size entries most in
    let accepted : AcceptsConsistency H step.proof (length part) (tree_hash H part) size root =
    subst (λ (r : List ℕ). AcceptsConsistency H step.proof (length part) r size root) root_is
    (subst (λ (n : ℕ). AcceptsConsistency H step.proof n step.root size root) (sym len) (linked_at H before step after old old_root linked)) in
    let folded : List (List ℕ) = fold_inputs H size step.size step.proof root in
    SameOrForks-among H fork root (tree_hash H (take size part)) root (tree_hash H (take size entries))
    (fold_inputs H size (length part) step.proof root) (inputs H part)
    (step_inputs H entries old old_root (before ++ step ∷ after)) (step_inputs H entries old old_root (before ++ step ∷ after))
    (λ e. e ∙ ap (tree_hash H) (take-take size step.size entries less))
    (λ x here. step_inputs-at H entries before step after old old_root x
    (Contains-append_right (inputs H part) folded x (subst (λ (n : ℕ). Contains (fold_inputs H size n step.proof root) x) len here)))
    (λ x here. step_inputs-at H entries before step after old old_root x (Contains-append_left (inputs H part) folded x here))
    (found accepted)

-- what is found at one link of values that say steps
abbrev pub FindsAt : (List ℕ → List ℕ) → List (List ℕ) → List (List ℕ) → ℕ → List ℕ → Option Fork → List (List ℕ) → Type 0
FindsAt H part proof size root fork entries =
    AcceptsConsistency H proof (length part) (tree_hash H part) size root
    → SameOrForks H fork root (tree_hash H (take size part)) (fold_inputs H size (length part) proof root) (inputs H part)

pub fork_at-of : {X Y : Type 0} (f : X → Step) (e : Y → List ℕ) (H : Digest) (xs : List X) (ys : List Y) (i : ℕ) (d : X) (old : ℕ) (old_root : List ℕ) (proof : List (List ℕ)) (size : ℕ) (root : List ℕ) (fork : Option Fork)
    → i < length xs → Linked H old old_root (map f xs) → EndsWith old old_root (map f xs) (length ys) (tree_hash H (map e ys))
    → end_root old_root (take (i + 1) (map f xs)) ≡ tree_hash H (take (end_size old (take (i + 1) (map f xs))) (map e ys))
    → proof ≡ (f (get_or xs i d)).proof → size ≡ end_size old (take i (map f xs)) → root ≡ end_root old_root (take i (map f xs))
    → FindsAt H (map e (take (f (get_or xs i d)).size ys)) proof size root fork (map e ys)
    → SameOrForks H fork (end_root old_root (take i (map f xs))) (tree_hash H (take (end_size old (take i (map f xs))) (map e ys)))
    (step_inputs H (map e ys) old old_root (map f xs)) (step_inputs H (map e ys) old old_root (map f xs))
fork_at-of f e H xs ys i d old old_root proof size root fork within linked ends root_here proof_is size_is root_is found =
    let step : Step = f (get_or xs i d) in
    let entries : List (List ℕ) = map e ys in
    let before : List Step = take i (map f xs) in
    let after : List Step = drop (i + 1) (map f xs) in
    let parts : map f xs ≡ before ++ step ∷ after = parts_at f xs i d within in
    let linked_here : Linked H old old_root (before ++ step ∷ after) = subst (λ (z : List Step). Linked H old old_root z) parts linked in
    let sizes = sizes_at f H xs i d old old_root (length ys) (tree_hash H entries) within linked ends in
    let more : take (i + 1) (map f xs) ≡ before ++ step ∷ [] = taken_more f xs i d within in
    let step_root : step.root ≡ tree_hash H (take step.size entries) =
    sym (end_root-push old_root before step) ∙ ap (end_root old_root) (sym more) ∙ root_here
    ∙ ap (λ (n : ℕ). tree_hash H (take n entries)) (ap (end_size old) more ∙ end_size-push old before step) in
    let found_1 : FindsAt H (map e (take step.size ys)) step.proof size root fork entries = subst (λ (p : List (List ℕ)). FindsAt H (map e (take step.size ys)) p size root fork entries) proof_is found in
    let found_2 : FindsAt H (map e (take step.size ys)) step.proof (end_size old before) root fork entries = subst (λ (n : ℕ). FindsAt H (map e (take step.size ys)) step.proof n root fork entries) size_is found_1 in
    let found_3 : FindsAt H (map e (take step.size ys)) step.proof (end_size old before) (end_root old_root before) fork entries =
    subst (λ (r : List ℕ). FindsAt H (map e (take step.size ys)) step.proof (end_size old before) r fork entries) root_is found_2 in
    let found_4 : FindsAt H (take step.size entries) step.proof (end_size old before) (end_root old_root before) fork entries =
    subst (λ (p : List (List ℕ)). FindsAt H p step.proof (end_size old before) (end_root old_root before) fork entries) (sym (take-map e step.size ys)) found_3 in
    subst (λ (z : List Step). SameOrForks H fork (end_root old_root before) (tree_hash H (take (end_size old before) entries)) (step_inputs H entries old old_root z) (step_inputs H entries old old_root z))
    (sym parts)
    (fork_at-step H entries before step after old old_root fork (rw (length-map ys e) sizes.1) sizes.0 linked_here step_root found_4)

-- all steps end with the root of the list
pub ends_meet : {X Y : Type 0} (f : X → Step) (e : Y → List ℕ) (H : Digest) (xs : List X) (ys : List Y) (old : ℕ) (old_root : List ℕ)
    → EndsWith old old_root (map f xs) (length ys) (tree_hash H (map e ys))
    → end_root old_root (take (length xs) (map f xs)) ≡ tree_hash H (take (end_size old (take (length xs) (map f xs))) (map e ys))
ends_meet f e H xs ys old old_root ends =
    let whole : take (length xs) (map f xs) ≡ map f xs = take_all (length xs) (map f xs) (omega (arith, length-map xs f)) in
    let size_is : end_size old (map f xs) ≡ length ys = ends_size (map f xs) old old_root (length ys) (tree_hash H (map e ys)) ends in
    let root_is : end_root old_root (map f xs) ≡ tree_hash H (map e ys) = ends_root (map f xs) old old_root (length ys) (tree_hash H (map e ys)) ends in
    let all : take (length ys) (map e ys) ≡ map e ys = take_all (length ys) (map e ys) (omega (arith, length-map ys e)) in
    ap (end_root old_root) whole ∙ root_is ∙ ap (tree_hash H) (sym all)
    ∙ ap (λ (n : ℕ). tree_hash H (take n (map e ys))) (sym (ap (end_size old) whole ∙ size_is))

-- no steps end where they began
pub start_meets : (H : Digest) (entries : List (List ℕ)) (steps : List Step) (count old : ℕ) (old_root : List ℕ) → count ≤ 0
    → end_root old_root (take count steps) ≡ tree_hash H (take (end_size old (take count steps)) entries) → old_root ≡ tree_hash H (take old entries)
start_meets H entries steps count old old_root none is =
    let zero_is : count ≡ 0 = omega (arith, none) in
    root_after-none old_root count steps zero_is ∙ is ∙ ap (λ (n : ℕ). tree_hash H (take n entries)) (sym (size_after-none old count steps zero_is))
