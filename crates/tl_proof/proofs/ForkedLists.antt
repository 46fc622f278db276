-- Two lists of one length with one root that differ at a place: two nodes on the way there, or the leaves.
use Rattle.std.proofs.Common.{◌≡◌, ◌≢◌, ℕ, ◌+◌, ◌-◌, ◌<◌, ◌≤◌, List, [], ◌∷◌, ◌++◌, length, map, take, drop, get_or, None, Contains, sym, ap, ◌∙◌, arith}
use Rattle.std.proofs.lemmas.List.{take_all, take_more, map-append, take-map, drop-map, length-map, get_or-take, get_or-drop, get_or-map}
use Rattle.tl_hash.specs.Bytes.{Digest}
use Rattle.tl_hash.specs.Split.{IsSplit}
use Rattle.tl_hash.specs.Tree.{tree_hash, inputs, node_input, leaf_input}
use Rattle.tl_hash.proofs.TreeLemmas.{tree_hash-split, tree_hash-map_one}
use Rattle.tl_proof.specs.Collisions.{IsPrefix}
use Rattle.tl_proof.specs.Inner.Forks.{fork_of, IsForkOver, IsListsWalk, entry_at, DifferAt}
use Rattle.tl_proof.specs.declared.audit.fork.Walk.{Walk}
use Rattle.tl_proof.proofs.Forks.{SameOrForks-among, forks_over}
use Rattle.tl_hash.proofs.SameSize.{inputs-root, inputs-first, inputs-rest}

-- the walk goes on from the first parts
lists_walk-first : (H : Digest) (k place : ℕ) (old new : List (List ℕ)) (beside others : List ℕ) (below walk : Walk)
    → IsSplit k (length old) → IsSplit k (length new) → place < k → IsListsWalk H place (take k old) (take k new) below
    → beside ≡ tree_hash H (drop k old) → others ≡ tree_hash H (drop k new)
    → walk.first ≡ H (node_input below.first beside) → walk.second ≡ H (node_input below.second others)
    → IsForkOver (fork_of below.first beside below.second others) below.fork walk.fork
    → IsListsWalk H place old new walk
lists_walk-first H k place old new beside others below walk s t less under beside_is others_is old_is new_is over =
    let first : Contains (inputs H old) (node_input below.first beside) = rw (under.old_root, beside_is) (inputs-root H k old s) in
    let second : Contains (inputs H new) (node_input below.second others) = rw (under.new_root, others_is) (inputs-root H k new t) in
    let in_old : entry_at (take k old) place ≡ entry_at old place = get_or-take k old place [] less in
    let in_new : entry_at (take k new) place ≡ entry_at new place = get_or-take k new place [] less in
    record {
      old_root = old_is ∙ (λ i. H (node_input (under.old_root i) (beside_is i))) ∙ sym (tree_hash-split H k old s);
      new_root = new_is ∙ (λ i. H (node_input (under.new_root i) (others_is i))) ∙ sym (tree_hash-split H k new t);
      meets = λ same.
          forks_over H (fork_of below.first beside below.second others) below.fork walk.fork (H (leaf_input (entry_at old place))) (H (leaf_input (entry_at new place))) (inputs H old) (inputs H new)
          over first second (sym old_is ∙ same ∙ new_is)
          (λ parts. SameOrForks-among H below.fork (H (leaf_input (entry_at (take k old) place))) (H (leaf_input (entry_at (take k new) place)))
          (H (leaf_input (entry_at old place))) (H (leaf_input (entry_at new place))) (inputs H (take k old)) (inputs H (take k new)) (inputs H old) (inputs H new)
          (λ e. ap (λ (z : List ℕ). H (leaf_input z)) (sym in_old) ∙ e ∙ ap (λ (z : List ℕ). H (leaf_input z)) in_new)
          (inputs-first H k old s) (inputs-first H k new t) (under.meets parts.0));
    }

pub entry_at-rest : (k place : ℕ) (entries : List (List ℕ)) → k ≤ place → entry_at (drop k entries) (place - k) ≡ entry_at entries place
entry_at-rest k place entries more =
    let sum : k + (place - k) ≡ place = omega (arith, more) in
    get_or-drop k entries (place - k) [] ∙ ap (λ (i : ℕ). entry_at entries i) sum

-- the walk goes on from the rests
lists_walk-rest : (H : Digest) (k place : ℕ) (old new : List (List ℕ)) (beside others : List ℕ) (below walk : Walk)
    → IsSplit k (length old) → IsSplit k (length new) → k ≤ place → IsListsWalk H (place - k) (drop k old) (drop k new) below
    → beside ≡ tree_hash H (take k old) → others ≡ tree_hash H (take k new)
    → walk.first ≡ H (node_input beside below.first) → walk.second ≡ H (node_input others below.second)
    → IsForkOver (fork_of beside below.first others below.second) below.fork walk.fork
    → IsListsWalk H place old new walk
lists_walk-rest H k place old new beside others below walk s t more under beside_is others_is old_is new_is over =
    let first : Contains (inputs H old) (node_input beside below.first) = rw (under.old_root, beside_is) (inputs-root H k old s) in
    let second : Contains (inputs H new) (node_input others below.second) = rw (under.new_root, others_is) (inputs-root H k new t) in
    let in_old : entry_at (drop k old) (place - k) ≡ entry_at old place = entry_at-rest k place old more in
    let in_new : entry_at (drop k new) (place - k) ≡ entry_at new place = entry_at-rest k place new more in
    record {
      old_root = old_is ∙ (λ i. H (node_input (beside_is i) (under.old_root i))) ∙ sym (tree_hash-split H k old s);
      new_root = new_is ∙ (λ i. H (node_input (others_is i) (under.new_root i))) ∙ sym (tree_hash-split H k new t);
      meets = λ same.
          forks_over H (fork_of beside below.first others below.second) below.fork walk.fork (H (leaf_input (entry_at old place))) (H (leaf_input (entry_at new place))) (inputs H old) (inputs H new)
          over first second (sym old_is ∙ same ∙ new_is)
          (λ parts. SameOrForks-among H below.fork (H (leaf_input (entry_at (drop k old) (place - k)))) (H (leaf_input (entry_at (drop k new) (place - k))))
          (H (leaf_input (entry_at old place))) (H (leaf_input (entry_at new place))) (inputs H (drop k old)) (inputs H (drop k new)) (inputs H old) (inputs H new)
          (λ e. ap (λ (z : List ℕ). H (leaf_input z)) (sym in_old) ∙ e ∙ ap (λ (z : List ℕ). H (leaf_input z)) in_new)
          (inputs-rest H k old s) (inputs-rest H k new t) (under.meets parts.1));
    }

-- the same of lists of values that have entries
pub lists_walk-firsts : {X : Type 0} (f : X → List ℕ) (H : Digest) (k place : ℕ) (old new : List X) (beside others : List ℕ) (below walk : Walk)
    → IsSplit k (length old) → length old ≡ length new → place < k → IsListsWalk H place (map f (take k old)) (map f (take k new)) below
    → beside ≡ tree_hash H (map f (drop k old)) → others ≡ tree_hash H (map f (drop k new))
    → walk.first ≡ H (node_input below.first beside) → walk.second ≡ H (node_input below.second others)
    → IsForkOver (fork_of below.first beside below.second others) below.fork walk.fork
    → IsListsWalk H place (map f old) (map f new) walk
lists_walk-firsts f H k place old new beside others below walk s len less under beside_is others_is old_is new_is over =
    let in_old : IsSplit k (length (map f old)) = rw (length-map old f) s in
    let in_new : IsSplit k (length (map f new)) = rw (length-map new f, ← len) s in
    let part : IsListsWalk H place (take k (map f old)) (take k (map f new)) below = rw (take-map f k old, take-map f k new) under in
    let old_rest : beside ≡ tree_hash H (drop k (map f old)) = rw (drop-map f k old) beside_is in
    let new_rest : others ≡ tree_hash H (drop k (map f new)) = rw (drop-map f k new) others_is in
    lists_walk-first H k place (map f old) (map f new) beside others below walk in_old in_new less part old_rest new_rest old_is new_is over

pub lists_walk-rests : {X : Type 0} (f : X → List ℕ) (H : Digest) (k place : ℕ) (old new : List X) (beside others : List ℕ) (below walk : Walk)
    → IsSplit k (length old) → length old ≡ length new → k ≤ place → IsListsWalk H (place - k) (map f (drop k old)) (map f (drop k new)) below
    → beside ≡ tree_hash H (map f (take k old)) → others ≡ tree_hash H (map f (take k new))
    → walk.first ≡ H (node_input beside below.first) → walk.second ≡ H (node_input others below.second)
    → IsForkOver (fork_of beside below.first others below.second) below.fork walk.fork
    → IsListsWalk H place (map f old) (map f new) walk
lists_walk-rests f H k place old new beside others below walk s len more under beside_is others_is old_is new_is over =
    let in_old : IsSplit k (length (map f old)) = rw (length-map old f) s in
    let in_new : IsSplit k (length (map f new)) = rw (length-map new f, ← len) s in
    let part : IsListsWalk H (place - k) (drop k (map f old)) (drop k (map f new)) below = rw (drop-map f k old, drop-map f k new) under in
    let old_first : beside ≡ tree_hash H (take k (map f old)) = rw (take-map f k old) beside_is in
    let new_first : others ≡ tree_hash H (take k (map f new)) = rw (take-map f k new) others_is in
    lists_walk-rest H k place (map f old) (map f new) beside others below walk in_old in_new more part old_first new_first old_is new_is over

-- the one entry of a list
entry_at-one : {X : Type 0} (f : X → List ℕ) (xs : List X) (x : X) (place : ℕ) → length xs ≡ 1 → place < length xs → x ≡ get_or xs 0 x → entry_at (map f xs) place ≡ f x
entry_at-one f xs x place one within is =
    let first : place ≡ 0 = omega (arith, one, within) in
    ap (λ (i : ℕ). entry_at (map f xs) i) first ∙ get_or-map f xs 0 x [] (omega (arith, one)) ∙ ap f (sym is)

-- the walk at two leaves
pub lists_walk-one : {X : Type 0} (f : X → List ℕ) (H : Digest) (place : ℕ) (old new : List X) (x y : X) (walk : Walk)
    → length old ≡ 1 → length old ≡ length new → place < length old → x ≡ get_or old 0 x → y ≡ get_or new 0 y
    → walk.first ≡ H (leaf_input (f x)) → walk.second ≡ H (leaf_input (f y)) → walk.fork ≡ None
    → IsListsWalk H place (map f old) (map f new) walk
lists_walk-one f H place old new x y walk one len within at_old at_new old_is new_is none =
    let other : length new ≡ 1 = omega (arith, one, len) in
    let in_old : entry_at (map f old) place ≡ f x = entry_at-one f old x place one within at_old in
    let in_new : entry_at (map f new) place ≡ f y = entry_at-one f new y place other (omega (arith, within, len)) at_new in
    record {
      old_root = old_is ∙ sym (tree_hash-map_one f H old x one at_old);
      new_root = new_is ∙ sym (tree_hash-map_one f H new y other at_new);
      meets = λ same. rw none (ap (λ (z : List ℕ). H (leaf_input z)) in_old ∙ sym old_is ∙ same ∙ new_is ∙ ap (λ (z : List ℕ). H (leaf_input z)) (sym in_new));
    }

-- lists that are the same as far as the old one goes, and lists that differ at a place
pub IsPrefix-all : {X : Type 0} (f : X → List ℕ) (old new : List X) (n : ℕ) → length old ≤ n → n ≤ length old → map f (take n old) ≡ map f (take n new) → IsPrefix (map f old) (map f new)
IsPrefix-all f old new n least most same =
    let len : length (map f old) ≡ n = length-map old f ∙ (omega (arith, least, most)) in
    let whole : map f (take n old) ≡ map f old = ap (map f) (take_all n old least) in
    sym whole ∙ same ∙ sym (take-map f n new) ∙ ap (λ (m : ℕ). take m (map f new)) (sym len)

-- one entry more is the same
pub same-more : {X : Type 0} (f : X → List ℕ) (old new : List X) (i : ℕ) (x y : X) → i < length old → length old ≤ length new → x ≡ get_or old i x → y ≡ get_or new i y
    → f x ≡ f y → map f (take i old) ≡ map f (take i new) → map f (take (i + 1) old) ≡ map f (take (i + 1) new)
same-more f old new i x y within most at_old at_new same so_far =
    let more_old : take (i + 1) old ≡ take i old ++ x ∷ [] = take_more old i x within ∙ ap (λ v. take i old ++ v ∷ []) (sym at_old) in
    let more_new : take (i + 1) new ≡ take i new ++ y ∷ [] = take_more new i y (omega (arith, within, most)) ∙ ap (λ v. take i new ++ v ∷ []) (sym at_new) in
    ap (map f) more_old ∙ map-append f (take i old) (x ∷ []) ∙ (λ k. so_far k ++ same k ∷ [])
    ∙ sym (map-append f (take i new) (y ∷ [])) ∙ ap (map f) (sym more_new)

pub DifferAt-place : {X : Type 0} (f : X → List ℕ) (old new : List X) (i : ℕ) (x y : X) → i < length old → length old ≤ length new → x ≡ get_or old i x → y ≡ get_or new i y
    → f x ≢ f y → DifferAt (map f old) (map f new) i
DifferAt-place f old new i x y within most at_old at_new differ =
    let in_old : entry_at (map f old) i ≡ f x = get_or-map f old i x [] within ∙ ap f (sym at_old) in
    let in_new : entry_at (map f new) i ≡ f y = get_or-map f new i y [] (omega (arith, within, most)) ∙ ap f (sym at_new) in
    (omega (arith, within, length-map old f), λ e. differ (sym in_old ∙ e ∙ in_new))

pub DifferAt-no_prefix : (old new : List (List ℕ)) (place : ℕ) → DifferAt old new place → IsPrefix old new → ⊥
DifferAt-no_prefix old new place differ prefix =
    differ.1 (ap (λ (z : List (List ℕ)). entry_at z place) prefix ∙ get_or-take (length old) new place [] differ.0)

-- the entry of the value at a place
pub entry_at-value : {X : Type 0} (f : X → List ℕ) (xs : List X) (i : ℕ) (x : X) (a : List ℕ) → i < length (map f xs) → x ≡ get_or xs i x → a ≡ f x → a ≡ entry_at (map f xs) i
entry_at-value f xs i x a within is a_is =
    a_is ∙ ap f is ∙ sym (get_or-map f xs i x [] (omega (arith, within, length-map xs f)))
