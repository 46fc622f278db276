-- Forks: two nodes over other hashes with one digest, on the way down two trees.
use Rattle.std.proofs.Common.{◌≡◌, ◌≢◌, ℕ, ◌-◌, ◌<◌, ◌≤◌, ◌⊎◌, inl, inr, Bool, true, false, ◌&&◌, eqb, List, [], ◌∷◌, ◌++◌, length, take, drop, reverse, get_or, map, Option, Some, None, option_map, MatchOption, Contains, refl, sym, ap, subst, ◌∙◌, arith}
use Rattle.std.proofs.lemmas.Bool.{cases_Bool, and_parts, eqb-true}
use Rattle.std.proofs.lemmas.List.{take_all, take-take, take-map, drop-map, length-map, length-take-le, length-drop, length-reverse}
use Rattle.tl_hash.specs.Bytes.{Digest}
use Rattle.tl_hash.specs.Split.{IsSplit}
use Rattle.tl_hash.specs.Tree.{tree_hash, inputs, node_input}
use Rattle.tl_hash.proofs.TreeLemmas.{length_first, length_rest, tree_hash-split, tree_hash-prefix}
use Rattle.tl_proof.specs.Acceptance.{roots_from, roots_of_whole, inputs_on_left, inputs_on_right}
use Rattle.tl_proof.specs.Collisions.{fold_inputs_from}
use Rattle.tl_proof.specs.Inner.Forks.{input_of, SameOrForks, fork_of, IsForkOver, IsCheckWalk}
use Rattle.tl_proof.specs.declared.audit.fork.Fork.{Fork}
use Rattle.tl_proof.specs.declared.audit.fork.CheckWalk.{CheckWalk}
use Rattle.tl_hash.proofs.Bytes.{cases_bytes}
use Rattle.tl_proof.proofs.Checks.{reverse_last, lead_roots-left, lead_roots-right}
use Rattle.tl_proof.proofs.Equations.{roots_from-left, roots_from-right}
use Rattle.tl_proof.proofs.Folds.{Some-injective, None-no_Some, fold_inputs_from-left, fold_inputs_from-right, roots_from-same}
use Rattle.tl_hash.proofs.SameSize.{Contains-head, Contains-tail, inputs-root, inputs-first, inputs-rest}

-- a fork stays one among more strings
pub SameOrForks-among : (H : Digest) (fork : Option Fork) (a b c d : List ℕ) (firsts seconds more others : List (List ℕ))
    → (a ≡ b → c ≡ d) → ((x : List ℕ) → Contains firsts x → Contains more x) → ((x : List ℕ) → Contains seconds x → Contains others x)
    → SameOrForks H fork a b firsts seconds → SameOrForks H fork c d more others
SameOrForks-among H None a b c d firsts seconds more others step first second found = step found
SameOrForks-among H (Some fork) a b c d firsts seconds more others step first second found = record {
  first = first (input_of fork.first) found.first;
  second = second (input_of fork.second) found.second;
  differ = found.differ;
  same_digest = found.same_digest;
}

-- two nodes with one hash: they collide, or what was found below them counts
pub forks_over : (H : Digest) (fork : Fork) (below result : Option Fork) (a b : List ℕ) (firsts seconds : List (List ℕ))
    → IsForkOver fork below result → Contains firsts (input_of fork.first) → Contains seconds (input_of fork.second)
    → H (input_of fork.first) ≡ H (input_of fork.second)
    → ((fork.first.left ≡ fork.second.left) × (fork.first.right ≡ fork.second.right) → SameOrForks H below a b firsts seconds)
    → SameOrForks H result a b firsts seconds
forks_over H fork below result a b firsts seconds over first second digest met =
    let P : Option Fork → Type 0 = λ o. SameOrForks H o a b firsts seconds in
    elim (cases_bytes (input_of fork.first) (input_of fork.second)) as (λ _. SameOrForks H result a b firsts seconds) [
      | inl equal ↦ subst P (sym (over.same equal)) (met (over.hashes equal))
      | inr apart ↦ subst P (sym (over.differ apart)) (record { first = first; second = second; differ = apart; same_digest = digest })
    ]

-- the walk goes on from the left part
pub check_walk-left : (H : Digest) (k old : ℕ) (known : Bool) (last : List ℕ) (others : List (List ℕ)) (root : List ℕ) (entries : List (List ℕ)) (beside : List ℕ) (below walk : CheckWalk)
    → IsSplit k (length entries) → old ≤ k → IsCheckWalk H old known others root (take k entries) below → beside ≡ tree_hash H (drop k entries)
    → walk.old ≡ below.old → walk.new ≡ H (node_input below.new last) → walk.list ≡ H (node_input below.list beside)
    → IsForkOver (fork_of below.new last below.list beside) below.fork walk.fork
    → IsCheckWalk H old known (last ∷ others) root entries walk
check_walk-left H k old known last others root entries beside below walk s less under beside_is old_is new_is list_is over =
    let len : length (take k entries) ≡ k = length_first k entries s in
    let leads : roots_from H old k known others root ≡ Some (below.old, below.new) =
    subst (λ (m : ℕ). roots_from H old m known others root ≡ Some (below.old, below.new)) len under.leads in
    let strings : List (List ℕ) = fold_inputs_from H old (length entries) known (last ∷ others) root in
    let rest : List (List ℕ) = fold_inputs_from H old k known others root in
    let fold : strings ≡ node_input below.new last ∷ rest =
    fold_inputs_from-left H k old (length entries) known last others root s less ∙ ap (λ o. inputs_on_left o last ++ rest) leads in
    let first : Contains strings (node_input below.new last) = rw fold (Contains-head (node_input below.new last) rest) in
    let second : Contains (inputs H entries) (node_input below.list beside) = rw (under.list, beside_is) (inputs-root H k entries s) in
    record {
      leads = roots_from-left H k old (length entries) known last others root s less
          ∙ ap (option_map (λ (r : List ℕ × List ℕ). (r.0, H (node_input r.1 last)))) leads ∙ (λ i. Some (sym old_is i, sym new_is i));
      list = list_is ∙ (λ i. H (node_input (under.list i) (beside_is i))) ∙ sym (tree_hash-split H k entries s);
      meets = λ same.
          forks_over H (fork_of below.new last below.list beside) below.fork walk.fork walk.old (tree_hash H (take old entries)) strings (inputs H entries)
          over first second (sym new_is ∙ same ∙ list_is)
          (λ parts. SameOrForks-among H below.fork below.old (tree_hash H (take old (take k entries))) walk.old (tree_hash H (take old entries))
          (fold_inputs_from H old (length (take k entries)) known others root) (inputs H (take k entries)) strings (inputs H entries)
          (λ e. old_is ∙ e ∙ ap (tree_hash H) (take-take old k entries less))
          (λ x here. rw fold (Contains-tail (node_input below.new last) x rest (subst (λ (m : ℕ). Contains (fold_inputs_from H old m known others root) x) len here)))
          (inputs-first H k entries s)
          (under.meets parts.0));
    }

-- the walk goes on from the right part
pub check_walk-right : (H : Digest) (k old : ℕ) (known : Bool) (last : List ℕ) (others : List (List ℕ)) (root : List ℕ) (entries : List (List ℕ)) (beside : List ℕ) (below walk : CheckWalk)
    → IsSplit k (length entries) → k < old → old < length entries → IsCheckWalk H (old - k) false others root (drop k entries) below → beside ≡ tree_hash H (take k entries)
    → walk.old ≡ H (node_input last below.old) → walk.new ≡ H (node_input last below.new) → walk.list ≡ H (node_input beside below.list)
    → IsForkOver (fork_of last below.new beside below.list) below.fork walk.fork
    → IsCheckWalk H old known (last ∷ others) root entries walk
check_walk-right H k old known last others root entries beside below walk s more less under beside_is old_is new_is list_is over =
    let len : length (drop k entries) ≡ length entries - k = length_rest k entries in
    let leads : roots_from H (old - k) (length entries - k) false others root ≡ Some (below.old, below.new) =
    subst (λ (m : ℕ). roots_from H (old - k) m false others root ≡ Some (below.old, below.new)) len under.leads in
    let strings : List (List ℕ) = fold_inputs_from H old (length entries) known (last ∷ others) root in
    let rest : List (List ℕ) = fold_inputs_from H (old - k) (length entries - k) false others root in
    let fold : strings ≡ node_input last below.old ∷ node_input last below.new ∷ rest =
    fold_inputs_from-right H k old (length entries) known last others root s more less ∙ ap (λ o. inputs_on_right o last ++ rest) leads in
    let first : Contains strings (node_input last below.new) =
    rw fold (Contains-tail (node_input last below.old) (node_input last below.new) (node_input last below.new ∷ rest) (Contains-head (node_input last below.new) rest)) in
    let second : Contains (inputs H entries) (node_input beside below.list) = rw (under.list, beside_is) (inputs-root H k entries s) in
    record {
      leads = roots_from-right H k old (length entries) known last others root s more less
          ∙ ap (option_map (λ (r : List ℕ × List ℕ). (H (node_input last r.0), H (node_input last r.1)))) leads ∙ (λ i. Some (sym old_is i, sym new_is i));
      list = list_is ∙ (λ i. H (node_input (beside_is i) (under.list i))) ∙ sym (tree_hash-split H k entries s);
      meets = λ same.
          forks_over H (fork_of last below.new beside below.list) below.fork walk.fork walk.old (tree_hash H (take old entries)) strings (inputs H entries)
          over first second (sym new_is ∙ same ∙ list_is)
          (λ parts. SameOrForks-among H below.fork below.old (tree_hash H (take (old - k) (drop k entries))) walk.old (tree_hash H (take old entries))
          (fold_inputs_from H (old - k) (length (drop k entries)) false others root) (inputs H (drop k entries)) strings (inputs H entries)
          (λ e. old_is ∙ (λ i. H (node_input ((parts.0 ∙ beside_is) i) (e i))) ∙ sym (tree_hash-prefix H k old entries s more (omega (arith, less))))
          (λ x here. rw fold (Contains-tail (node_input last below.old) x (node_input last below.new ∷ rest) (Contains-tail (node_input last below.new) x rest
          (subst (λ (m : ℕ). Contains (fold_inputs_from H (old - k) m false others root) x) len here))))
          (inputs-rest H k entries s)
          (under.meets parts.1));
    }

-- if no hash is left, or all entries are old, the two roots are one
one_root-none : (H : Digest) (old new : ℕ) (known : Bool) (root : List ℕ) (a b : List ℕ) → roots_from H old new known [] root ≡ Some (a, b) → (a ≡ b) × (old ≡ new)
unfolding roots_from
one_root-none H old new known root a b leads =
    elim (cases_Bool (eqb old new && known)) as (λ _. (a ≡ b) × (old ≡ new)) [
      | inl e ↦
          let pair : Some (root, root) ≡ Some (a, b) = rw e at leads in
          let p = Some-injective (root, root) (a, b) pair in
          (sym (ap (λ (q : List ℕ × List ℕ). q.0) p) ∙ ap (λ (q : List ℕ × List ℕ). q.1) p, eqb-true old new (and_parts (eqb old new) known e).0)
      | inr e ↦ absurd (None-no_Some None (a, b) refl (rw e at leads))
    ]

one_root-same : (known : Bool) (last : List ℕ) (others : List (List ℕ)) (a b : List ℕ) → roots_of_whole known (last ∷ others) ≡ Some (a, b) → a ≡ b
one_root-same true last [] a b leads = absurd (cc)
one_root-same false last [] a b leads =
    let p = Some-injective (last, last) (a, b) leads in sym (ap (λ (q : List ℕ × List ℕ). q.0) p) ∙ ap (λ (q : List ℕ × List ℕ). q.1) p
one_root-same known last (other ∷ others) a b leads = absurd (cc)

one_root : (H : Digest) (old new : ℕ) (known : Bool) (proof : List (List ℕ)) (root : List ℕ) (a b : List ℕ)
    → (length proof ≡ 0) ⊎ (old ≡ new) → roots_from H old new known proof root ≡ Some (a, b) → (a ≡ b) × (old ≡ new)
one_root H old new known [] root a b reason leads = one_root-none H old new known root a b leads
one_root H old new known (last ∷ others) root a b (inl none) leads = absurd (omega (arith, none))
one_root H old new known (last ∷ others) root a b (inr same) leads =
    (one_root-same known last others a b (sym (roots_from-same H old new known last others root same) ∙ leads), same)

-- the walk over the whole of a list
pub check_walk-whole : (H : Digest) (old : ℕ) (known : Bool) (proof : List (List ℕ)) (root : List ℕ) (entries : List (List ℕ)) (walk : CheckWalk)
    → (length proof ≡ 0) ⊎ (old ≡ length entries) → roots_from H old (length entries) known proof root ≡ Some (walk.old, walk.new) → walk.list ≡ tree_hash H entries → walk.fork ≡ None
    → IsCheckWalk H old known proof root entries walk
check_walk-whole H old known proof root entries walk reason leads list none =
    let one = one_root H old (length entries) known proof root walk.old walk.new reason leads in
    record {
      leads = leads;
      list = list;
      meets = λ same. rw none (one.0 ∙ same ∙ list ∙ ap (tree_hash H) (sym (take_all old entries (omega (arith, one.1)))));
    }

-- the same of the parts of a list of values that have entries, and of a proof in its own order
pub check_walk-first : {X : Type 0} (f : X → List ℕ) (H : Digest) (k old : ℕ) (known : Bool) (proof : List (List ℕ)) (last root : List ℕ) (xs : List X) (beside : List ℕ) (below walk : CheckWalk)
    → length proof ≢ 0 → last ≡ get_or proof (length proof - 1) last → IsSplit k (length xs) → old ≤ k
    → IsCheckWalk H old known (reverse (take (length proof - 1) proof)) root (map f (take k xs)) below → beside ≡ tree_hash H (map f (drop k xs))
    → walk.old ≡ below.old → walk.new ≡ H (node_input below.new last) → walk.list ≡ H (node_input below.list beside)
    → IsForkOver (fork_of below.new last below.list beside) below.fork walk.fork
    → IsCheckWalk H old known (reverse proof) root (map f xs) walk
check_walk-first f H k old known proof last root xs beside below walk some is s less under beside_is old_is new_is list_is over =
    let others : List (List ℕ) = reverse (take (length proof - 1) proof) in
    let whole : reverse proof ≡ last ∷ others = reverse_last proof last some is in
    let s_map : IsSplit k (length (map f xs)) = rw (length-map xs f) s in
    let part : IsCheckWalk H old known others root (take k (map f xs)) below = rw (take-map f k xs) under in
    let rest : beside ≡ tree_hash H (drop k (map f xs)) = rw (drop-map f k xs) beside_is in
    subst (λ (p : List (List ℕ)). IsCheckWalk H old known p root (map f xs) walk) (sym whole)
    (check_walk-left H k old known last others root (map f xs) beside below walk s_map less part rest old_is new_is list_is over)

pub check_walk-rest : {X : Type 0} (f : X → List ℕ) (H : Digest) (k old : ℕ) (known : Bool) (proof : List (List ℕ)) (last root : List ℕ) (xs : List X) (beside : List ℕ) (below walk : CheckWalk)
    → length proof ≢ 0 → last ≡ get_or proof (length proof - 1) last → IsSplit k (length xs) → k < old → old ≤ length xs → old ≢ length xs
    → IsCheckWalk H (old - k) false (reverse (take (length proof - 1) proof)) root (map f (drop k xs)) below → beside ≡ tree_hash H (map f (take k xs))
    → walk.old ≡ H (node_input last below.old) → walk.new ≡ H (node_input last below.new) → walk.list ≡ H (node_input beside below.list)
    → IsForkOver (fork_of last below.new beside below.list) below.fork walk.fork
    → IsCheckWalk H old known (reverse proof) root (map f xs) walk
check_walk-rest f H k old known proof last root xs beside below walk some is s more most differ under beside_is old_is new_is list_is over =
    let others : List (List ℕ) = reverse (take (length proof - 1) proof) in
    let whole : reverse proof ≡ last ∷ others = reverse_last proof last some is in
    let s_map : IsSplit k (length (map f xs)) = rw (length-map xs f) s in
    let less : old < length (map f xs) = rw (length-map xs f) (omega (arith, most, differ)) in
    let part : IsCheckWalk H (old - k) false others root (drop k (map f xs)) below = rw (drop-map f k xs) under in
    let rest : beside ≡ tree_hash H (take k (map f xs)) = rw (take-map f k xs) beside_is in
    subst (λ (p : List (List ℕ)). IsCheckWalk H old known p root (map f xs) walk) (sym whole)
    (check_walk-right H k old known last others root (map f xs) beside below walk s_map more less part rest old_is new_is list_is over)

-- the walk that a check leads to, if it leads to one
walk_of-roots : (H : Digest) (old : ℕ) (known : Bool) (proof : List (List ℕ)) (root : List ℕ) (entries : List (List ℕ)) (list : List ℕ) (found : Option CheckWalk) (roots : Option (List ℕ × List ℕ))
    → (length proof ≡ 0) ⊎ (old ≡ length entries) → list ≡ tree_hash H entries → roots ≡ roots_from H old (length entries) known proof root
    → found ≡ option_map (λ r. record { old = r.0; new = r.1; list = list; fork = None }) roots
    → MatchOption found (roots_from H old (length entries) known proof root ≡ None) (λ walk. IsCheckWalk H old known proof root entries walk)
walk_of-roots H old known proof root entries list found None reason list_is roots_is found_is = rw found_is (sym roots_is)
walk_of-roots H old known proof root entries list found (Some r) reason list_is roots_is found_is =
    rw found_is (check_walk-whole H old known proof root entries (record { old = r.0; new = r.1; list = list; fork = None }) reason (sym roots_is) list_is refl)

whole_reason : {X : Type 0} (f : X → List ℕ) (old : ℕ) (proof : List (List ℕ)) (xs : List X) → (length proof ≡ 0) ⊎ (old ≡ length xs) → (length (reverse proof) ≡ 0) ⊎ (old ≡ length (map f xs))
whole_reason f old proof xs (inl none) = inl (length-reverse proof ∙ none)
whole_reason f old proof xs (inr same) = inr (same ∙ sym (length-map xs f))

pub check_walk-of : {X : Type 0} (f : X → List ℕ) (H : Digest) (old : ℕ) (known : Bool) (proof : List (List ℕ)) (root : List ℕ) (xs : List X) (list : List ℕ) (found : Option CheckWalk) (roots : Option (List ℕ × List ℕ))
    → (length proof ≡ 0) ⊎ (old ≡ length xs) → list ≡ tree_hash H (map f xs) → roots ≡ roots_from H old (length xs) known (reverse proof) root
    → found ≡ option_map (λ r. record { old = r.0; new = r.1; list = list; fork = None }) roots
    → MatchOption found (roots_from H old (length (map f xs)) known (reverse proof) root ≡ None) (λ walk. IsCheckWalk H old known (reverse proof) root (map f xs) walk)
check_walk-of f H old known proof root xs list found roots reason list_is roots_is found_is =
    walk_of-roots H old known (reverse proof) root (map f xs) list found roots (whole_reason f old proof xs reason) list_is
    (roots_is ∙ ap (λ (m : ℕ). roots_from H old m known (reverse proof) root) (sym (length-map xs f))) found_is

-- if the check leads nowhere below, it leads nowhere
pub leads_nowhere-first : {X : Type 0} (f : X → List ℕ) (H : Digest) (k old : ℕ) (known : Bool) (proof : List (List ℕ)) (last root : List ℕ) (xs : List X)
    → length proof ≢ 0 → last ≡ get_or proof (length proof - 1) last → IsSplit k (length xs) → old ≤ k
    → roots_from H old (length (map f (take k xs))) known (reverse (take (length proof - 1) proof)) root ≡ None
    → roots_from H old (length (map f xs)) known (reverse proof) root ≡ None
leads_nowhere-first f H k old known proof last root xs some is s less none =
    let step = lead_roots-left H k old (length xs) known proof last root some is s less in
    let len : length (map f (take k xs)) ≡ k = length-map (take k xs) f ∙ length-take-le k xs (omega (arith, s.below)) in
    let none_k : roots_from H old k known (reverse (take (length proof - 1) proof)) root ≡ None =
    subst (λ (m : ℕ). roots_from H old m known (reverse (take (length proof - 1) proof)) root ≡ None) len none in
    rw (length-map xs f) (step ∙ ap (option_map (λ (r : List ℕ × List ℕ). (r.0, H (node_input r.1 last)))) none_k)

pub leads_nowhere-rest : {X : Type 0} (f : X → List ℕ) (H : Digest) (k old : ℕ) (known : Bool) (proof : List (List ℕ)) (last root : List ℕ) (xs : List X)
    → length proof ≢ 0 → last ≡ get_or proof (length proof - 1) last → IsSplit k (length xs) → k < old → old ≤ length xs → old ≢ length xs
    → roots_from H (old - k) (length (map f (drop k xs))) false (reverse (take (length proof - 1) proof)) root ≡ None
    → roots_from H old (length (map f xs)) known (reverse proof) root ≡ None
leads_nowhere-rest f H k old known proof last root xs some is s more most differ none =
    let step = lead_roots-right H k old (length xs) known proof last root some is s more (omega (arith, most, differ)) in
    let len : length (map f (drop k xs)) ≡ length xs - k = length-map (drop k xs) f ∙ length-drop k xs in
    let none_k : roots_from H (old - k) (length xs - k) false (reverse (take (length proof - 1) proof)) root ≡ None =
    subst (λ (m : ℕ). roots_from H (old - k) m false (reverse (take (length proof - 1) proof)) root ≡ None) len none in
    rw (length-map xs f) (step ∙ ap (option_map (λ (r : List ℕ × List ℕ). (H (node_input last r.0), H (node_input last r.1)))) none_k)
