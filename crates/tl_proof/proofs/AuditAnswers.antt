-- What an audit answers: accepted steps, and the strings that collide.
use Rattle.std.proofs.Common.{◌≡◌, ℕ, ◌-◌, ◌<◌, ◌≤◌, ◌↔◌, inl, inr, List, [], ◌∷◌, ◌++◌, length, take, drop, Option, Some, None, Result, Ok, Err, Contains, refl, sym, ap, subst, ◌∙◌, arith}
use Rattle.std.proofs.lemmas.Bool.{cases_lt}
use Rattle.std.proofs.lemmas.List.{get_or-take, length-take-le, take_all}
use Rattle.std.proofs.lemmas.List.Elements.{Contains-append_left, Contains-append_right}
use Rattle.tl_hash.specs.Bytes.{Digest}
use Rattle.tl_hash.specs.Split.{IsSplit}
use Rattle.tl_hash.specs.Tree.{tree_hash, inputs, leaf_input}
use Rattle.tl_hash.proofs.TreeLemmas.{split_induction, length_first, length_rest}
use Rattle.tl_hash.specs.Collision.{Collides}
use Rattle.tl_proof.specs.Acceptance.{AcceptsConsistency, Step, Linked, EndsWith}
use Rattle.tl_proof.specs.Collisions.{fold_inputs, step_inputs, audit_inputs}
use Rattle.tl_proof.specs.Inner.Forks.{input_of, SameOrForks, entry_at, DifferAt, LinksFork, ForksAt, ShowsFork, IsListsWalk}
use Rattle.tl_proof.specs.Audit.{AreAccepted, Audits}
use Rattle.tl_proof.specs.declared.audit.fork.Fork.{Fork}
use Rattle.tl_proof.specs.declared.audit.fork.Walk.{Walk}
use Rattle.tl_proof.specs.declared.verdict.Verdict.{Verdict}
use Rattle.tl_proof.specs.declared.verdict.Verdict.TheVariants.{Extends, Collision}
use Rattle.tl_proof.specs.declared.verdict.AuditFault.{AuditFault}
use Rattle.tl_proof.specs.declared.verdict.AuditFault.TheVariants.{NotAccepted, OutOfMemory}
use Rattle.tl_proof.proofs.Chains.{linked_most}
use Rattle.tl_proof.proofs.Forks.{SameOrForks-among}
use Rattle.tl_proof.proofs.ForkedLists.{DifferAt-no_prefix, entry_at-rest}
use Rattle.tl_hash.proofs.SameSize.{inputs-one, inputs-first, inputs-rest}

-- the byte string of each leaf is hashed for the root
abbrev LeafAt : (List ℕ → List ℕ) → List (List ℕ) → Type 0
LeafAt H entries = (place : ℕ) → place < length entries → Contains (inputs H entries) (leaf_input (entry_at entries place))

leaf_at-none : (H : Digest) → LeafAt H []
leaf_at-none H place within = absurd (omega (arith, within))

leaf_at-one : (H : Digest) (entry : List ℕ) → LeafAt H (entry ∷ [])
leaf_at-one H entry place within =
    let first : place ≡ 0 = omega (arith, within) in
    subst (λ (i : ℕ). Contains (inputs H (entry ∷ [])) (leaf_input (entry_at (entry ∷ []) i))) (sym first) (inputs-one H entry)

leaf_at-split : (H : Digest) (k : ℕ) (entries : List (List ℕ)) → IsSplit k (length entries) → LeafAt H (take k entries) → LeafAt H (drop k entries) → LeafAt H entries
leaf_at-split H k entries s first rest place within =
    elim (cases_lt place k) as (λ _. Contains (inputs H entries) (leaf_input (entry_at entries place))) [
      | inl less ↦
          inputs-first H k entries s (leaf_input (entry_at entries place))
          (subst (λ (z : List ℕ). Contains (inputs H (take k entries)) (leaf_input z)) (get_or-take k entries place [] less) (first place (omega (arith, less, length_first k entries s))))
      | inr more ↦
          inputs-rest H k entries s (leaf_input (entry_at entries place))
          (subst (λ (z : List ℕ). Contains (inputs H (drop k entries)) (leaf_input z)) (entry_at-rest k place entries more)
          (rest (place - k) (omega (arith, more, within, length_rest k entries, s.below))))
    ]

pub inputs-leaf : (H : Digest) (entries : List (List ℕ)) (place : ℕ) → place < length entries → Contains (inputs H entries) (leaf_input (entry_at entries place))
inputs-leaf H entries = split_induction (LeafAt H) (leaf_at-none H) (leaf_at-one H) (leaf_at-split H) entries

-- what is hashed for the old list, for the new one's prefix and for the steps is hashed for the audit
audit_inputs-old : (H : Digest) (old new : List (List ℕ)) (steps : List Step) (x : List ℕ) → Contains (inputs H old) x → Contains (audit_inputs H old new steps) x
unfolding audit_inputs
audit_inputs-old H old new steps x here =
    let part : List (List ℕ) = take (length old) new in
    Contains-append_left (inputs H old ++ inputs H new ++ inputs H part) (step_inputs H new (length old) (tree_hash H old) steps) x
    (Contains-append_left (inputs H old ++ inputs H new) (inputs H part) x (Contains-append_left (inputs H old) (inputs H new) x here))

audit_inputs-part : (H : Digest) (old new : List (List ℕ)) (steps : List Step) (x : List ℕ) → Contains (inputs H (take (length old) new)) x → Contains (audit_inputs H old new steps) x
unfolding audit_inputs
audit_inputs-part H old new steps x here =
    let part : List (List ℕ) = take (length old) new in
    Contains-append_left (inputs H old ++ inputs H new ++ inputs H part) (step_inputs H new (length old) (tree_hash H old) steps) x
    (Contains-append_right (inputs H old ++ inputs H new) (inputs H part) x here)

audit_inputs-steps : (H : Digest) (old new : List (List ℕ)) (steps : List Step) (x : List ℕ) → Contains (step_inputs H new (length old) (tree_hash H old) steps) x → Contains (audit_inputs H old new steps) x
unfolding audit_inputs
audit_inputs-steps H old new steps x here =
    Contains-append_right (inputs H old ++ inputs H new ++ inputs H (take (length old) new)) (step_inputs H new (length old) (tree_hash H old) steps) x here

-- a fork in the links
pub forks-in_links : (H : Digest) (in_links : Option Fork) (fork : Fork) (old new : List (List ℕ)) (place : ℕ) (steps : List Step)
    → in_links ≡ Some fork → LinksFork H in_links old new steps → ForksAt H (Some fork) old new place steps
forks-in_links H in_links fork old new place steps is found =
    let strings : List (List ℕ) = step_inputs H new (length old) (tree_hash H old) steps in
    let here : Collides H (input_of fork.first) (input_of fork.second) strings strings =
    subst (λ (o : Option Fork). SameOrForks H o (tree_hash H old) (tree_hash H (take (length old) new)) strings strings) is found in
    record {
      first = audit_inputs-steps H old new steps (input_of fork.first) here.first;
      second = audit_inputs-steps H old new steps (input_of fork.second) here.second;
      differ = here.differ;
      same_digest = here.same_digest;
    }

-- a fork between the lists, or two leaves
forks-found : (H : Digest) (fork : Option Fork) (old new : List (List ℕ)) (place : ℕ) (steps : List Step) → length old ≤ length new → DifferAt old new place
    → SameOrForks H fork (H (leaf_input (entry_at old place))) (H (leaf_input (entry_at (take (length old) new) place))) (inputs H old) (inputs H (take (length old) new))
    → ForksAt H fork old new place steps
forks-found H (Some fork) old new place steps most differ found = record {
  first = audit_inputs-old H old new steps (input_of fork.first) found.first;
  second = audit_inputs-part H old new steps (input_of fork.second) found.second;
  differ = found.differ;
  same_digest = found.same_digest;
}
forks-found H None old new place steps most differ found =
    let part : List (List ℕ) = take (length old) new in
    let entry : entry_at part place ≡ entry_at new place = get_or-take (length old) new place [] differ.0 in
    let within : place < length part = omega (arith, differ.0, length-take-le (length old) new most) in
    record {
      first = audit_inputs-old H old new steps (leaf_input (entry_at old place)) (inputs-leaf H old place differ.0);
      second = audit_inputs-part H old new steps (leaf_input (entry_at new place))
          (subst (λ (z : List ℕ). Contains (inputs H part) (leaf_input z)) entry (inputs-leaf H part place within));
      differ = λ e. differ.1 (cc);
      same_digest = found ∙ ap (λ (z : List ℕ). H (leaf_input z)) entry;
    }

pub forks-in_lists : (H : Digest) (in_links : Option Fork) (old new part : List (List ℕ)) (place : ℕ) (walk : Walk) (steps : List Step)
    → in_links ≡ None → length old ≤ length new → DifferAt old new place → part ≡ take (length old) new → IsListsWalk H place old part walk
    → LinksFork H in_links old new steps → ForksAt H walk.fork old new place steps
forks-in_lists H in_links old new part place walk steps is most differ part_is walked found =
    let strings : List (List ℕ) = step_inputs H new (length old) (tree_hash H old) steps in
    let same : tree_hash H old ≡ tree_hash H (take (length old) new) =
    subst (λ (o : Option Fork). SameOrForks H o (tree_hash H old) (tree_hash H (take (length old) new)) strings strings) is found in
    let walked_here : IsListsWalk H place old (take (length old) new) walk = subst (λ (z : List (List ℕ)). IsListsWalk H place old z walk) part_is walked in
    forks-found H walk.fork old new place steps most differ (walked_here.meets (walked_here.old_root ∙ same ∙ sym walked_here.new_root))

-- the answer with the strings of a fork
pub audits-of : {A : Type 0} (H : Digest) (old new : List (List ℕ)) (steps : List Step) (fork : Option Fork) (place : ℕ) (a b : List ℕ) (answer : Result (Verdict A) AuditFault)
    → AreAccepted H old new steps → DifferAt old new place → ForksAt H fork old new place steps → a ≡ entry_at old place → b ≡ entry_at new place
    → ShowsFork fork a b answer → Audits H old new steps answer
audits-of H old new steps fork place a b (Ok Extends) accepted differ forks a_is b_is shows = absurd shows
audits-of H old new steps fork place a b (Ok (Collision x y)) accepted differ forks a_is b_is shows =
    (accepted, DifferAt-no_prefix old new place differ, rw (shows.0, shows.1, a_is, b_is) forks)
audits-of H old new steps fork place a b (Err NotAccepted) accepted differ forks a_is b_is shows = absurd shows
audits-of H old new steps fork place a b (Err OutOfMemory) accepted differ forks a_is b_is shows =
    (accepted, DifferAt-no_prefix old new place differ)

-- an accepted new list is no shorter
pub AreAccepted-ordered : (H : Digest) (old new : List (List ℕ)) (steps : List Step) → AreAccepted H old new steps → length old ≤ length new
AreAccepted-ordered H old new steps accepted = linked_most H steps (length old) (tree_hash H old) (length new) (tree_hash H new) accepted.0 accepted.1

-- one step is accepted if its proof is
pub AreAccepted-one : (H : Digest) (old new : List (List ℕ)) (proof : List (List ℕ)) (m n : ℕ) → m ≡ length old → n ≡ length new
    → AcceptsConsistency H proof n (tree_hash H new) m (tree_hash H old) ↔ AreAccepted H old new (record { size = n; root = tree_hash H new; proof = proof } ∷ [])
unfolding Linked EndsWith
AreAccepted-one H old new proof m n m_is n_is = (
  λ a. ((subst (λ (z : ℕ). AcceptsConsistency H proof n (tree_hash H new) z (tree_hash H old)) m_is a, tt), (n_is, refl)),
  λ a. subst (λ (z : ℕ). AcceptsConsistency H proof n (tree_hash H new) z (tree_hash H old)) (sym m_is) a.0.0,
)

-- a fork in one link is one of the chain of this link alone
links_fork-here : (H : Digest) (old new : List (List ℕ)) (proof : List (List ℕ)) (fork : Option Fork)
    → SameOrForks H fork (tree_hash H old) (tree_hash H (take (length old) new)) (fold_inputs H (length old) (length new) proof (tree_hash H old)) (inputs H new)
    → LinksFork H fork old new (record { size = length new; root = tree_hash H new; proof = proof } ∷ [])
unfolding step_inputs
links_fork-here H old new proof fork found =
    let part : List (List ℕ) = take (length new) new in
    let folded : List (List ℕ) = fold_inputs H (length old) (length new) proof (tree_hash H old) in
    let whole : part ≡ new = take_all (length new) new (omega arith) in
    SameOrForks-among H fork (tree_hash H old) (tree_hash H (take (length old) new)) (tree_hash H old) (tree_hash H (take (length old) new))
    folded (inputs H new) (inputs H part ++ folded ++ []) (inputs H part ++ folded ++ [])
    (λ e. e)
    (λ x here. Contains-append_left (inputs H part ++ folded) [] x (Contains-append_right (inputs H part) folded x here))
    (λ x here. Contains-append_left (inputs H part ++ folded) [] x (Contains-append_left (inputs H part) folded x (subst (λ (z : List (List ℕ)). Contains (inputs H z) x) (sym whole) here)))
    found

pub links_fork-one : (H : Digest) (old new : List (List ℕ)) (proof : List (List ℕ)) (m n : ℕ) (root : List ℕ) (fork : Option Fork)
    → m ≡ length old → n ≡ length new → root ≡ tree_hash H old → AcceptsConsistency H proof n (tree_hash H new) m root
    → (AcceptsConsistency H proof (length new) (tree_hash H new) m root
    → SameOrForks H fork root (tree_hash H (take m new)) (fold_inputs H m (length new) proof root) (inputs H new))
    → LinksFork H fork old new (record { size = n; root = tree_hash H new; proof = proof } ∷ [])
links_fork-one H old new proof m n root fork m_is n_is root_is accepted find =
    let found = find (subst (λ (z : ℕ). AcceptsConsistency H proof z (tree_hash H new) m root) n_is accepted) in
    let found_root : SameOrForks H fork (tree_hash H old) (tree_hash H (take m new)) (fold_inputs H m (length new) proof (tree_hash H old)) (inputs H new) =
    subst (λ (z : List ℕ). SameOrForks H fork z (tree_hash H (take m new)) (fold_inputs H m (length new) proof z) (inputs H new)) root_is found in
    let found_size : SameOrForks H fork (tree_hash H old) (tree_hash H (take (length old) new)) (fold_inputs H (length old) (length new) proof (tree_hash H old)) (inputs H new) =
    subst (λ (z : ℕ). SameOrForks H fork (tree_hash H old) (tree_hash H (take z new)) (fold_inputs H z (length new) proof (tree_hash H old)) (inputs H new)) m_is found_root in
    subst (λ (z : ℕ). LinksFork H fork old new (record { size = z; root = tree_hash H new; proof = proof } ∷ [])) (sym n_is) (links_fork-here H old new proof fork found_size)

-- the links lead from the old list to the new one if their steps are accepted
pub AreAccepted-led : (H : Digest) (old new : List (List ℕ)) (steps : List Step) (m n : ℕ) (root new_root : List ℕ) → m ≡ length old → n ≡ length new → root ≡ tree_hash H old → new_root ≡ tree_hash H new
    → (Linked H m root steps × EndsWith m root steps n new_root) ↔ AreAccepted H old new steps
AreAccepted-led H old new steps m n root new_root m_is n_is root_is new_is = rw (m_is, n_is, root_is, new_is) (λ a. a, λ a. a)

-- a fork in the links is one of the chain
pub links_fork-led : (H : Digest) (old new : List (List ℕ)) (steps : List Step) (m : ℕ) (root : List ℕ) (fork : Option Fork) → m ≡ length old → root ≡ tree_hash H old
    → SameOrForks H fork root (tree_hash H (take m new)) (step_inputs H new m root steps) (step_inputs H new m root steps) → LinksFork H fork old new steps
links_fork-led H old new steps m root fork m_is root_is found =
    let of_root = subst (λ (z : List ℕ). SameOrForks H fork z (tree_hash H (take m new)) (step_inputs H new m z steps) (step_inputs H new m z steps)) root_is found in
    subst (λ (z : ℕ). SameOrForks H fork (tree_hash H old) (tree_hash H (take z new)) (step_inputs H new z (tree_hash H old) steps) (step_inputs H new z (tree_hash H old) steps)) m_is of_root
