-- An inclusion proof that leads to the root of a list leads from the leaf of its entry, or an input of the check and
-- one of the list collide.
use Rattle.std.proofs.Common.{◌≡◌, ℕ, ◌-◌, ◌<◌, ◌≤◌, ◌⊎◌, zero, suc, ◌+◌, inl, inr, eqb, ltb, leb, cond, option_map, List, [], ◌∷◌, ◌++◌, length, take, drop, reverse, get_or, Option, Some, None, Contains, refl, sym, ap, subst, ◌∙◌, arith}
use Rattle.std.specs.Prelude.{IfSome}
use Rattle.std.specs.List.{AllByRecursion}
use Rattle.std.proofs.lemmas.Bool.{cases_lt, cases_Bool, cond_both, eqb-true, le-leb, lt-ltb, le-ltb}
use Rattle.std.proofs.lemmas.List.{get_or-take, get_or-drop}
use Rattle.tl_hash.specs.Bytes.{Digest}
use Rattle.tl_hash.specs.Split.{split_point, IsSplit}
use Rattle.tl_hash.specs.Tree.{tree_hash, inputs, leaf_input, node_input}
use Rattle.tl_hash.proofs.SplitLemmas.{split_point_is, split_point-splits}
use Rattle.tl_hash.proofs.TreeLemmas.{length_first, length_rest, tree_hash-one}
use Rattle.tl_proof.specs.Acceptance.{root_from_leaf, AcceptsInclusion, input_on_left, input_on_right}
use Rattle.tl_proof.specs.Collisions.{path_inputs_from, path_inputs}
use Rattle.tl_proof.specs.Laws.{HasHashLength}
use Rattle.tl_proof.specs.Inner.Laws.{InclusionShowsEntry}
use Rattle.tl_hash.proofs.Bytes.{cases_bytes}
use Rattle.tl_proof.proofs.AuditAnswers.{inputs-leaf}
use Rattle.tl_proof.proofs.Audits.{reversed_hashes}
use Rattle.tl_proof.proofs.Equations.{root_from_leaf-left, root_from_leaf-right}
use Rattle.tl_proof.proofs.Folds.{cases_option, Some-injective, None-no_Some, nodes_meet, IfSome-map}
use Rattle.tl_hash.proofs.SameSize.{Collision, Collision-among, Contains-head, Contains-tail, inputs-first, inputs-rest}

-- the inputs of a check, a step at a time
path_inputs_from-left : (H : Digest) (k index size : ℕ) (last : List ℕ) (others : List (List ℕ)) (leaf : List ℕ) → IsSplit k size → index < k
    → path_inputs_from H index size (last ∷ others) leaf ≡ input_on_left (root_from_leaf H index k others leaf) last ++ path_inputs_from H index k others leaf
unfolding path_inputs_from
path_inputs_from-left H k index size last others leaf s less = rw (split_point_is k size s, lt-ltb index k less) refl

path_inputs_from-right : (H : Digest) (k index size : ℕ) (last : List ℕ) (others : List (List ℕ)) (leaf : List ℕ) → IsSplit k size → k ≤ index
    → path_inputs_from H index size (last ∷ others) leaf ≡ input_on_right (root_from_leaf H (index - k) (size - k) others leaf) last ++ path_inputs_from H (index - k) (size - k) others leaf
unfolding path_inputs_from
path_inputs_from-right H k index size last others leaf s more = rw (split_point_is k size s, le-ltb index k more) refl

-- what is to be shown of a check that leads from this leaf to the root of the entries
abbrev Shows : (List ℕ → List ℕ) → ℕ → ℕ → List (List ℕ) → List ℕ → List (List ℕ) → Type 0
Shows H index size proof leaf entries =
    (leaf ≡ H (leaf_input (get_or entries index []))) ⊎ Collision H (path_inputs_from H index size proof leaf) (inputs H entries)

abbrev ShowsAll : (List ℕ → List ℕ) → List (List ℕ) → Type 0
ShowsAll H proof = (index size : ℕ) (leaf root : List ℕ) (entries : List (List ℕ))
    → length entries ≡ size → index < size → HasHashLength leaf → AllByRecursion HasHashLength proof
    → root_from_leaf H index size proof leaf ≡ Some root → root ≡ tree_hash H entries → Shows H index size proof leaf entries

-- every root that a check leads to is a hash
root_from_leaf-hash : (H : Digest) → ((message : List ℕ) → HasHashLength (H message)) → (proof : List (List ℕ)) (index size : ℕ) (leaf : List ℕ)
    → HasHashLength leaf → IfSome (root_from_leaf H index size proof leaf) HasHashLength
unfolding root_from_leaf
root_from_leaf-hash H wide [] index size leaf is = cond_both (eqb size 1) (Some leaf) None (λ o. IfSome o HasHashLength) (λ e. is) (λ e. tt)
root_from_leaf-hash H wide (last ∷ others) index size leaf is =
    let k : ℕ = split_point size in
    let first : Option (List ℕ) = root_from_leaf H index k others leaf in
    let second : Option (List ℕ) = root_from_leaf H (index - k) (size - k) others leaf in
    cond_both (leb size 1) None (cond (ltb index k) (option_map (λ root. H (node_input root last)) first) (option_map (λ root. H (node_input last root)) second))
    (λ o. IfSome o HasHashLength) (λ e. tt)
    (λ e. cond_both (ltb index k) (option_map (λ root. H (node_input root last)) first) (option_map (λ root. H (node_input last root)) second) (λ o. IfSome o HasHashLength)
    (λ d. IfSome-map (λ root. H (node_input root last)) HasHashLength (λ root. wide (node_input root last)) first)
    (λ d. IfSome-map (λ root. H (node_input last root)) HasHashLength (λ root. wide (node_input last root)) second))

shows-one : (H : Digest) (index : ℕ) (leaf root : List ℕ) (entries : List (List ℕ)) → length entries ≡ 1 → index < 1 → leaf ≡ root → root ≡ tree_hash H entries → leaf ≡ H (leaf_input (get_or entries index []))
shows-one H index leaf root [] len within same is = absurd (omega (arith, len))
shows-one H zero leaf root (entry ∷ []) len within same is = same ∙ is ∙ tree_hash-one H entry
shows-one H (suc index) leaf root (entry ∷ []) len within same is = absurd (omega (arith, within))
shows-one H index leaf root (entry ∷ next ∷ rest) len within same is = absurd (omega (arith, len))

shows-nil : (H : Digest) → ShowsAll H []
unfolding root_from_leaf
shows-nil H index size leaf root entries len within leaf_is all leads is =
    elim (cases_Bool (eqb size 1)) as (λ _. Shows H index size [] leaf entries) [
      | inl e ↦
          let one : size ≡ 1 = eqb-true size 1 e in
          inl (shows-one H index leaf root entries (len ∙ one) (omega (arith, within, one)) (Some-injective leaf root (rw e at leads)) is)
      | inr e ↦ absurd (None-no_Some None root refl (rw e at leads))
    ]

shows-left : (H : Digest) → ((message : List ℕ) → HasHashLength (H message)) → (last : List ℕ) (others : List (List ℕ)) → ShowsAll H others
    → (k index size : ℕ) (leaf root below : List ℕ) (entries : List (List ℕ)) → IsSplit k size → length entries ≡ size → index < k → HasHashLength leaf → AllByRecursion HasHashLength others
    → root_from_leaf H index k others leaf ≡ Some below → H (node_input below last) ≡ root → root ≡ tree_hash H entries → Shows H index size (last ∷ others) leaf entries
shows-left H wide last others deeper k index size leaf root below entries s len less leaf_is all leads joins is =
    let t : IsSplit k (length entries) = subst (λ (n : ℕ). IsSplit k n) (sym len) s in
    let strings : List (List ℕ) = path_inputs_from H index size (last ∷ others) leaf in
    let rest : List (List ℕ) = path_inputs_from H index k others leaf in
    let whole : strings ≡ node_input below last ∷ rest = path_inputs_from-left H k index size last others leaf s less ∙ ap (λ o. input_on_left o last ++ rest) leads in
    let found : Contains strings (node_input below last) = rw whole (Contains-head (node_input below last) rest) in
    let hash : HasHashLength below = rw leads at (root_from_leaf-hash H wide others index k leaf leaf_is) in
    elim (nodes_meet H wide k below last strings entries t hash found (joins ∙ is)) as (λ _. Shows H index size (last ∷ others) leaf entries) [
      | inr collision ↦ inr collision
      | inl both ↦
          elim (deeper index k leaf below (take k entries) (length_first k entries t) less leaf_is all leads both.0) as (λ _. Shows H index size (last ∷ others) leaf entries) [
            | inl same ↦ inl (same ∙ ap (λ (entry : List ℕ). H (leaf_input entry)) (get_or-take k entries index [] less))
            | inr collision ↦ inr (Collision-among H rest (inputs H (take k entries)) strings (inputs H entries)
                (λ x here. rw whole (Contains-tail (node_input below last) x rest here)) (inputs-first H k entries t) collision)
          ]
    ]

shows-right : (H : Digest) → ((message : List ℕ) → HasHashLength (H message)) → (last : List ℕ) (others : List (List ℕ)) → ShowsAll H others
    → (k index size : ℕ) (leaf root below : List ℕ) (entries : List (List ℕ)) → IsSplit k size → length entries ≡ size → k ≤ index → index < size → HasHashLength leaf → HasHashLength last → AllByRecursion HasHashLength others
    → root_from_leaf H (index - k) (size - k) others leaf ≡ Some below → H (node_input last below) ≡ root → root ≡ tree_hash H entries → Shows H index size (last ∷ others) leaf entries
shows-right H wide last others deeper k index size leaf root below entries s len more within leaf_is last_is all leads joins is =
    let t : IsSplit k (length entries) = subst (λ (n : ℕ). IsSplit k n) (sym len) s in
    let strings : List (List ℕ) = path_inputs_from H index size (last ∷ others) leaf in
    let rest : List (List ℕ) = path_inputs_from H (index - k) (size - k) others leaf in
    let whole : strings ≡ node_input last below ∷ rest = path_inputs_from-right H k index size last others leaf s more ∙ ap (λ o. input_on_right o last ++ rest) leads in
    let found : Contains strings (node_input last below) = rw whole (Contains-head (node_input last below) rest) in
    let len_rest : length (drop k entries) ≡ size - k = length_rest k entries ∙ ap (λ (n : ℕ). n - k) len in
    let sum : k + (index - k) ≡ index = omega (arith, more) in
    elim (nodes_meet H wide k last below strings entries t last_is found (joins ∙ is)) as (λ _. Shows H index size (last ∷ others) leaf entries) [
      | inr collision ↦ inr collision
      | inl both ↦
          elim (deeper (index - k) (size - k) leaf below (drop k entries) len_rest (omega (arith, more, within)) leaf_is all leads both.1) as (λ _. Shows H index size (last ∷ others) leaf entries) [
            | inl same ↦ inl (same ∙ ap (λ (entry : List ℕ). H (leaf_input entry)) (get_or-drop k entries (index - k) [] ∙ ap (λ (i : ℕ). get_or entries i []) sum))
            | inr collision ↦ inr (Collision-among H rest (inputs H (drop k entries)) strings (inputs H entries)
                (λ x here. rw whole (Contains-tail (node_input last below) x rest here)) (inputs-rest H k entries t) collision)
          ]
    ]

-- a proof with a hash leads over two entries or more
leads-many : (H : Digest) (index size : ℕ) (last : List ℕ) (others : List (List ℕ)) (leaf root : List ℕ) → root_from_leaf H index size (last ∷ others) leaf ≡ Some root → 1 < size
unfolding root_from_leaf
leads-many H index size last others leaf root leads =
    elim (cases_lt 1 size) as (λ _. 1 < size) [
      | inl more ↦ more
      | inr few ↦ absurd (None-no_Some None root refl (rw (le-leb size 1 few) at leads))
    ]

shows-step : (H : Digest) → ((message : List ℕ) → HasHashLength (H message)) → (last : List ℕ) (others : List (List ℕ)) → ShowsAll H others → ShowsAll H (last ∷ others)
shows-step H wide last others deeper index size leaf root entries len within leaf_is all leads is =
    let k : ℕ = split_point size in
    let s : IsSplit k size = split_point-splits size (leads-many H index size last others leaf root leads) in
    elim (cases_lt index k) as (λ _. Shows H index size (last ∷ others) leaf entries) [
      | inl less ↦
          let step = sym (root_from_leaf-left H k index size last others leaf s less) ∙ leads in
          elim (cases_option (root_from_leaf H index k others leaf)) as (λ _. Shows H index size (last ∷ others) leaf entries) [
            | inl none ↦ absurd (None-no_Some None root refl (rw none at step))
            | inr (below, found) ↦
                shows-left H wide last others deeper k index size leaf root below entries s len less leaf_is all.1 found (Some-injective (H (node_input below last)) root (rw found at step)) is
          ]
      | inr more ↦
          let step = sym (root_from_leaf-right H k index size last others leaf s more) ∙ leads in
          elim (cases_option (root_from_leaf H (index - k) (size - k) others leaf)) as (λ _. Shows H index size (last ∷ others) leaf entries) [
            | inl none ↦ absurd (None-no_Some None root refl (rw none at step))
            | inr (below, found) ↦
                shows-right H wide last others deeper k index size leaf root below entries s len more within leaf_is all.0 all.1 found (Some-injective (H (node_input last below)) root (rw found at step)) is
          ]
    ]

leaf_shown : (H : Digest) → ((message : List ℕ) → HasHashLength (H message)) → (proof : List (List ℕ)) → ShowsAll H proof
leaf_shown H wide [] = shows-nil H
leaf_shown H wide (last ∷ others) = shows-step H wide last others (leaf_shown H wide others)

-- an accepted inclusion proof under the root of a list is of the list's entry, or two strings collide
pub inclusion_shows_entry : InclusionShowsEntry
unfolding AcceptsInclusion path_inputs
inclusion_shows_entry H wide entries index entry proof all accepted =
    let leaf : List ℕ = H (leaf_input entry) in
    let own : List ℕ = get_or entries index [] in
    let strings : List (List ℕ) = path_inputs_from H index (length entries) (reverse proof) leaf in
    elim (leaf_shown H wide (reverse proof) index (length entries) leaf (tree_hash H entries) entries refl accepted.0 (wide (leaf_input entry)) (reversed_hashes proof all) accepted.1 refl) as
    (λ _. (entry ≡ own) ⊎ Collision H (leaf_input entry ∷ strings) (inputs H entries)) [
      | inr collision ↦ inr (Collision-among H strings (inputs H entries) (leaf_input entry ∷ strings) (inputs H entries) (λ x here. Contains-tail (leaf_input entry) x strings here) (λ x here. here) collision)
      | inl same ↦
          elim (cases_bytes entry own) as (λ _. (entry ≡ own) ⊎ Collision H (leaf_input entry ∷ strings) (inputs H entries)) [
            | inl equal ↦ inl equal
            | inr differ ↦ inr (
              leaf_input entry,
              leaf_input own,
              record {
                first = Contains-head (leaf_input entry) strings;
                second = inputs-leaf H entries index accepted.0;
                differ = λ e. differ (cc);
                same_digest = same;
              },
            )
          ]
    ]
