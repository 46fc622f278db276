-- Proofs over the lines of a log, from those over a part of them and the root of the other part.
use Rattle.std.proofs.Common.{◌≡◌, ℕ, zero, suc, ◌+◌, ◌-◌, ◌<◌, ◌≤◌, Bool, true, false, List, [], ◌∷◌, ◌++◌, length, take, drop, if◌then◌else◌, refl, sym, ap, subst, ◌∙◌, arith}
use Rattle.std.specs.Prelude.{slice_index_or, IfOk, Result, Ok, Err}
use Rattle.std.proofs.lemmas.List.{get_or-drop, get_or-take, take-take, take_all}
use Rattle.sha2.specs.Sha256.{sha256}
use Rattle.tl_hash.specs.Split.{IsSplit}
use Rattle.tl_hash.specs.Tree.{leaf_input, node_input, tree_of, tree_within, tree_hash}
use Rattle.tl_hash.proofs.TreeLemmas.{tree_hash-none, tree_hash-one, tree_hash-prefix, tree_hash-split}
use Rattle.tl_proof.specs.Proofs.{inclusion_proof, path_in, subproof, consistency_proof}
use Rattle.tl_proof.proofs.Consistency.{consistency_proof-some}
use Rattle.tl_proof.proofs.Equations.{inclusion_proof-left, inclusion_proof-right, subproof-whole, subproof-left, subproof-right}
use Rattle.tl_command.specs.ProofText.{Inclusion, Consistency}
use Rattle.tl_command.specs.ProofCommands.{inclusion_of, consistency_of}
use Rattle.tl_command.specs.ProofShown.{consistency_shown}
use Rattle.tl_command.specs.Inner.Subproofs.{subproof_of}
use Rattle.tl_command.specs.ProofShown.{inclusion_shown}
use Rattle.tl_command.specs.declared.proof_text.InclusionProof.{InclusionProof}
use Rattle.tl_command.specs.declared.proof_text.ConsistencyProof.{ConsistencyProof}

-- ---- inclusion

unfoldable inclusion : ℕ → ℕ → List ℕ → List ℕ → List (List ℕ) → Inclusion
inclusion index size leaf root proof = record { index = index; size = size; leaf = leaf; root = root; proof = proof }

-- a proof whose parts are those of the entries' is theirs
inclusion_is : (entries : List (List ℕ)) (index size : ℕ) (leaf root : List ℕ) (proof : List (List ℕ)) → size ≡ length entries
    → leaf ≡ sha256 (leaf_input (slice_index_or entries index [])) → root ≡ tree_hash sha256 entries → proof ≡ inclusion_proof sha256 index entries
    → record { index = index; size = size; leaf = leaf; root = root; proof = proof } ≡ inclusion_of index entries
unfolding inclusion
inclusion_is entries index size leaf root proof count is_leaf is_root is_proof =
    λ i. inclusion index (count i) (is_leaf i) (is_root i) (is_proof i)

path-one : (entry : List ℕ) → inclusion_proof sha256 0 (entry ∷ []) ≡ []
unfolding inclusion_proof path_in tree_of tree_within
path-one entry = refl

-- of an only line
pub inclusion-one : (entries : List (List ℕ)) (index : ℕ) (root : List ℕ) (p : Inclusion) → length entries ≡ 1 → index < 1 → root ≡ tree_hash sha256 entries
    → p ≡ record { index = 0; size = 1; leaf = root; root = root; proof = [] } → p ≡ inclusion_of index entries
inclusion-one [] index root p one within is_root is = absurd (omega (arith, one))
inclusion-one (entry ∷ []) zero root p one within is_root is =
    is ∙ inclusion_is (entry ∷ []) 0 1 root root [] refl (is_root ∙ tree_hash-one sha256 entry) is_root (sym (path-one entry))
inclusion-one (entry ∷ []) (suc index) root p one within is_root is = absurd (omega (arith, within))
inclusion-one (entry ∷ next ∷ rest) index root p one within is_root is = absurd (omega (arith, one))

-- of a line in the left part
pub inclusion-left : (entries : List (List ℕ)) (k index size : ℕ) (other root : List ℕ) (part p : Inclusion) → IsSplit k (length entries) → index < k
    → size ≡ length entries → part ≡ inclusion_of index (take k entries) → other ≡ tree_hash sha256 (drop k entries)
    → root ≡ sha256 (node_input part.root other)
    → p ≡ record { index = index; size = size; leaf = part.leaf; root = root; proof = part.proof ++ other ∷ [] } → p ≡ inclusion_of index entries
inclusion-left entries k index size other root part p s less count part_is other_is root_is is =
    let leaf : part.leaf ≡ sha256 (leaf_input (slice_index_or entries index [])) =
    ap (λ (q : Inclusion). q.leaf) part_is ∙ ap (λ (e : List ℕ). sha256 (leaf_input e)) (get_or-take k entries index [] less) in
    let left : part.root ≡ tree_hash sha256 (take k entries) = ap (λ (q : Inclusion). q.root) part_is in
    let path : part.proof ≡ inclusion_proof sha256 index (take k entries) = ap (λ (q : Inclusion). q.proof) part_is in
    is ∙ inclusion_is entries index size part.leaf root (part.proof ++ other ∷ []) count leaf
    (root_is ∙ (λ i. sha256 (node_input (left i) (other_is i))) ∙ sym (tree_hash-split sha256 k entries s))
    ((λ i. path i ++ other_is i ∷ []) ∙ sym (inclusion_proof-left sha256 k index entries s less))

-- of a line in the right part
pub inclusion-right : (entries : List (List ℕ)) (k index size : ℕ) (other root : List ℕ) (part p : Inclusion) → IsSplit k (length entries) → k ≤ index
    → size ≡ length entries → part ≡ inclusion_of (index - k) (drop k entries) → other ≡ tree_hash sha256 (take k entries)
    → root ≡ sha256 (node_input other part.root)
    → p ≡ record { index = index; size = size; leaf = part.leaf; root = root; proof = part.proof ++ other ∷ [] } → p ≡ inclusion_of index entries
inclusion-right entries k index size other root part p s more count part_is other_is root_is is =
    let sum : k + (index - k) ≡ index = omega (arith, more) in
    let leaf : part.leaf ≡ sha256 (leaf_input (slice_index_or entries index [])) =
    ap (λ (q : Inclusion). q.leaf) part_is ∙ ap (λ (e : List ℕ). sha256 (leaf_input e)) (get_or-drop k entries (index - k) [])
    ∙ ap (λ (n : ℕ). sha256 (leaf_input (slice_index_or entries n []))) sum in
    let right : part.root ≡ tree_hash sha256 (drop k entries) = ap (λ (q : Inclusion). q.root) part_is in
    let path : part.proof ≡ inclusion_proof sha256 (index - k) (drop k entries) = ap (λ (q : Inclusion). q.proof) part_is in
    is ∙ inclusion_is entries index size part.leaf root (part.proof ++ other ∷ []) count leaf
    (root_is ∙ (λ i. sha256 (node_input (other_is i) (right i))) ∙ sym (tree_hash-split sha256 k entries s))
    ((λ i. path i ++ other_is i ∷ []) ∙ sym (inclusion_proof-right sha256 k index entries s more))

-- ---- consistency

unfoldable consistency : ℕ → List ℕ → ℕ → List ℕ → List (List ℕ) → Consistency
consistency old old_root size root proof = record { old = old; old_root = old_root; size = size; root = root; proof = proof }

subproof_is : (entries : List (List ℕ)) (old : ℕ) (known : Bool) (before : ℕ) (old_root : List ℕ) (size : ℕ) (root : List ℕ) (proof : List (List ℕ)) → before ≡ old
    → old_root ≡ tree_hash sha256 (take old entries) → size ≡ length entries → root ≡ tree_hash sha256 entries
    → proof ≡ subproof sha256 old (tree_of entries) known
    → record { old = before; old_root = old_root; size = size; root = root; proof = proof } ≡ subproof_of old known entries
unfolding consistency
subproof_is entries old known before old_root size root proof same is_old count is_root is_proof =
    λ i. consistency (same i) (is_old i) (count i) (is_root i) (is_proof i)

whole-known : (entries : List (List ℕ)) (old : ℕ) (known : Bool) (root : List ℕ) → old ≡ length entries → root ≡ tree_hash sha256 entries
    → (if known then [] else root ∷ []) ≡ subproof sha256 old (tree_of entries) known
unfolding tree_hash
whole-known entries old true root same is = sym (subproof-whole sha256 old true entries same)
whole-known entries old false root same is = ap (λ (h : List ℕ). h ∷ []) is ∙ sym (subproof-whole sha256 old false entries same)

-- if all lines are old
pub subproof-all : (entries : List (List ℕ)) (old size : ℕ) (known : Bool) (root : List ℕ) (p : Consistency) → old ≡ size → size ≡ length entries
    → root ≡ tree_hash sha256 entries
    → p ≡ record { old = size; old_root = root; size = size; root = root; proof = if known then [] else root ∷ [] } → p ≡ subproof_of old known entries
subproof-all entries old size known root p same count root_is is =
    let all : take old entries ≡ entries = take_all old entries (omega (arith, same, count)) in
    is ∙ subproof_is entries old known size root size root (if known then [] else root ∷ []) (sym same) (root_is ∙ ap (tree_hash sha256) (sym all)) count root_is
    (whole-known entries old known root (same ∙ count) root_is)

-- if the old lines are in the left part
pub subproof-in_left : (entries : List (List ℕ)) (k old size : ℕ) (known : Bool) (other old_root root : List ℕ) (part p : Consistency) → IsSplit k (length entries) → old ≤ k
    → size ≡ length entries → part ≡ subproof_of old known (take k entries) → other ≡ tree_hash sha256 (drop k entries)
    → old_root ≡ part.old_root → root ≡ sha256 (node_input part.root other)
    → p ≡ record { old = old; old_root = old_root; size = size; root = root; proof = part.proof ++ other ∷ [] } → p ≡ subproof_of old known entries
subproof-in_left entries k old size known other old_root root part p s less count part_is other_is old_is root_is is =
    let before : old_root ≡ tree_hash sha256 (take old entries) =
    old_is ∙ ap (λ (q : Consistency). q.old_root) part_is ∙ ap (tree_hash sha256) (take-take old k entries less) in
    let left : part.root ≡ tree_hash sha256 (take k entries) = ap (λ (q : Consistency). q.root) part_is in
    let below : part.proof ≡ subproof sha256 old (tree_of (take k entries)) known = ap (λ (q : Consistency). q.proof) part_is in
    is ∙ subproof_is entries old known old old_root size root (part.proof ++ other ∷ []) refl before count
    (root_is ∙ (λ i. sha256 (node_input (left i) (other_is i))) ∙ sym (tree_hash-split sha256 k entries s))
    ((λ i. below i ++ other_is i ∷ []) ∙ sym (subproof-left sha256 k old known entries s less))

-- if all of the left part is old
pub subproof-in_right : (entries : List (List ℕ)) (k old size : ℕ) (known : Bool) (other old_root root : List ℕ) (part p : Consistency) → IsSplit k (length entries) → k < old
    → old < length entries → size ≡ length entries → part ≡ subproof_of (old - k) false (drop k entries) → other ≡ tree_hash sha256 (take k entries)
    → old_root ≡ sha256 (node_input other part.old_root) → root ≡ sha256 (node_input other part.root)
    → p ≡ record { old = old; old_root = old_root; size = size; root = root; proof = part.proof ++ other ∷ [] } → p ≡ subproof_of old known entries
subproof-in_right entries k old size known other old_root root part p s more less count part_is other_is old_is root_is is =
    let before : part.old_root ≡ tree_hash sha256 (take (old - k) (drop k entries)) = ap (λ (q : Consistency). q.old_root) part_is in
    let right : part.root ≡ tree_hash sha256 (drop k entries) = ap (λ (q : Consistency). q.root) part_is in
    let below : part.proof ≡ subproof sha256 (old - k) (tree_of (drop k entries)) false = ap (λ (q : Consistency). q.proof) part_is in
    is ∙ subproof_is entries old known old old_root size root (part.proof ++ other ∷ []) refl
    (old_is ∙ (λ i. sha256 (node_input (other_is i) (before i))) ∙ sym (tree_hash-prefix sha256 k old entries s more (omega (arith, less)))) count
    (root_is ∙ (λ i. sha256 (node_input (other_is i) (right i))) ∙ sym (tree_hash-split sha256 k entries s))
    ((λ i. below i ++ other_is i ∷ []) ∙ sym (subproof-right sha256 k old known entries s more less))

-- the consistency proof for some lines is the subproof for them
pub consistency-some : (entries : List (List ℕ)) (old : ℕ) (p : Consistency) → 0 < old → p ≡ subproof_of old true entries → p ≡ consistency_of old entries
unfolding consistency
consistency-some entries old p some is =
    is ∙ ap (consistency old (tree_hash sha256 (take old entries)) (length entries) (tree_hash sha256 entries)) (sym (consistency_proof-some sha256 entries old some))

-- and there is no hash in that for none
pub consistency-none : (entries : List (List ℕ)) (old size : ℕ) (old_root root : List ℕ) (proof : List (List ℕ)) → old ≤ 0 → size ≡ length entries
    → old_root ≡ sha256 [] → root ≡ tree_hash sha256 entries → proof ≡ []
    → record { old = old; old_root = old_root; size = size; root = root; proof = proof } ≡ consistency_of old entries
unfolding consistency consistency_proof
consistency-none entries zero size old_root root proof none count old_is root_is proof_is =
    λ i. consistency 0 ((old_is ∙ sym (tree_hash-none sha256)) i) (count i) (root_is i) (proof_is i)
consistency-none entries (suc old) size old_root root proof none count old_is root_is proof_is = absurd (omega (arith, none))

-- ---- what a call gives, if it gives a proof

pub path-left : {A E : Type 0} (r : Result (InclusionProof A) E) (entries front back : List (List ℕ)) (k index size : ℕ) (other root : List ℕ) (part : Inclusion) → IsSplit k size
    → index < k → size ≡ length entries → front ≡ take k entries → back ≡ drop k entries → part ≡ inclusion_of index front → other ≡ tree_hash sha256 back
    → root ≡ sha256 (node_input part.root other)
    → IfOk r (λ p. inclusion_shown p ≡ record { index = index; size = size; leaf = part.leaf; root = root; proof = part.proof ++ other ∷ [] })
    → IfOk r (λ p. inclusion_shown p ≡ inclusion_of index entries)
path-left (Ok p) entries front back k index size other root part s less count front_is back_is part_is other_is root_is is =
    inclusion-left entries k index size other root part (inclusion_shown p) (subst (IsSplit k) count s) less count (part_is ∙ ap (inclusion_of index) front_is)
    (other_is ∙ ap (tree_hash sha256) back_is) root_is is
path-left (Err e) entries front back k index size other root part s less count front_is back_is part_is other_is root_is is = tt

pub path-right : {A E : Type 0} (r : Result (InclusionProof A) E) (entries front back : List (List ℕ)) (k index size : ℕ) (other root : List ℕ) (part : Inclusion) → IsSplit k size
    → k ≤ index → size ≡ length entries → front ≡ take k entries → back ≡ drop k entries → part ≡ inclusion_of (index - k) back → other ≡ tree_hash sha256 front
    → root ≡ sha256 (node_input other part.root)
    → IfOk r (λ p. inclusion_shown p ≡ record { index = index; size = size; leaf = part.leaf; root = root; proof = part.proof ++ other ∷ [] })
    → IfOk r (λ p. inclusion_shown p ≡ inclusion_of index entries)
path-right (Ok p) entries front back k index size other root part s more count front_is back_is part_is other_is root_is is =
    inclusion-right entries k index size other root part (inclusion_shown p) (subst (IsSplit k) count s) more count (part_is ∙ ap (inclusion_of (index - k)) back_is)
    (other_is ∙ ap (tree_hash sha256) front_is) root_is is
path-right (Err e) entries front back k index size other root part s more count front_is back_is part_is other_is root_is is = tt

pub growth-all : {A E : Type 0} (r : Result (ConsistencyProof A) E) (entries : List (List ℕ)) (old size : ℕ) (known : Bool) (root : List ℕ) → old ≡ size → size ≡ length entries
    → root ≡ tree_hash sha256 entries
    → IfOk r (λ p. consistency_shown p ≡ record { old = size; old_root = root; size = size; root = root; proof = if known then [] else root ∷ [] })
    → IfOk r (λ p. consistency_shown p ≡ subproof_of old known entries)
growth-all (Ok p) entries old size known root same count root_is is = subproof-all entries old size known root (consistency_shown p) same count root_is is
growth-all (Err e) entries old size known root same count root_is is = tt

pub growth-in_left : {A E : Type 0} (r : Result (ConsistencyProof A) E) (entries front back : List (List ℕ)) (k old size : ℕ) (known : Bool) (other old_root root : List ℕ) (part : Consistency)
    → IsSplit k size → old ≤ k → size ≡ length entries → front ≡ take k entries → back ≡ drop k entries → part ≡ subproof_of old known front → other ≡ tree_hash sha256 back
    → old_root ≡ part.old_root → root ≡ sha256 (node_input part.root other)
    → IfOk r (λ p. consistency_shown p ≡ record { old = old; old_root = old_root; size = size; root = root; proof = part.proof ++ other ∷ [] })
    → IfOk r (λ p. consistency_shown p ≡ subproof_of old known entries)
growth-in_left (Ok p) entries front back k old size known other old_root root part s less count front_is back_is part_is other_is old_is root_is is =
    subproof-in_left entries k old size known other old_root root part (consistency_shown p) (subst (IsSplit k) count s) less count
    (part_is ∙ ap (subproof_of old known) front_is) (other_is ∙ ap (tree_hash sha256) back_is) old_is root_is is
growth-in_left (Err e) entries front back k old size known other old_root root part s less count front_is back_is part_is other_is old_is root_is is = tt

pub growth-in_right : {A E : Type 0} (r : Result (ConsistencyProof A) E) (entries front back : List (List ℕ)) (k old size : ℕ) (known : Bool) (other old_root root : List ℕ) (part : Consistency)
    → IsSplit k size → k < old → old < size → size ≡ length entries → front ≡ take k entries → back ≡ drop k entries → part ≡ subproof_of (old - k) false back → other ≡ tree_hash sha256 front
    → old_root ≡ sha256 (node_input other part.old_root) → root ≡ sha256 (node_input other part.root)
    → IfOk r (λ p. consistency_shown p ≡ record { old = old; old_root = old_root; size = size; root = root; proof = part.proof ++ other ∷ [] })
    → IfOk r (λ p. consistency_shown p ≡ subproof_of old known entries)
growth-in_right (Ok p) entries front back k old size known other old_root root part s more less count front_is back_is part_is other_is old_is root_is is =
    subproof-in_right entries k old size known other old_root root part (consistency_shown p) (subst (IsSplit k) count s) more (omega (arith, less, count)) count
    (part_is ∙ ap (subproof_of (old - k) false) back_is) (other_is ∙ ap (tree_hash sha256) front_is) old_is root_is is
growth-in_right (Err e) entries front back k old size known other old_root root part s more less count front_is back_is part_is other_is old_is root_is is = tt

pub growth-some : {A E : Type 0} (r : Result (ConsistencyProof A) E) (entries : List (List ℕ)) (old : ℕ) → 0 < old
    → IfOk r (λ p. consistency_shown p ≡ subproof_of old true entries) → IfOk r (λ p. consistency_shown p ≡ consistency_of old entries)
growth-some (Ok p) entries old some is = consistency-some entries old (consistency_shown p) some is
growth-some (Err e) entries old some is = tt
