-- Accepted links from the root of one list to the root of another: a prefix, or a collision.
use Rattle.std.proofs.Common.{◌≡◌, ℕ, ◌-◌, ◌<◌, ◌≤◌, ◌⊎◌, inl, inr, true, List, [], ◌∷◌, ◌++◌, length, take, reverse, All, refl, sym, ap, ◌∙◌, arith}
use Rattle.std.specs.List.{AllByRecursion}
use Rattle.std.proofs.lemmas.Bool.{ne_eqb}
use Rattle.std.proofs.lemmas.List.{take_all, take-take, length-take-le, get_or-reverse, length-reverse}
use Rattle.std.proofs.lemmas.List.Elements.{All-from_get_or, All-get_or, All-head, All-tail, recursion_from_All, Contains-append_left, Contains-append_right}
use Rattle.tl_hash.specs.Bytes.{Digest}
use Rattle.tl_hash.specs.Tree.{tree_hash, inputs}
use Rattle.tl_hash.proofs.TreeLemmas.{tree_hash-none, length-tree_hash}
use Rattle.tl_proof.specs.Acceptance.{AcceptsConsistency, Step, Linked, EndsWith}
use Rattle.tl_proof.specs.Collisions.{IsPrefix, fold_inputs, fold_inputs_from, step_inputs, audit_inputs}
use Rattle.tl_proof.specs.Laws.{HasHashLength, MadeOfHashes}
use Rattle.tl_proof.specs.Inner.Laws.{LinksExtendOrCollide}
use Rattle.tl_hash.proofs.SameSize.{Collision, Collision-among, same_or_collide}
use Rattle.tl_proof.proofs.Folds.{roots_meet}

All-reverse : {X : Type 0} (P : X → Type 0) → (xs : List X) (d : X) → All P xs → All P (reverse xs)
All-reverse P xs d all =
    All-from_get_or P (reverse xs) d (λ i within.
    let inside : i < length xs = omega (arith, length-reverse xs, within) in
    let other : length xs - 1 - i < length xs = omega (arith, inside) in
    rw (get_or-reverse xs i d inside) (All-get_or P xs (length xs - 1 - i) d other all))

pub reversed_hashes : (proof : List (List ℕ)) → All HasHashLength proof → AllByRecursion HasHashLength (reverse proof)
reversed_hashes proof all = recursion_from_All HasHashLength (reverse proof) (All-reverse HasHashLength proof [] all)

pub fold_inputs-some : (H : Digest) (old new : ℕ) (proof : List (List ℕ)) (root : List ℕ) → 0 < old → fold_inputs H old new proof root ≡ fold_inputs_from H old new true (reverse proof) root
unfolding fold_inputs
fold_inputs-some H old new proof root some =
    let differ : old ≡ 0 → ⊥ = λ e. omega (arith, e, some) in
    rw (ne_eqb old 0 differ) refl

-- a proof accepted up to the root of a list: the old root is that of its prefix, or a collision
abbrev LinkMeets : (List ℕ → List ℕ) → List (List ℕ) → ℕ → ℕ → List ℕ → List (List ℕ) → Type 0
LinkMeets H proof size old old_root entries =
    (old ≤ size) × ((old_root ≡ tree_hash H (take old entries)) ⊎ Collision H (fold_inputs H old size proof old_root) (inputs H entries))

pub link_meets : (H : Digest) → ((message : List ℕ) → HasHashLength (H message)) → (proof : List (List ℕ)) (size : ℕ) (root : List ℕ) (old : ℕ) (old_root : List ℕ) (entries : List (List ℕ))
    → length entries ≡ size → root ≡ tree_hash H entries → HasHashLength old_root → All HasHashLength proof
    → AcceptsConsistency H proof size root old old_root → LinkMeets H proof size old old_root entries
unfolding AcceptsConsistency
link_meets H wide proof size root old old_root entries len is root_is all (inl (same, none, equal)) =
    (omega (arith, same), inl (equal ∙ is ∙ ap (tree_hash H) (sym (take_all old entries (omega (arith, len, same))))))
link_meets H wide proof size root old old_root entries len is root_is all (inr (inl (zero_is, some, none, equal))) =
    (omega (arith, zero_is), inl (equal ∙ sym (tree_hash-none H) ∙ ap (λ (n : ℕ). tree_hash H (take n entries)) (sym zero_is)))
link_meets H wide proof size root old old_root entries len is root_is all (inr (inr (some, less, leads))) = (
  omega (arith, less),
  rw (fold_inputs-some H old size proof old_root some)
      (roots_meet H wide (reverse proof) old size true old_root entries old_root root len some (omega (arith, less)) root_is (reversed_hashes proof all) leads is),
)

-- links up to the root of a list: the first root is that of its prefix, or a collision
abbrev LinksMeet : (List ℕ → List ℕ) → List (List ℕ) → ℕ → List ℕ → List Step → Type 0
LinksMeet H new old old_root links =
    (old ≤ length new) × ((old_root ≡ tree_hash H (take old new)) ⊎ Collision H (step_inputs H new old old_root links) (step_inputs H new old old_root links))

pub AcceptsConsistency-ordered : (H : Digest) (proof : List (List ℕ)) (size : ℕ) (root : List ℕ) (old : ℕ) (old_root : List ℕ) → AcceptsConsistency H proof size root old old_root → old ≤ size
unfolding AcceptsConsistency
AcceptsConsistency-ordered H proof size root old old_root (inl a) = omega (arith, a.0)
AcceptsConsistency-ordered H proof size root old old_root (inr (inl a)) = omega (arith, a.0)
AcceptsConsistency-ordered H proof size root old old_root (inr (inr a)) = omega (arith, a.1)

links_meet-link : (H : Digest) → ((message : List ℕ) → HasHashLength (H message)) → (new : List (List ℕ)) (old : ℕ) (old_root : List ℕ) (link : Step) (links : List Step)
    → HasHashLength old_root → MadeOfHashes link → AcceptsConsistency H link.proof link.size link.root old old_root
    → LinksMeet H new link.size link.root links → LinksMeet H new old old_root (link ∷ links)
unfolding step_inputs
links_meet-link H wide new old old_root link links root_is hashes accepted (within, inr found) =
    let meets : old ≤ link.size = AcceptsConsistency-ordered H link.proof link.size link.root old old_root accepted in
    let rest : List (List ℕ) = step_inputs H new link.size link.root links in
    let before : List (List ℕ) = inputs H (take link.size new) ++ fold_inputs H old link.size link.proof old_root in (
      omega (arith, meets, within),
      inr (Collision-among H rest rest (before ++ rest) (before ++ rest)
          (λ x here. Contains-append_right before rest x here) (λ x here. Contains-append_right before rest x here) found),
    )
links_meet-link H wide new old old_root link links root_is hashes accepted (within, inl is) =
    let part : List (List ℕ) = take link.size new in
    let folded : List (List ℕ) = fold_inputs H old link.size link.proof old_root in
    let rest : List (List ℕ) = step_inputs H new link.size link.root links in
    let len : length part ≡ link.size = length-take-le link.size new within in
    let meets = link_meets H wide link.proof link.size link.root old old_root part len is root_is hashes.1 accepted in (
      omega (arith, meets.0, within),
      elim meets.1 as (λ _. (old_root ≡ tree_hash H (take old new)) ⊎ Collision H (inputs H part ++ folded ++ rest) (inputs H part ++ folded ++ rest)) [
        | inl equal ↦ inl (equal ∙ ap (tree_hash H) (take-take old link.size new meets.0))
        | inr found ↦ inr (Collision-among H folded (inputs H part) (inputs H part ++ folded ++ rest) (inputs H part ++ folded ++ rest)
            (λ x here. Contains-append_left (inputs H part ++ folded) rest x (Contains-append_right (inputs H part) folded x here))
            (λ x here. Contains-append_left (inputs H part ++ folded) rest x (Contains-append_left (inputs H part) folded x here)) found)
      ],
    )

pub links_meet : (H : Digest) → ((message : List ℕ) → HasHashLength (H message)) → (new : List (List ℕ)) (links : List Step) (old : ℕ) (old_root : List ℕ)
    → HasHashLength old_root → All MadeOfHashes links → Linked H old old_root links → EndsWith old old_root links (length new) (tree_hash H new)
    → LinksMeet H new old old_root links
unfolding Linked EndsWith
links_meet H wide new [] old old_root root_is hashes linked ends =
    (omega (arith, ends.0), inl (ends.1 ∙ ap (tree_hash H) (sym (take_all old new (omega (arith, ends.0))))))
links_meet H wide new (link ∷ links) old old_root root_is hashes linked ends =
    let here : MadeOfHashes link = All-head MadeOfHashes link links hashes in
    links_meet-link H wide new old old_root link links root_is here linked.0
    (links_meet H wide new links link.size link.root here.0 (All-tail MadeOfHashes link links hashes) linked.1 ends)

pub links_extend_or_collide : LinksExtendOrCollide
unfolding audit_inputs
links_extend_or_collide H wide old new links hashes linked ends =
    let part : List (List ℕ) = take (length old) new in
    let rest : List (List ℕ) = step_inputs H new (length old) (tree_hash H old) links in
    let all : List (List ℕ) = inputs H old ++ inputs H new ++ inputs H part ++ rest in
    let meets = links_meet H wide new links (length old) (tree_hash H old) (length-tree_hash H wide old) hashes linked ends in
    elim meets.1 as (λ _. IsPrefix old new ⊎ Collision H all all) [
      | inr found ↦ inr (Collision-among H rest rest all all
          (λ x here. Contains-append_right (inputs H old ++ inputs H new ++ inputs H part) rest x here)
          (λ x here. Contains-append_right (inputs H old ++ inputs H new ++ inputs H part) rest x here) found)
      | inl equal ↦
          elim (same_or_collide H wide old part (sym (length-take-le (length old) new meets.0)) equal) as (λ _. IsPrefix old new ⊎ Collision H all all) [
            | inl prefix ↦ inl prefix
            | inr found ↦ inr (Collision-among H (inputs H old) (inputs H part) all all
                (λ x here. Contains-append_left (inputs H old ++ inputs H new ++ inputs H part) rest x
                (Contains-append_left (inputs H old ++ inputs H new) (inputs H part) x (Contains-append_left (inputs H old) (inputs H new) x here)))
                (λ x here. Contains-append_left (inputs H old ++ inputs H new ++ inputs H part) rest x
                (Contains-append_right (inputs H old ++ inputs H new) (inputs H part) x here)) found)
          ]
    ]
