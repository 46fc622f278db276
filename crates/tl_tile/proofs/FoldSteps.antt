-- What the hashes of a run fold to, by parts.
use Rattle.std.proofs.Common.{◌≡◌, ℕ, suc, ◌+◌, ◌-◌, ◌*◌, ◌<◌, ◌≤◌, List, [], ◌∷◌, ◌++◌, length, take, drop, get_or, refl, sym, ap, subst, ◌∙◌, arith}
use Rattle.std.specs.Int.{IsPowerOfTwo}
use Rattle.std.proofs.Math.Seq.{take-suc}
use Rattle.std.proofs.lemmas.List.{drop-append-le, get_or_default, length-drop, length-take-le, length_push, take-append-le}
use Rattle.tl_hash.specs.Bytes.{Digest}
use Rattle.tl_hash.specs.Split.{IsSplit}
use Rattle.tl_hash.specs.Tree.{tree_hash, node_input}
use Rattle.tl_hash.proofs.SplitLemmas.{IsPowerOfTwo-twice, IsSplit-positive, IsSplit-twice}
use Rattle.tl_tile.specs.Inner.Run.{part}
use Rattle.tl_tile.specs.Inner.FoldsTo.{FoldsTo}
use Rattle.tl_tile.proofs.Runs.{run_of, run-left, run-right, run-node}

-- one hash is what it folds to
one-front : (x : List ℕ) (front : List (List ℕ)) (last : List ℕ) → x ∷ [] ≡ front ++ last ∷ [] → (front ≡ []) × (x ≡ last)
one-front x [] last same = (refl, ap (λ (xs : List (List ℕ)). get_or xs 0 x) same)
one-front x (y ∷ []) last same = absurd (omega (arith, ap length same))
one-front x (y ∷ z ∷ more) last same = absurd (omega (arith, ap length same))

pub folds-one : (H : Digest) (x : List ℕ) → FoldsTo H (x ∷ []) x
folds-one H x entries run front last same is =
    let parts = one-front x front last same in
    let none : (run.place + length front) * run.width ≡ run.place * run.width =
    ap (λ (n : ℕ). n * run.width) (omega (arith, ap length parts.0)) in
    parts.1 ∙ is.last_is ∙ ap (λ (start : ℕ). tree_hash H (part start run.end entries)) none

-- the first hashes of a list, the last of them apart
take-last : (k : ℕ) (xs : List (List ℕ)) → 0 < k → k ≤ length xs → take k xs ≡ take (k - 1) xs ++ get_or xs (k - 1) [] ∷ []
take-last k xs some within =
    let next : k ≡ suc (k - 1) = omega (arith, some) in
    ap (λ (n : ℕ). take n xs) next ∙ take-suc xs (k - 1) [] (omega (arith, some, within))

-- a run folds as its two parts do
pub folds-split : (H : Digest) (k : ℕ) (hashes : List (List ℕ)) (left right hash : List ℕ) → IsSplit k (length hashes)
    → FoldsTo H (take k hashes) left → FoldsTo H (drop k hashes) right → hash ≡ H (node_input left right) → FoldsTo H hashes hash
folds-split H k hashes left right hash split left_folds right_folds is entries run front last same run_is =
    let count : length hashes ≡ length front + 1 = ap length same ∙ length_push front last in
    let s : IsSplit k (length front + 1) = subst (IsSplit k) count split in
    let some = IsSplit-positive k (length front + 1) s in
    let within : k ≤ length front = omega (arith, s.below) in
    let own : List ℕ = get_or front (k - 1) [] in
    let own_is : own ≡ get_or front (k - 1) own = get_or_default front (k - 1) [] own (omega (arith, within, some)) in
    let left_part : take k hashes ≡ take (k - 1) front ++ own ∷ [] = ap (take k) same ∙ take-append-le k front (last ∷ []) within ∙ take-last k front some within in
    let right_part : drop k hashes ≡ drop k front ++ last ∷ [] = ap (drop k) same ∙ drop-append-le k front (last ∷ []) within in
    let first = run-left H entries run.width run.place run.end k front last own s own_is run_is in
    let second = run-right H entries run.width run.place run.end k front last s run_is in
    run-node H entries run.width run.place run.end k front last left right hash s run_is
    (left_folds entries (run_of run.width run.place ((run.place + k) * run.width)) (take (k - 1) front) own left_part first)
    (right_folds entries (run_of run.width (run.place + k) run.end) (drop k front) last right_part second)
    is

-- a list of one hash
pub folds-single : (H : Digest) (hashes : List (List ℕ)) (hash : List ℕ) → length hashes ≡ 1 → hash ≡ get_or hashes 0 hash → FoldsTo H hashes hash
folds-single H [] hash one is = absurd (omega (arith, one))
folds-single H (x ∷ []) hash one is = subst (FoldsTo H (x ∷ [])) (sym is) (folds-one H x)
folds-single H (x ∷ y ∷ more) hash one is = absurd (omega (arith, one))

-- of results that stand in lists
pub folds-parts : (H : Digest) (j k : ℕ) (hashes lefts rights nodes : List (List ℕ)) → IsSplit k (length hashes)
    → FoldsTo H (take k hashes) (get_or lefts j []) → FoldsTo H (drop k hashes) (get_or rights j [])
    → get_or nodes j [] ≡ H (node_input (get_or lefts j []) (get_or rights j [])) → FoldsTo H hashes (get_or nodes j [])
folds-parts H j k hashes lefts rights nodes split left_folds right_folds is =
    folds-split H k hashes (get_or lefts j []) (get_or rights j []) (get_or nodes j []) split left_folds right_folds is

-- of a result that stands in a list
pub folds-at : (H : Digest) (hashes four : List (List ℕ)) (j : ℕ) (other : List ℕ) → j < length four
    → FoldsTo H hashes (get_or four j []) → FoldsTo H hashes (get_or four j other)
folds-at H hashes four j other within = subst (FoldsTo H hashes) (sym (get_or_default four j other [] within))

-- hashes fold as their quarters do
pub folds-quarters : (H : Digest) (q : ℕ) (hashes : List (List ℕ)) (a b c d first second hash : List ℕ) → length hashes ≡ 4 * q → IsPowerOfTwo q → 0 < q
    → FoldsTo H (take q (take (2 * q) hashes)) a → FoldsTo H (drop q (take (2 * q) hashes)) b
    → FoldsTo H (take q (drop (2 * q) hashes)) c → FoldsTo H (drop q (drop (2 * q) hashes)) d
    → first ≡ H (node_input a b) → second ≡ H (node_input c d) → hash ≡ H (node_input first second) → FoldsTo H hashes hash
folds-quarters H q hashes a b c d first second hash len power some fold_a fold_b fold_c fold_d first_is second_is is =
    let left_len : length (take (2 * q) hashes) ≡ 2 * q = length-take-le (2 * q) hashes (omega (arith, len)) in
    let right_len : length (drop (2 * q) hashes) ≡ 2 * q = omega (arith, length-drop (2 * q) hashes, len) in
    let all_len : length hashes ≡ 2 * (2 * q) = omega (arith, len) in
    let half : IsSplit q (2 * q) = IsSplit-twice q power some in
    let whole : IsSplit (2 * q) (2 * (2 * q)) = IsSplit-twice (2 * q) (IsPowerOfTwo-twice q power) (omega (arith, some)) in
    folds-split H (2 * q) hashes first second hash (subst (IsSplit (2 * q)) (sym all_len) whole)
    (folds-split H q (take (2 * q) hashes) a b first (subst (IsSplit q) (sym left_len) half) fold_a fold_b first_is)
    (folds-split H q (drop (2 * q) hashes) c d second (subst (IsSplit q) (sym right_len) half) fold_c fold_d second_is)
    is
