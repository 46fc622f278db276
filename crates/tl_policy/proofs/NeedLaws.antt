-- This many of given witnesses.
use Rattle.std.proofs.Common.{◌≡◌, ℕ, ◌+◌, Bool, false, cond, List, [], ◌∷◌, ◌++◌, length, get_or, map, refl, sym, ap, ◌∙◌, append_assoc, arith}
use Rattle.std.specs.Prelude.{count_by, nat_le}
use Rattle.std.specs.List.{enumerate_from}
use Rattle.std.proofs.lemmas.List.{get_or_at, length-append}
use Rattle.std.proofs.lemmas.List.Sums.{sum_by-cons}
use Rattle.tl_policy.specs.declared.policy.Member.TheVariants.{Witness}
use Rattle.tl_policy.specs.Terms.{LogTerm, WitnessTerm}
use Rattle.tl_policy.specs.Satisfied.{is_member_satisfied, is_satisfied}
use Rattle.tl_policy.specs.Need.{need_terms}

-- those of the set, counted by their places
count_placed : (before rest : List Bool) (witnesses : List WitnessTerm) (n : ℕ) → length before ≡ n → length rest ≡ length witnesses
    → count_by (is_member_satisfied (before ++ rest) []) (map (λ w. Witness w.0) (enumerate_from n witnesses)) ≡ count_by (λ there. there) rest
count_placed before [] [] n at long = refl
count_placed before [] (w ∷ witnesses) n at long = absurd (omega (arith, long))
count_placed before (b ∷ rest) [] n at long = absurd (omega (arith, long))
count_placed before (b ∷ rest) (w ∷ witnesses) n at long =
    let here : get_or (before ++ b ∷ rest) n false ≡ b = get_or_at before b rest false n at in
    let longer : length (before ++ b ∷ []) ≡ n + 1 = omega (arith, length-append before (b ∷ []), at) in
    let later : count_by (is_member_satisfied (before ++ b ∷ rest) []) (map (λ w. Witness w.0) (enumerate_from (n + 1) witnesses)) ≡ count_by (λ there. there) rest
    = ap (λ (set : List Bool). count_by (is_member_satisfied set []) (map (λ w. Witness w.0) (enumerate_from (n + 1) witnesses))) (sym (append_assoc before (b ∷ []) rest))
    ∙ count_placed (before ++ b ∷ []) rest witnesses (n + 1) longer (omega (arith, long)) in
    sum_by-cons (λ m. cond (is_member_satisfied (before ++ b ∷ rest) [] m) 1 0) (Witness n) (map (λ w. Witness w.0) (enumerate_from (n + 1) witnesses))
    ∙ ap (λ (c : Bool). cond c 1 0 + count_by (is_member_satisfied (before ++ b ∷ rest) []) (map (λ w. Witness w.0) (enumerate_from (n + 1) witnesses))) here
    ∙ ap (λ (k : ℕ). cond b 1 0 + k) later ∙ sym (sum_by-cons (λ there. cond there 1 0) b rest)

pub need_satisfied : (count : ℕ) (logs : List LogTerm) (witnesses : List WitnessTerm) (set : List Bool) → length set ≡ length witnesses
    → is_satisfied set (need_terms count logs witnesses) ≡ nat_le count (count_by (λ there. there) set)
need_satisfied count logs witnesses set long = ap (λ (k : ℕ). nat_le count k) (count_placed [] set witnesses 0 refl long)
