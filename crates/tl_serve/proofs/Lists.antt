-- Submitters and the lists that they are to send, one pair more.
use Rattle.std.proofs.Common.{◌≡◌, ℕ, ◌+◌, ◌<◌, List, [], ◌∷◌, ◌++◌, Option, Some, None, map, vec_items, ap, refl, sym, ◌∙◌, subst, arith, append_assoc}
use Rattle.std.specs.Prelude.{MatchOption}
use Rattle.std.specs.Option.{unwrap_or}
use Rattle.std.specs.declared.vec.Vec.{Vec}
use Rattle.std.proofs.lemmas.List.{map_push}
use Rattle.tl_lines.specs.Dealt.{Deals}

-- the list that is taken is the first of those that are left, and this many others are left
pub first_list : {X : Type 0} (old new : List X) (old_len new_len : ℕ) (taken : Option X) (default first : X)
    → MatchOption taken ((old_len ≡ 0) × (new_len ≡ 0)) (λ x. (old ≡ x ∷ new) × (new_len + 1 ≡ old_len)) → 0 < old_len → first ≡ unwrap_or taken default
    → (old ≡ first ∷ new) × (new_len + 1 ≡ old_len)
first_list old new old_len new_len None default first step some is = absurd (omega (arith, step.0, some))
first_list old new old_len new_len (Some x) default first step some is = (step.0 ∙ ap (λ y. y ∷ new) (sym is), step.1)

-- one more has what is its own
pub one_paired : {S U : Type 0} (own : S → U) (lanes : List S) (lane : S) (left all : List U) (rest : List U) (u : U) → map own lanes ++ rest ≡ all → rest ≡ u ∷ left → own lane ≡ u
    → map own (lanes ++ lane ∷ []) ++ left ≡ all
one_paired own lanes lane left all rest u so_far next is =
    ap (λ l. l ++ left) (map_push own lanes lane) ∙ append_assoc (map own lanes) (own lane ∷ []) left
    ∙ ap (λ x. map own lanes ++ x ∷ left) is ∙ ap (λ l. map own lanes ++ l) (sym next) ∙ so_far

pub one_sent : {S X A : Type 0} (own : S → List X) (lanes : List S) (lane : S) (old new : List (Vec X A)) (first : Vec X A) (count : ℕ) (entries : List X)
    → Deals count entries (map own lanes ++ map vec_items old) → old ≡ first ∷ new → own lane ≡ vec_items first → Deals count entries (map own (lanes ++ lane ∷ []) ++ map vec_items new)
one_sent own lanes lane old new first count entries so_far next is =
    subst (λ ls. Deals count entries ls)
    (sym (one_paired own lanes lane (map vec_items new) (map own lanes ++ map vec_items old) (map vec_items old) (vec_items first) refl (ap (map vec_items) next) is)) so_far
