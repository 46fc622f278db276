-- More witnesses satisfy no less.
use Rattle.std.proofs.Common.{◌≡◌, ℕ, zero, suc, ◌≤◌, Bool, true, false, cond, List, [], ◌∷◌, get_or, refl, arith, Option, None, Some}
use Rattle.std.specs.Prelude.{count_by}
use Rattle.std.specs.List.{AllZip, fold}
use Rattle.std.proofs.lemmas.Bool.{leb-true, le-leb}
use Rattle.std.proofs.lemmas.List.Elements.{AllZip-push}
use Rattle.std.proofs.lemmas.List.Sums.{sum_by-cons}
use Rattle.tl_policy.specs.declared.policy.Member.{Member}
use Rattle.tl_policy.specs.declared.policy.Member.TheVariants.{Witness, Group}
use Rattle.tl_policy.specs.Terms.{GroupTerm, Terms}
use Rattle.tl_policy.specs.Satisfied.{is_group_satisfied, is_member_satisfied, is_satisfied, satisfied_groups}
use Rattle.tl_policy.proofs.SatisfiedLaws.{next_group}

-- what is true of the first is true of the second
abbrev pub Implies : Bool → Bool → Type 0
Implies a b = a ≡ true → b ≡ true

counts_no_less : (a b : Bool) → Implies a b → cond a 1 0 ≤ cond b 1 0
counts_no_less false false so = omega arith
counts_no_less false true so = omega arith
counts_no_less true true so = omega arith
counts_no_less true false so = absurd (let t : false ≡ true = so refl in cc)

pub count_more : {X : Type 0} (p q : X → Bool) → ((x : X) → Implies (p x) (q x)) → (xs : List X) → count_by p xs ≤ count_by q xs
count_more p q so [] = omega arith
count_more p q so (x ∷ xs) =
    omega (arith, counts_no_less (p x) (q x) (so x), count_more p q so xs, sum_by-cons (λ y. cond (p y) 1 0) x xs, sum_by-cons (λ y. cond (q y) 1 0) x xs)

implied_at : (xs ys : List Bool) → AllZip Implies xs ys → (i : ℕ) → Implies (get_or xs i false) (get_or ys i false)
implied_at [] [] all i t = t
implied_at [] (y ∷ ys) all i t = absurd all
implied_at (x ∷ xs) [] all i t = absurd all
implied_at (x ∷ xs) (y ∷ ys) all zero t = all.0 t
implied_at (x ∷ xs) (y ∷ ys) all (suc i) t = implied_at xs ys all.1 i t

module _ (set more : List Bool) (so : (place : ℕ) → Implies (get_or set place false) (get_or more place false)) where
  member_more : (groups others : List Bool) → AllZip Implies groups others → (m : Member) → Implies (is_member_satisfied set groups m) (is_member_satisfied more others m)
  member_more groups others all (Witness place) = so place
  member_more groups others all (Group place) = implied_at groups others all place

  group_more : (groups others : List Bool) → AllZip Implies groups others → (g : GroupTerm) → Implies (is_group_satisfied set groups g) (is_group_satisfied more others g)
  group_more groups others all g t =
      let few : g.threshold ≤ count_by (is_member_satisfied set groups) g.members = leb-true g.threshold (count_by (is_member_satisfied set groups) g.members) t in
      let no_less = count_more (is_member_satisfied set groups) (is_member_satisfied more others) (member_more groups others all) g.members in
      le-leb g.threshold (count_by (is_member_satisfied more others) g.members) (omega (arith, few, no_less))

  groups_more : (groups others : List Bool) → AllZip Implies groups others → (gs : List GroupTerm) → AllZip Implies (fold (next_group set) groups gs) (fold (next_group more) others gs)
  groups_more groups others all [] = all
  groups_more groups others all (g ∷ gs) =
      groups_more (next_group set groups g) (next_group more others g)
      (AllZip-push Implies groups others (is_group_satisfied set groups g) (is_group_satisfied more others g) all (group_more groups others all g)) gs

  quorum_more : (gs : List GroupTerm) (quorum : Option Member) → Implies (is_satisfied set (record { logs = []; witnesses = []; groups = gs; quorum = quorum })) (is_satisfied more (record { logs = []; witnesses = []; groups = gs; quorum = quorum }))
  quorum_more gs None t = t
  quorum_more gs (Some m) t = member_more (satisfied_groups set gs) (satisfied_groups more gs) (groups_more [] [] tt gs) m t

pub more_satisfy : (set more : List Bool) (p : Terms) → ((place : ℕ) → get_or set place false ≡ true → get_or more place false ≡ true) → is_satisfied set p ≡ true → is_satisfied more p ≡ true
more_satisfy set more p so t = quorum_more set more so p.groups p.quorum t
