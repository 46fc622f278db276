-- Which groups of a policy are satisfied, each by what stands before it.
use Rattle.std.proofs.Common.{◌≡◌, ℕ, zero, suc, ◌+◌, ◌<◌, ◌≤◌, Bool, true, false, List, [], ◌∷◌, ◌++◌, length, get_or, map, take, refl, sym, ap, ◌∙◌, arith, vec_items, Option, Some}
use Rattle.std.specs.Prelude.{count_by, nat_le}
use Rattle.std.specs.List.{fold}
use Rattle.std.specs.Option.{option_map_or}
use Rattle.std.proofs.lemmas.List.{length-append, length-map, take-take, take_at, get_or-map, get_or-take, get_or_at, take_all}
use Rattle.tl_policy.specs.declared.policy.Member.{Member}
use Rattle.tl_policy.specs.declared.policy.PolicyGroup.{PolicyGroup}
use Rattle.tl_policy.specs.Terms.{GroupTerm, Terms, group_term}
use Rattle.tl_policy.specs.Satisfied.{is_group_satisfied, is_member_satisfied, is_satisfied, satisfied_groups}

-- one group more
abbrev pub next_group : List Bool → List Bool → GroupTerm → List Bool
next_group set earlier g = earlier ++ is_group_satisfied set earlier g ∷ []

-- what stands before the groups stays
pub earlier_stay : (set earlier : List Bool) (groups : List GroupTerm) → take (length earlier) (fold (next_group set) earlier groups) ≡ earlier
earlier_stay set earlier [] = take_all (length earlier) earlier (omega arith)
earlier_stay set earlier (g ∷ groups) =
    let more : List Bool = next_group set earlier g in
    let long : length more ≡ length earlier + 1 = length-append earlier (is_group_satisfied set earlier g ∷ []) in
    sym (take-take (length earlier) (length more) (fold (next_group set) more groups) (omega (arith, long)))
    ∙ ap (λ (t : List Bool). take (length earlier) t) (earlier_stay set more groups)
    ∙ take_at earlier (is_group_satisfied set earlier g ∷ []) (length earlier) refl

-- each is satisfied by what stands before it
pub each_group : (set earlier : List Bool) (groups : List GroupTerm) (place at : ℕ) (d : GroupTerm) → place < length groups → at ≡ length earlier + place
    → get_or (fold (next_group set) earlier groups) at false ≡ is_group_satisfied set (take at (fold (next_group set) earlier groups)) (get_or groups place d)
each_group set earlier [] place at d less is = absurd (omega arith)
each_group set earlier (g ∷ groups) zero at d less is =
    let more : List Bool = next_group set earlier g in
    let all : List Bool = fold (next_group set) more groups in
    let long : length more ≡ length earlier + 1 = length-append earlier (is_group_satisfied set earlier g ∷ []) in
    let here : at ≡ length earlier = omega (arith, is) in
    sym (get_or-take (length more) all at false (omega (arith, long, here)))
    ∙ ap (λ (t : List Bool). get_or t at false) (earlier_stay set more groups)
    ∙ get_or_at earlier (is_group_satisfied set earlier g) [] false at (sym here)
    ∙ ap (λ (t : List Bool). is_group_satisfied set t g) (sym (ap (λ (n : ℕ). take n all) here ∙ earlier_stay set earlier (g ∷ groups)))
each_group set earlier (g ∷ groups) (suc place) at d less is =
    let more : List Bool = next_group set earlier g in
    let long : length more ≡ length earlier + 1 = length-append earlier (is_group_satisfied set earlier g ∷ []) in
    each_group set more groups place at d (omega (arith, less)) (omega (arith, long, is))

-- the group at a place, by the groups before it
pub group_at : (set : List Bool) (groups : List GroupTerm) (place : ℕ) (d : GroupTerm) → place < length groups
    → get_or (satisfied_groups set groups) place false ≡ is_group_satisfied set (take place (satisfied_groups set groups)) (get_or groups place d)
group_at set groups place d less = each_group set [] groups place place d less (omega arith)

pub length_groups : (set earlier : List Bool) (groups : List GroupTerm) → length (fold (next_group set) earlier groups) ≡ length earlier + length groups
length_groups set earlier [] = omega arith
length_groups set earlier (g ∷ groups) =
    let long : length (next_group set earlier g) ≡ length earlier + 1 = length-append earlier (is_group_satisfied set earlier g ∷ []) in
    length_groups set (next_group set earlier g) groups ∙ omega (arith, long)

-- ---- as it is found

-- the group at a place of memory
pub group_result : {A : Type 0} (set : List Bool) (groups : List (PolicyGroup A)) (place count : ℕ) (group : PolicyGroup A) (r : Bool) → place < length groups → group ≡ get_or groups place group
    → count ≡ count_by (is_member_satisfied set (take place (satisfied_groups set (map group_term groups)))) (vec_items group.members) → r ≡ nat_le group.threshold count
    → r ≡ get_or (satisfied_groups set (map group_term groups)) place false
group_result {A} set groups place count group r less read counted is =
    let held : List Bool = satisfied_groups set (map group_term groups) in
    let term : group_term group ≡ get_or (map group_term groups) place (group_term group) = ap group_term read ∙ sym (get_or-map group_term groups place group (group_term group) less) in
    is ∙ ap (λ (n : ℕ). nat_le group.threshold n) counted
    ∙ ap (λ (g : GroupTerm). is_group_satisfied set (take place held) g) term
    ∙ sym (group_at set (map group_term groups) place (group_term group) (omega (arith, less, length-map groups (group_term {A = A}))))

-- all groups stand before their number
pub all_before : {A : Type 0} (set : List Bool) (groups : List (PolicyGroup A)) (count : ℕ) (m : Member) (r : Bool) → length groups ≤ count
    → r ≡ is_member_satisfied set (take count (satisfied_groups set (map group_term groups))) m → r ≡ is_member_satisfied set (satisfied_groups set (map group_term groups)) m
all_before {A} set groups count m r all is =
    let terms : List GroupTerm = map group_term groups in
    let long : length (satisfied_groups set terms) ≡ length groups = length_groups set [] terms ∙ omega (arith, length-map groups (group_term {A = A})) in
    is ∙ ap (λ (held : List Bool). is_member_satisfied set held m) (take_all count (satisfied_groups set terms) (omega (arith, all, long)))

-- who has to be satisfied is
pub quorum_found : {A : Type 0} (set : List Bool) (p : Terms) (items groups : List (PolicyGroup A)) (count : ℕ) (m : Member) (r : Bool) → groups ≡ items → p.groups ≡ map group_term items
    → length groups ≤ count → p.quorum ≡ Some m → r ≡ is_member_satisfied set (take count (satisfied_groups set (map group_term groups))) m → r ≡ is_satisfied set p
quorum_found {A} set p items groups count m r same shown all quorum is =
    all_before set groups count m r all is
    ∙ ap (λ (gs : List (PolicyGroup A)). is_member_satisfied set (satisfied_groups set (map group_term gs)) m) same
    ∙ ap (λ (ts : List GroupTerm). is_member_satisfied set (satisfied_groups set ts) m) (sym shown)
    ∙ sym (ap (λ (q : Option Member). option_map_or (is_member_satisfied set (satisfied_groups set p.groups)) q true) quorum)
