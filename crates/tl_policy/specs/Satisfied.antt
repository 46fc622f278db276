-- When a set of witnesses satisfies a policy (C2SP tlog-policy). The set is a list that says of each witness, by its
-- place, whether it is in it.
use Rattle.std.specs.Prelude.{◌≡◌, ℕ, Bool, true, false, List, [], ◌∷◌, ◌++◌, nat_le, count_by, take, slice_get, slice_index_or, MatchOption, Some}
use Rattle.std.specs.List.{fold}
use Rattle.std.specs.Option.{option_map_or}
use Rattle.tl_policy.specs.declared.policy.Member.{Member}
use Rattle.tl_policy.specs.declared.policy.Member.TheVariants.{Witness, Group}
use Rattle.tl_policy.specs.Terms.{GroupTerm, Terms}

-- a member is satisfied: it is a witness of the set, or a group that is satisfied
abbrev pub is_member_satisfied : List Bool → List Bool → Member → Bool
is_member_satisfied set groups (Witness place) = slice_index_or set place false
is_member_satisfied set groups (Group place) = slice_index_or groups place false

-- how many of these members are satisfied
abbrev pub count_satisfied : List Bool → List Bool → List Member → ℕ
count_satisfied set groups members = count_by (is_member_satisfied set groups) members

-- a group is satisfied: as many of its members are as its threshold says, or more
abbrev pub is_group_satisfied : List Bool → List Bool → GroupTerm → Bool
is_group_satisfied set groups g = nat_le g.threshold (count_satisfied set groups g.members)

-- which groups are, one after another, since the members of a group are witnesses and earlier groups
abbrev pub satisfied_groups : List Bool → List GroupTerm → List Bool
satisfied_groups set groups = fold (λ earlier g. earlier ++ is_group_satisfied set earlier g ∷ []) [] groups

-- the quorum is satisfied, or nobody has to be
abbrev pub is_satisfied : List Bool → Terms → Bool
is_satisfied set p = option_map_or (is_member_satisfied set (satisfied_groups set p.groups)) p.quorum true

-- how many of a group's members are satisfied, and how many have to be; a witness is its own and only member
abbrev pub IsShortOf : List Bool → List GroupTerm → Member → ℕ → ℕ → Type 0
IsShortOf set groups (Witness place) have want = (have ≡ 0) × (want ≡ 1)
IsShortOf set groups (Group place) have want =
    MatchOption (slice_get groups place) ((have ≡ 0) × (want ≡ 1))
    (λ g. (have ≡ count_satisfied set (take place (satisfied_groups set groups)) g.members) × (want ≡ g.threshold))

-- the quorum isn't satisfied: so many of its members are, and so many have to be
abbrev pub FallsShort : List Bool → Terms → ℕ → ℕ → Type 0
FallsShort set p have want = (is_satisfied set p ≡ false) × (m : Member) × (p.quorum ≡ Some m) × IsShortOf set p.groups m have want
