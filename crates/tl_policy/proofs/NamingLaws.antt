-- Who has a name, by whether a witness has it.
use Rattle.std.proofs.Common.{◌≡◌, ℕ, List, sym, ap, ◌∙◌, Option, Some}
use Rattle.std.specs.Prelude.{position, bytes_eq}
use Rattle.std.specs.Option.{option_map, option_or}
use Rattle.tl_policy.specs.declared.policy.Member.{Member}
use Rattle.tl_policy.specs.declared.policy.Member.TheVariants.{Witness, Group}
use Rattle.tl_policy.specs.Terms.{Terms}
use Rattle.tl_policy.specs.ReadPolicy.{member_named}

-- the member of what is found among witnesses and among groups
abbrev pub member_of : Option ℕ → Option ℕ → Option Member
member_of witness group = option_or (option_map (λ place. Witness place) witness) (option_map (λ place. Group place) group)

pub member_is : (p : Terms) (name : List ℕ) (witness group : Option ℕ) → position (λ w. bytes_eq w.name name) p.witnesses ≡ witness
    → position (λ g. bytes_eq g.name name) p.groups ≡ group → member_of witness group ≡ member_named p name
member_is p name witness group first second =
    sym (ap (λ (o : Option ℕ). member_of o (position (λ g. bytes_eq g.name name) p.groups)) first ∙ ap (λ (o : Option ℕ). member_of witness o) second)

-- a witness has it
pub member_first : (p : Terms) (name : List ℕ) (place : ℕ) → position (λ w. bytes_eq w.name name) p.witnesses ≡ Some place → Some (Witness place) ≡ member_named p name
member_first p name place first = sym (ap (λ (o : Option ℕ). member_of o (position (λ g. bytes_eq g.name name) p.groups)) first)
