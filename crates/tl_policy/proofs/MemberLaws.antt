-- The members that a line names, one after another.
use Rattle.std.proofs.Common.{◌≡◌, ℕ, List, []}
use Rattle.std.specs.Prelude.{IsUtf8}
use Rattle.tl_policy.specs.declared.policy.Member.{Member}
use Rattle.tl_policy.specs.Terms.{Terms}
use Rattle.tl_policy.specs.PolicyText.{words_of}
use Rattle.tl_policy.specs.ReadPolicy.{members_from}

-- what is left goes on from the members that were read
pub record HasMembers (line : ℕ) (p : Terms) (names : List ℕ) (members : List Member) (left : List ℕ) : Type 0 where
  pub utf8 : IsUtf8 left
  pub same : members_from line p [] (words_of names) ≡ members_from line p members (words_of left)
