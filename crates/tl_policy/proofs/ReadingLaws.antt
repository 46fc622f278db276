-- Reading the lines of a text, one after another.
use Rattle.std.proofs.Common.{ℕ, ◌+◌, List, length, Result}
use Rattle.std.specs.Prelude.{◌≤◌, IsUtf8}
use Rattle.tl_policy.specs.declared.fault.PolicyFault.{PolicyFault}
use Rattle.tl_policy.specs.Terms.{Terms}
use Rattle.tl_policy.specs.PolicyText.{lines_of}
use Rattle.tl_policy.specs.ReadPolicy.{Draft, ReadsLines, ReadsPolicy}

-- what comes of the lines that are left comes of the text
pub record HasRead (text : List ℕ) (count : ℕ) (draft : Draft) (left : List ℕ) : Type 0 where
  pub utf8 : IsUtf8 left
  pub few : count + length left ≤ length text
  pub on : (r : Result Terms PolicyFault) → ReadsLines (count + 1) draft (lines_of left) r → ReadsPolicy text r
