-- Opening an operator, once its arguments are valid.
use Rattle.std.specs.Prelude.{◌≡◌, ℕ, List, [], None, ⊤}
use Rattle.tl_note.specs.Key.{SigningKey}
use Rattle.tl_publisher.specs.Signed.{no_quorum}
use Rattle.tl_publisher.specs.Operating.{Operated}
use Rattle.tl_publisher.specs.declared.fault.OperatorFault.{OperatorFault}
use Rattle.tl_publisher.specs.declared.fault.OperatorFault.TheVariants.{Place, OutOfMemory}

-- there is no place for a reader, or memory ran out
abbrev pub IsWant : OperatorFault → Type 0
IsWant Place = ⊤
IsWant OutOfMemory = ⊤
IsWant fault = ⊥

-- the operator has this origin and these signers, nothing is published or proposed, and no witness must cosign
pub record IsBegun {A : Type 0} (words : List ℕ) (keys : List SigningKey) (o : Operated A) : Type 0 where
  pub origin : o.origin ≡ words
  pub signers : o.signers ≡ keys
  pub free : o.quorum ≡ no_quorum
  pub unproposed : o.proposal ≡ None
  pub unpublished : o.past.log ≡ []
