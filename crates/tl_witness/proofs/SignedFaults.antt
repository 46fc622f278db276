-- What it means that a note of a checkpoint isn't read.
use Rattle.std.proofs.Common.{◌≡◌, ◌↔◌, ℕ, List}
use Rattle.std.specs.Prelude.{Err}
use Rattle.tl_witness.specs.declared.request.RequestFault.{RequestFault}
use Rattle.tl_witness.specs.declared.request.RequestFault.TheVariants.{Malformed, OutOfMemory}
use Rattle.tl_witness.specs.Book.{Signed, IsSigned}
use Rattle.tl_witness.specs.Inner.ReadSigned.{ReadsSigned}

-- if the only other reason is memory, the bytes are none
pub signed_fault : (A : Type 0) (bytes : List ℕ) (IsMemory : Type 0) (fault : RequestFault)
    → ((fault ≡ OutOfMemory) ↔ IsMemory) → (¬ IsMemory → (signed : Signed) → ¬ (IsSigned bytes signed))
    → ReadsSigned {A = A} bytes (Err fault)
signed_fault A bytes IsMemory Malformed same none = none (λ is. let no : Malformed ≡ OutOfMemory = same.1 is in absurd cc)
signed_fault A bytes IsMemory OutOfMemory same none = tt
