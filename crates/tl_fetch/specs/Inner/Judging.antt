-- Two checkpoints as the code has them, and how it judges them.
use Rattle.std.specs.Prelude.{◌≡◌, ◌⊎◌, ℕ, [], Option, Some, None}
use Rattle.sha2.specs.Sha256.{sha256}
use Rattle.tl_hash.specs.Bytes.{Bytes}
use Rattle.tl_hash.specs.declared.head.Head.{Head}
use Rattle.tl_device.specs.Device.{Passage, IsUnwritten}
use Rattle.tl_tile.specs.declared.resource.Resource.{Resource}
use Rattle.tl_proof.specs.Acceptance.{AcceptsConsistency}
use Rattle.tl_checkpoint.specs.Checkpoint as checkpoint
use Rattle.tl_command.specs.ProofText.{Consistency}
use Rattle.tl_fork.specs.Evidence.{Disagree}
use Rattle.tl_fetch.specs.declared.fault.FetchFault.{FetchFault}
use Rattle.tl_fetch.specs.declared.fault.FetchFault.TheVariants.{Run, Forked}
use Rattle.tl_fetch.specs.Evidence.{evidence_text}
use Rattle.tl_fetch.specs.Faults.{bad_checkpoint}
use Rattle.tl_fetch.specs.Fetching.{IsUnaccused}
use Rattle.tl_fetch.specs.Printed.{FailsWriting, PrintedSome, PrintedWhole}
use Rattle.tl_fetch.specs.Trusting.{Two}

abbrev pub two_of : Option Bytes → Head → Bytes → Head → Two
two_of last old note new = record { last = last; old = old; note = note; new = new }

-- a checkpoint of a size and a root and nothing else
abbrev pub bare : Head → checkpoint.Head
bare head = record { origin = []; size = head.size; root = head.root; extensions = [] }

-- an accepted consistency proof to the larger tree, from a root at this size
pub record LeadsTo (old : ℕ) (larger : Head) (p : Consistency) : Type 0 where
  pub old_is : p.old ≡ old
  pub size_is : p.size ≡ larger.size
  pub root_is : p.root ≡ larger.root
  pub accepted : AcceptsConsistency sha256 p.proof p.size p.root p.old p.old_root

-- two heads disagree, and both notes were printed with what shows it, or the writer failed after some of that; or
-- there is only one note
abbrev pub Accuses : Two → FetchFault → Passage → Type 0
Accuses two fault o =
    (shown : Bytes) × Disagree (bare two.old) (bare two.new) shown
    × (((two.last ≡ None) × (fault ≡ Run bad_checkpoint) × IsUnwritten o)
    ⊎ ((last : Bytes) × (two.last ≡ Some last)
    × (((fault ≡ Forked) × PrintedWhole (λ text. text ≡ evidence_text last two.note shown) o)
    ⊎ (FailsWriting fault o × PrintedSome (λ text. text ≡ evidence_text last two.note shown) o))))

-- one of the two doesn't extend the other
abbrev pub JudgesTwo : (Resource → Bytes → Type 0) → (Resource → Type 0) → Two → FetchFault → Passage → Type 0
JudgesTwo answers lacks two fault o = Accuses two fault o ⊎ (IsUnaccused answers lacks two fault × IsUnwritten o)
