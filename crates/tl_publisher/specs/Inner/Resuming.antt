-- The steps of resuming a log from a checkpoint that was published.
use Rattle.std.specs.Prelude.{ℕ, List, ⊤}
use Rattle.tl_note.specs.Key.{SigningKey}
use Rattle.tl_tile.specs.declared.bundle.BundleFault.{BundleFault}
use Rattle.tl_tile.specs.declared.bundle.BundleFault.TheVariants as bundle
use Rattle.tl_sequencer.specs.declared.fault.OpenFault.{OpenFault}
use Rattle.tl_sequencer.specs.declared.fault.OpenFault.TheVariants as sequencer
use Rattle.tl_publisher.specs.declared.fault.OperatorFault.{OperatorFault}
use Rattle.tl_publisher.specs.declared.fault.OperatorFault.TheVariants as operator
use Rattle.tl_publisher.specs.declared.fault.ResumeFault.{ResumeFault}
use Rattle.tl_publisher.specs.declared.fault.ResumeFault.TheVariants as resume
use Rattle.tl_publisher.specs.Resuming.{Resumption, ResumeRefuses, IsFirstBad}

-- the fault applies to this resumption, whoever signs the log and however it is opened
abbrev pub Refuses : Resumption → ResumeFault → Type 0
Refuses r fault = (signers : List SigningKey) (lanes capacity readers : ℕ) → ResumeRefuses r signers lanes capacity readers fault

-- the first bad bundle is at this position, or memory ran out
abbrev pub MissesBundle : List (List ℕ) → ℕ → ResumeFault → Type 0
MissesBundle bundles size (resume.Bundle place) = IsFirstBad bundles size place
MissesBundle bundles size resume.OutOfMemory = ⊤
MissesBundle bundles size fault = ⊥

-- the fault that a fault of the bundle at this position becomes
abbrev pub after_bundle : ℕ → BundleFault → ResumeFault
after_bundle place bundle.OutOfMemory = resume.OutOfMemory
after_bundle place fault = resume.Bundle place

-- the fault that a fault of opening the operator becomes
abbrev pub after_operator : OperatorFault → ResumeFault
after_operator operator.OutOfMemory = resume.OutOfMemory
after_operator fault = resume.Open fault

-- the fault that a fault of opening the sequencer becomes
abbrev pub after_sequencer : OpenFault → ResumeFault
after_sequencer sequencer.OutOfMemory = resume.OutOfMemory
after_sequencer fault = resume.Open (operator.Lanes fault)
