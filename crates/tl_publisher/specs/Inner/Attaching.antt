-- The steps of attaching the lines of witnesses.
use Rattle.std.specs.Prelude.{◌≡◌, ℕ, List, ◌++◌, Result, Ok, Err, Some, slice_get}
use Rattle.std.specs.Global.{Vec}
use Rattle.std.specs.List.{AllZip, flat_map}
use Rattle.tl_note.specs.Note.{Signature, signature_line}
use Rattle.tl_note.specs.View.{AreLines}
use Rattle.tl_checkpoint.specs.declared.quorum.Cosigned.{Cosigned}
use Rattle.tl_publisher.specs.declared.fault.AttachFault.{AttachFault}
use Rattle.tl_publisher.specs.declared.fault.AttachFault.TheVariants as attach
use Rattle.tl_log.specs.Histories.{Prefix}
use Rattle.tl_publisher.specs.Operating.{Operated}
use Rattle.tl_publisher.specs.Proposing.{IsCosigned, AreTooFew}

-- `whole` is the note followed by the lines that were found
abbrev pub HasBehind : List ℕ → List Signature → List Cosigned → List ℕ → Type 0
HasBehind note lines found whole =
    (kept : List Signature) × AllZip (λ c line. slice_get lines c.line ≡ Some line) found kept × (whole ≡ note ++ flat_map signature_line kept)

-- the signature lines of a text, or why there are none
abbrev pub CutsLines : List ℕ → Result (Vec Signature) AttachFault → Type 0
CutsLines text (Ok lines) = AreLines text lines.items
CutsLines text (Err attach.Malformed) = (lines : List Signature) → AreLines text lines → ⊥
CutsLines text (Err attach.OutOfMemory) = (lines : List Signature) × AreLines text lines
CutsLines text (Err fault) = ⊥

-- the note with the lines of enough witnesses, or why there is none
abbrev pub CosignsNote : {A : Type 0} → List ℕ → Operated A → Prefix → Result (Vec ℕ) AttachFault → Type 0
CosignsNote text a q (Ok note) = (lines : List Signature) × AreLines text lines × IsCosigned a q lines note.items
CosignsNote text a q (Err attach.NoProposal) = ⊥
CosignsNote text a q (Err attach.Malformed) = (lines : List Signature) → AreLines text lines → ⊥
CosignsNote text a q (Err (attach.TooFew k)) = (lines : List Signature) × AreLines text lines × AreTooFew a q lines k
CosignsNote text a q (Err attach.OutOfMemory) = (lines : List Signature) × AreLines text lines
