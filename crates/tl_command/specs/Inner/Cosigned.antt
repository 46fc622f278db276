-- Steps of opening a note under the key of a witness.
use Rattle.std.specs.Prelude.{◌≡◌, ℕ, ◌+◌, List, None, Result, Ok, Err, String, string_bytes}
use Rattle.tl_hash.specs.Bytes.{Bytes}
use Rattle.tl_note.specs.Key.{Key}
use Rattle.tl_note.specs.Note.{Signature, IsNote, HasNoNote}
use Rattle.tl_checkpoint.specs.Cosignature.{ChecksCosignature, IsCosignature}
use Rattle.tl_command.specs.OpenCosigned.{HasNoLine, IsFirst, IsMessageOf, IsOfNoLine, IsWrongAt}
use Rattle.tl_command.specs.declared.commands.cosigned.Found.{Found}
use Rattle.tl_command.specs.declared.commands.cosigned.Found.TheVariants.{Time, Wrong, Nothing}
use Rattle.tl_run.specs.declared.fault.RunFault.{RunFault}
use Rattle.tl_run.specs.declared.fault.RunFault.TheVariants.{Malformed, OutOfMemory, WrongSignature, Unverified}

-- what the first line of the key is to the text, among lines of which the first has the index `from`
abbrev pub Finds : Bytes → Key → List Signature → ℕ → Found → Type 0
Finds text key lines from (Time time) =
    (place : ℕ) × (line : Signature) × IsFirst key lines place line × IsCosignature text key line time
Finds text key lines from (Wrong at) =
    (place : ℕ) × (line : Signature) × IsFirst key lines place line × (at ≡ from + place) × ChecksCosignature text key line None
Finds text key lines from Nothing = HasNoLine key lines

-- the message that the key signed of a note, or why there is none; memory is needed only for a note
abbrev pub GivesMessage : {A : Type 0} → Key → Bytes → Result (String A) RunFault → Type 0
GivesMessage key note (Ok message) = IsMessageOf key note (string_bytes message)
GivesMessage key note (Err Malformed) = HasNoNote note
GivesMessage key note (Err (WrongSignature place)) = IsWrongAt key note place
GivesMessage key note (Err Unverified) = IsOfNoLine key note
GivesMessage key note (Err OutOfMemory) = IsNote note
GivesMessage key note (Err fault) = ⊥
