-- What the parts of `build` return.
use Rattle.std.specs.Prelude.{◌≡◌, ℕ, List, length, Contains, None, Some, Option, Result, Ok, Err}
use Rattle.std.specs.declared.vec.Vec.{Vec}
use Rattle.tl_hash.specs.Bytes.{Bytes}
use Rattle.tl_tile.specs.declared.resource.Resource.{Resource}
use Rattle.tl_tile.specs.Path.{IsResource, path_text}
use Rattle.tl_run.specs.declared.fault.RunFault.{RunFault}
use Rattle.tl_run.specs.declared.fault.RunFault.TheVariants.{BadPath, NotThere, OutOfMemory}
use Rattle.tl_command.specs.Lines.{entries_of, first_too_long}
use Rattle.tl_run.specs.Run.{Output, Prints, PrintsRefusal, Fails}
use Rattle.tl_command.specs.Entries.{IsEntryFault}
use Rattle.tl_run.specs.Signing.{LogKey, checkpoint_note}
use Rattle.tl_command.specs.Mirror.{mirrored, resource_text, listing_text}
use Rattle.tl_command.specs.Build.{IsLawfulPath}

-- the resource with the path asked for
abbrev pub IsAsked : Option Bytes → Option Resource → Type 0
IsAsked None None = Unit {0}
IsAsked None (Some r) = ⊥
IsAsked (Some path) None = ⊥
IsAsked (Some path) (Some r) = IsResource r × (path_text r ≡ path)

-- reading the path asked for
abbrev pub ReadsPath : Option Bytes → Result (Option Resource) RunFault → Type 0
ReadsPath get (Ok wanted) = IsAsked get wanted
ReadsPath get (Err BadPath) = ¬ (IsLawfulPath get)
ReadsPath get (Err fault) = ⊥

-- the resource asked for, if one is, is among these
abbrev pub IsServed : List Resource → Option Resource → Type 0
IsServed resources None = Unit {0}
IsServed resources (Some r) = Contains resources r

-- what is shown of the log of these entries: the listing, or the resource asked for
abbrev pub IsShown : Bytes → List Bytes → Option Resource → Bytes → Type 0
IsShown note entries None text = text ≡ listing_text note entries (mirrored (length entries))
IsShown note entries (Some r) text = Contains (mirrored (length entries)) r × (text ≡ resource_text note entries r)

-- what is shown, or that the log has no such resource
abbrev pub AnswersWanted : {A : Type 0} → Bytes → List Bytes → Option Resource → Result (Vec ℕ A) RunFault → Type 0
AnswersWanted note entries wanted (Ok text) = IsShown note entries wanted text.items
AnswersWanted note entries wanted (Err NotThere) = ¬ (IsServed (mirrored (length entries)) wanted)
AnswersWanted note entries wanted (Err OutOfMemory) = Unit {0}
AnswersWanted note entries wanted (Err fault) = ⊥

-- the output for an input if this resource, or the listing, is asked for
abbrev pub WantedComes : LogKey → Option Resource → Bytes → Output → Type 0
WantedComes key wanted input (Prints text) =
    (first_too_long (entries_of input) ≡ None) × IsShown (checkpoint_note key (entries_of input)) (entries_of input) wanted text
WantedComes key wanted input (PrintsRefusal text) = ⊥
WantedComes key wanted input (Fails NotThere) =
    (first_too_long (entries_of input) ≡ None) × ¬ (IsServed (mirrored (length (entries_of input))) wanted)
WantedComes key wanted input (Fails fault) = IsEntryFault (entries_of input) fault
