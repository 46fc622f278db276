-- Runs that end before their input is answered: the call that failed says why.
use Rattle.std.proofs.Common.{◌≡◌, ◌∙◌, inl, List, ℕ, sym, subst}
use Rattle.std.specs.Prelude.{Option, Result, Ok, Err, IsErrAnd}
use Rattle.tl_hash.specs.Bytes.{Digest}
use Rattle.tl_note.specs.Key.{IsKeyName, Key}
use Rattle.tl_key.specs.NoteKey.{note_kind}
use Rattle.tl_device.specs.Device.{Passage, IsUnread, IsUnwritten, ReadWhole}
use Rattle.tl_device.specs.declared.fault.DeviceFault.{DeviceFault}
use Rattle.tl_device.specs.declared.fault.DeviceFault.TheVariants as device
use Rattle.tl_command.specs.AuditCommand.{AuditComes}
use Rattle.tl_command.specs.Build.{RunsBuild}
use Rattle.tl_command.specs.CheckOpened.{IsIdle, RunsCheckOpened, RunsUnder}
use Rattle.tl_run.specs.Faults.{after_device}
use Rattle.tl_run.specs.Keys.{IsFileFault, ReadsKey, ReadsPrivate}
use Rattle.tl_command.specs.Open.{OpensSigned}
use Rattle.tl_run.specs.Signing.{LogKey}
use Rattle.tl_command.specs.ProofCommands.{ChecksBy}
use Rattle.tl_command.specs.ProofText.{Proof}
use Rattle.tl_run.specs.Run.{Output, ReadingFails, Runs, most_input}
use Rattle.tl_command.specs.Entries.{ReadsEntries}
use Rattle.tl_command.specs.Signed.{RunsSigned}
use Rattle.tl_command.specs.Inner.Answers.{AnswersAuditText}
use Rattle.tl_command.specs.Inner.Checks.{FindsInText}
use Rattle.tl_command.specs.Inner.Notes.{OpensBytes}
use Rattle.tl_command.specs.Inner.Steps.{ReadsPath}
use Rattle.tl_run.specs.declared.fault.RunFault.{RunFault}
use Rattle.tl_run.specs.declared.place.Place.TheVariants.{File}
use Rattle.tl_run.specs.declared.fault.RunFault.TheVariants.{Refused, Read, Write, TooLarge, EntryTooLong, BadOrigin, BadIndex, BadOld, BadPath, NotThere, Malformed, Chain, Sign, Operator, Listen, Accept, OutOfMemory, BadName, BadKey, BadCheckpoint, WrongSignature, Unverified, Device, BadKeyFile, NothingThere}

-- the fault of a call is passed on
pub handed_on : (Holds : Result (Unit {0}) RunFault → Type 0) (r : Result (Unit {0}) RunFault) (given fault : RunFault) → IsErrAnd r (λ e. e ≡ given) → given ≡ fault → Holds (Err fault) → Holds r
handed_on Holds (Ok done) given fault is same holds = absurd is
handed_on Holds (Err e) given fault is same holds = subst (λ (f : RunFault). Holds (Err f)) (sym (is ∙ same)) holds

-- and if the fault itself is passed on
pub passed_on : {T : Type 0} (Holds : Result T RunFault → Type 0) (r : Result T RunFault) (fault : RunFault) → IsErrAnd r (λ e. e ≡ fault) → Holds (Err fault) → Holds r
passed_on Holds (Ok done) fault is holds = absurd is
passed_on Holds (Err e) fault is holds = subst (λ (f : RunFault). Holds (Err f)) (sym is) holds

-- the input can't be read
pub unread : (Comes : List ℕ → Output → Type 0) (i o : Passage) (fault : RunFault) → ReadingFails most_input i fault → IsUnwritten o → Runs Comes i o (Err fault)
unread Comes i o Refused fails none = absurd fails
unread Comes i o Read fails none = (fails, none)
unread Comes i o Write fails none = absurd fails
unread Comes i o TooLarge fails none = (fails, none)
unread Comes i o (EntryTooLong place) fails none = absurd fails
unread Comes i o BadOrigin fails none = absurd fails
unread Comes i o BadIndex fails none = absurd fails
unread Comes i o BadOld fails none = absurd fails
unread Comes i o BadPath fails none = absurd fails
unread Comes i o NotThere fails none = absurd fails
unread Comes i o Malformed fails none = absurd fails
unread Comes i o (Chain place) fails none = absurd fails
unread Comes i o Sign fails none = absurd fails
unread Comes i o Operator fails none = absurd fails
unread Comes i o Listen fails none = absurd fails
unread Comes i o Accept fails none = absurd fails
unread Comes i o OutOfMemory fails none = (fails.0, none, inl fails.1)
unread Comes i o BadName fails none = absurd fails
unread Comes i o BadKey fails none = absurd fails
unread Comes i o (BadCheckpoint place) fails none = absurd fails
unread Comes i o (WrongSignature place) fails none = absurd fails
unread Comes i o Unverified fails none = absurd fails
unread Comes i o (Device place why) fails none = absurd fails
unread Comes i o BadKeyFile fails none = absurd fails
unread Comes i o (NothingThere _) fails none = absurd fails

-- the entries can't be read, since the input can't
pub entries_unread : (A : Type 0) (most : ℕ) (p : Passage) (fault : RunFault) → ReadingFails most p fault → ReadsEntries {A = A} most p (Err fault)
entries_unread A most p Refused fails = absurd fails
entries_unread A most p Read fails = fails
entries_unread A most p Write fails = absurd fails
entries_unread A most p TooLarge fails = fails
entries_unread A most p (EntryTooLong place) fails = absurd fails
entries_unread A most p BadOrigin fails = absurd fails
entries_unread A most p BadIndex fails = absurd fails
entries_unread A most p BadOld fails = absurd fails
entries_unread A most p BadPath fails = absurd fails
entries_unread A most p NotThere fails = absurd fails
entries_unread A most p Malformed fails = absurd fails
entries_unread A most p (Chain place) fails = absurd fails
entries_unread A most p Sign fails = absurd fails
entries_unread A most p Operator fails = absurd fails
entries_unread A most p Listen fails = absurd fails
entries_unread A most p Accept fails = absurd fails
entries_unread A most p OutOfMemory fails = fails
entries_unread A most p BadName fails = absurd fails
entries_unread A most p BadKey fails = absurd fails
entries_unread A most p (BadCheckpoint place) fails = absurd fails
entries_unread A most p (WrongSignature place) fails = absurd fails
entries_unread A most p Unverified fails = absurd fails
entries_unread A most p (Device place why) fails = absurd fails
entries_unread A most p BadKeyFile fails = absurd fails
entries_unread A most p (NothingThere _) fails = absurd fails

-- no audit is read from it
pub audit_fails : (A : Type 0) (H : Digest) (i o : Passage) (input : List ℕ) (fault : RunFault) → ReadWhole i most_input input → IsUnwritten o → AnswersAuditText {A = A} H input (Err fault)
    → Runs (AuditComes H) i o (Err fault)
audit_fails A H i o input Refused whole none given = absurd given
audit_fails A H i o input Read whole none given = absurd given
audit_fails A H i o input Write whole none given = absurd given
audit_fails A H i o input TooLarge whole none given = absurd given
audit_fails A H i o input (EntryTooLong place) whole none given = absurd given
audit_fails A H i o input BadOrigin whole none given = absurd given
audit_fails A H i o input BadIndex whole none given = absurd given
audit_fails A H i o input BadOld whole none given = absurd given
audit_fails A H i o input BadPath whole none given = absurd given
audit_fails A H i o input NotThere whole none given = absurd given
audit_fails A H i o input Malformed whole none given = (record { input = input; whole = whole; so = given }, none)
audit_fails A H i o input (Chain place) whole none given = absurd given
audit_fails A H i o input Sign whole none given = absurd given
audit_fails A H i o input Operator whole none given = absurd given
audit_fails A H i o input Listen whole none given = absurd given
audit_fails A H i o input Accept whole none given = absurd given
audit_fails A H i o input OutOfMemory whole none given = (whole.steady, none, inl (input, whole.consumed, given))
audit_fails A H i o input BadName whole none given = absurd given
audit_fails A H i o input BadKey whole none given = absurd given
audit_fails A H i o input (BadCheckpoint place) whole none given = absurd given
audit_fails A H i o input (WrongSignature place) whole none given = absurd given
audit_fails A H i o input Unverified whole none given = absurd given
audit_fails A H i o input (Device place why) whole none given = absurd given
audit_fails A H i o input BadKeyFile whole none given = absurd given
audit_fails A H i o input (NothingThere _) whole none given = absurd given

-- no proof is found in it
pub finding_fails : (IsGood : Proof → Type 0) (i o : Passage) (input : List ℕ) (fault : RunFault) → ReadWhole i most_input input → IsUnwritten o → FindsInText input (Err fault)
    → Runs (ChecksBy IsGood) i o (Err fault)
finding_fails IsGood i o input Refused whole none given = absurd given
finding_fails IsGood i o input Read whole none given = absurd given
finding_fails IsGood i o input Write whole none given = absurd given
finding_fails IsGood i o input TooLarge whole none given = absurd given
finding_fails IsGood i o input (EntryTooLong place) whole none given = absurd given
finding_fails IsGood i o input BadOrigin whole none given = absurd given
finding_fails IsGood i o input BadIndex whole none given = absurd given
finding_fails IsGood i o input BadOld whole none given = absurd given
finding_fails IsGood i o input BadPath whole none given = absurd given
finding_fails IsGood i o input NotThere whole none given = absurd given
finding_fails IsGood i o input Malformed whole none given = (record { input = input; whole = whole; so = given }, none)
finding_fails IsGood i o input (Chain place) whole none given = absurd given
finding_fails IsGood i o input Sign whole none given = absurd given
finding_fails IsGood i o input Operator whole none given = absurd given
finding_fails IsGood i o input Listen whole none given = absurd given
finding_fails IsGood i o input Accept whole none given = absurd given
finding_fails IsGood i o input OutOfMemory whole none given = (whole.steady, none, inl (input, whole.consumed, given))
finding_fails IsGood i o input BadName whole none given = absurd given
finding_fails IsGood i o input BadKey whole none given = absurd given
finding_fails IsGood i o input (BadCheckpoint place) whole none given = absurd given
finding_fails IsGood i o input (WrongSignature place) whole none given = absurd given
finding_fails IsGood i o input Unverified whole none given = absurd given
finding_fails IsGood i o input (Device place why) whole none given = absurd given
finding_fails IsGood i o input BadKeyFile whole none given = absurd given
finding_fails IsGood i o input (NothingThere _) whole none given = absurd given

-- the path that is asked for is none
pub wanted_fails : (key : LogKey) (get : Option (List ℕ)) (i o : Passage) (fault : RunFault) → IsKeyName key.name → IsUnread i → IsUnwritten o → ReadsPath get (Err fault) → RunsBuild key get i o (Err fault)
wanted_fails key get i o Refused named unread none given = absurd given
wanted_fails key get i o Read named unread none given = absurd given
wanted_fails key get i o Write named unread none given = absurd given
wanted_fails key get i o TooLarge named unread none given = absurd given
wanted_fails key get i o (EntryTooLong place) named unread none given = absurd given
wanted_fails key get i o BadOrigin named unread none given = absurd given
wanted_fails key get i o BadIndex named unread none given = absurd given
wanted_fails key get i o BadOld named unread none given = absurd given
wanted_fails key get i o BadPath named unread none given = (named, given, unread, none)
wanted_fails key get i o NotThere named unread none given = absurd given
wanted_fails key get i o Malformed named unread none given = absurd given
wanted_fails key get i o (Chain place) named unread none given = absurd given
wanted_fails key get i o Sign named unread none given = absurd given
wanted_fails key get i o Operator named unread none given = absurd given
wanted_fails key get i o Listen named unread none given = absurd given
wanted_fails key get i o Accept named unread none given = absurd given
wanted_fails key get i o OutOfMemory named unread none given = absurd given
wanted_fails key get i o BadName named unread none given = absurd given
wanted_fails key get i o BadKey named unread none given = absurd given
wanted_fails key get i o (BadCheckpoint place) named unread none given = absurd given
wanted_fails key get i o (WrongSignature place) named unread none given = absurd given
wanted_fails key get i o Unverified named unread none given = absurd given
wanted_fails key get i o (Device place why) named unread none given = absurd given
wanted_fails key get i o BadKeyFile named unread none given = absurd given
wanted_fails key get i o (NothingThere _) named unread none given = absurd given

-- the file has no private key
pub private_fails : (origin bytes : List ℕ) (get : Option (List ℕ)) (i o : Passage) (fault : RunFault) → IsUnread i → IsUnwritten o → ReadsPrivate note_kind bytes (Err fault)
    → RunsSigned origin bytes get i o (Err fault)
private_fails origin bytes get i o Refused unread none given = absurd given
private_fails origin bytes get i o Read unread none given = absurd given
private_fails origin bytes get i o Write unread none given = absurd given
private_fails origin bytes get i o TooLarge unread none given = absurd given
private_fails origin bytes get i o (EntryTooLong place) unread none given = absurd given
private_fails origin bytes get i o BadOrigin unread none given = absurd given
private_fails origin bytes get i o BadIndex unread none given = absurd given
private_fails origin bytes get i o BadOld unread none given = absurd given
private_fails origin bytes get i o BadPath unread none given = absurd given
private_fails origin bytes get i o NotThere unread none given = absurd given
private_fails origin bytes get i o Malformed unread none given = absurd given
private_fails origin bytes get i o (Chain place) unread none given = absurd given
private_fails origin bytes get i o Sign unread none given = absurd given
private_fails origin bytes get i o Operator unread none given = absurd given
private_fails origin bytes get i o Listen unread none given = absurd given
private_fails origin bytes get i o Accept unread none given = absurd given
private_fails origin bytes get i o OutOfMemory unread none given = record { key = given.0; file = given.1; fact = (unread.1, none) }
private_fails origin bytes get i o BadName unread none given = absurd given
private_fails origin bytes get i o BadKey unread none given = absurd given
private_fails origin bytes get i o (BadCheckpoint place) unread none given = absurd given
private_fails origin bytes get i o (WrongSignature place) unread none given = absurd given
private_fails origin bytes get i o Unverified unread none given = absurd given
private_fails origin bytes get i o (Device place why) unread none given = absurd given
private_fails origin bytes get i o BadKeyFile unread none given = (given, unread, none)
private_fails origin bytes get i o (NothingThere _) unread none given = absurd given

-- the text is no key
pub key_fails : (text bytes : List ℕ) (entry : Option (List ℕ)) (i o : Passage) (fault : RunFault) → IsIdle i o → ReadsKey text (Err fault) → RunsCheckOpened text bytes entry i o (Err fault)
key_fails text bytes entry i o Refused idle given = absurd given
key_fails text bytes entry i o Read idle given = absurd given
key_fails text bytes entry i o Write idle given = absurd given
key_fails text bytes entry i o TooLarge idle given = absurd given
key_fails text bytes entry i o (EntryTooLong place) idle given = absurd given
key_fails text bytes entry i o BadOrigin idle given = absurd given
key_fails text bytes entry i o BadIndex idle given = absurd given
key_fails text bytes entry i o BadOld idle given = absurd given
key_fails text bytes entry i o BadPath idle given = absurd given
key_fails text bytes entry i o NotThere idle given = absurd given
key_fails text bytes entry i o Malformed idle given = absurd given
key_fails text bytes entry i o (Chain place) idle given = absurd given
key_fails text bytes entry i o Sign idle given = absurd given
key_fails text bytes entry i o Operator idle given = absurd given
key_fails text bytes entry i o Listen idle given = absurd given
key_fails text bytes entry i o Accept idle given = absurd given
key_fails text bytes entry i o OutOfMemory idle given = record { key = given.0; spelled = given.1; fact = (idle.0.1, idle.1) }
key_fails text bytes entry i o BadName idle given = absurd given
key_fails text bytes entry i o BadKey idle given = (given, idle)
key_fails text bytes entry i o (BadCheckpoint place) idle given = absurd given
key_fails text bytes entry i o (WrongSignature place) idle given = absurd given
key_fails text bytes entry i o Unverified idle given = absurd given
key_fails text bytes entry i o (Device place why) idle given = absurd given
key_fails text bytes entry i o BadKeyFile idle given = absurd given
key_fails text bytes entry i o (NothingThere _) idle given = absurd given

-- the bytes are no checkpoint that opens
pub checkpoint_fails : (A : Type 0) (bytes : List ℕ) (keys : List Key) (name : List ℕ) (entry : Option (List ℕ)) (i o : Passage) (fault : RunFault) → IsIdle i o → OpensBytes {A = A} bytes keys (Err fault)
    → RunsUnder bytes keys name entry i o (Err fault)
checkpoint_fails A bytes keys name entry i o Refused idle given = absurd given
checkpoint_fails A bytes keys name entry i o Read idle given = absurd given
checkpoint_fails A bytes keys name entry i o Write idle given = absurd given
checkpoint_fails A bytes keys name entry i o TooLarge idle given = absurd given
checkpoint_fails A bytes keys name entry i o (EntryTooLong place) idle given = absurd given
checkpoint_fails A bytes keys name entry i o BadOrigin idle given = absurd given
checkpoint_fails A bytes keys name entry i o BadIndex idle given = absurd given
checkpoint_fails A bytes keys name entry i o BadOld idle given = absurd given
checkpoint_fails A bytes keys name entry i o BadPath idle given = absurd given
checkpoint_fails A bytes keys name entry i o NotThere idle given = absurd given
checkpoint_fails A bytes keys name entry i o Malformed idle given = absurd given
checkpoint_fails A bytes keys name entry i o (Chain place) idle given = absurd given
checkpoint_fails A bytes keys name entry i o Sign idle given = absurd given
checkpoint_fails A bytes keys name entry i o Operator idle given = absurd given
checkpoint_fails A bytes keys name entry i o Listen idle given = absurd given
checkpoint_fails A bytes keys name entry i o Accept idle given = absurd given
checkpoint_fails A bytes keys name entry i o OutOfMemory idle given = (idle.0.1, idle.1)
checkpoint_fails A bytes keys name entry i o BadName idle given = absurd given
checkpoint_fails A bytes keys name entry i o BadKey idle given = absurd given
checkpoint_fails A bytes keys name entry i o (BadCheckpoint place) idle given = (given.0, given.1, idle)
checkpoint_fails A bytes keys name entry i o (WrongSignature place) idle given = (given, idle)
checkpoint_fails A bytes keys name entry i o Unverified idle given = (given, idle)
checkpoint_fails A bytes keys name entry i o (Device place why) idle given = absurd given
checkpoint_fails A bytes keys name entry i o BadKeyFile idle given = absurd given
checkpoint_fails A bytes keys name entry i o (NothingThere _) idle given = absurd given

-- the text is no key of a log that is opened
pub open_key_fails : (text : List ℕ) (i o : Passage) (fault : RunFault) → IsUnread i → IsUnwritten o → ReadsKey text (Err fault) → OpensSigned text i o (Err fault)
open_key_fails text i o Refused unread none given = absurd given
open_key_fails text i o Read unread none given = absurd given
open_key_fails text i o Write unread none given = absurd given
open_key_fails text i o TooLarge unread none given = absurd given
open_key_fails text i o (EntryTooLong place) unread none given = absurd given
open_key_fails text i o BadOrigin unread none given = absurd given
open_key_fails text i o BadIndex unread none given = absurd given
open_key_fails text i o BadOld unread none given = absurd given
open_key_fails text i o BadPath unread none given = absurd given
open_key_fails text i o NotThere unread none given = absurd given
open_key_fails text i o Malformed unread none given = absurd given
open_key_fails text i o (Chain place) unread none given = absurd given
open_key_fails text i o Sign unread none given = absurd given
open_key_fails text i o Operator unread none given = absurd given
open_key_fails text i o Listen unread none given = absurd given
open_key_fails text i o Accept unread none given = absurd given
open_key_fails text i o OutOfMemory unread none given = record { key = given.0; spelled = given.1; fact = (unread.1, none) }
open_key_fails text i o BadName unread none given = absurd given
open_key_fails text i o BadKey unread none given = (given, unread, none)
open_key_fails text i o (BadCheckpoint place) unread none given = absurd given
open_key_fails text i o (WrongSignature place) unread none given = absurd given
open_key_fails text i o Unverified unread none given = absurd given
open_key_fails text i o (Device place why) unread none given = absurd given
open_key_fails text i o BadKeyFile unread none given = absurd given
open_key_fails text i o (NothingThere _) unread none given = absurd given
