-- Runs of `open` and of `check` against a checkpoint, from what was opened.
use Rattle.std.proofs.Common.{◌≡◌, ℕ, inl, List, [], ◌∷◌, sym, subst}
use Rattle.std.specs.Prelude.{Option, Result, Ok, Err, OnOk, OnErr, IfErr}
use Rattle.tl_device.specs.Device.{Passage, IsUnwritten, ReadWhole, WroteWhole, WrotePart}
use Rattle.tl_note.specs.Key.{Key}
use Rattle.tl_note.specs.Note.{Note}
use Rattle.tl_note.specs.OpenNote.{OpensNote}
use Rattle.tl_note.specs.declared.fault.NoteFault.{NoteFault}
use Rattle.tl_note.specs.declared.open.OpenedNote.{OpenedNote}
use Rattle.tl_note.specs.declared.fault.NoteFault.TheVariants as note
use Rattle.tl_key.specs.KeyText.{IsVerifierText}
use Rattle.tl_key.specs.NoteKey.{PublicKey, note_kind, verifier_key}
use Rattle.tl_checkpoint.specs.Checkpoint.{Head}
use Rattle.tl_checkpoint.specs.OpenCheckpoint.{IsSignedCheckpoint}
use Rattle.tl_command.specs.ProofCommands.{CheckAboutComes}
use Rattle.tl_run.specs.Run.{Output, Prints, Runs, CameOf, most_input}
use Rattle.tl_run.specs.declared.fault.RunFault.{RunFault}
use Rattle.tl_run.specs.declared.fault.RunFault.TheVariants.{Refused, Read, Write, TooLarge, EntryTooLong, BadOrigin, BadIndex, BadOld, BadPath, NotThere, Malformed, Chain, Sign, Operator, Listen, Accept, OutOfMemory, BadName, BadKey, BadCheckpoint, WrongSignature, Unverified, Device, BadKeyFile, NothingThere}
use Rattle.tl_command.specs.Open.{IsOpened, OpenComes, OpensSigned, after_note}
use Rattle.tl_command.specs.CheckOpened.{RunsUnder, RunsCheckOpened, subject_of}
use Rattle.tl_command.proofs.NoteBytes.{note_some}

-- a run prints the output for its input
pub printed : (Comes : List ℕ → Output → Type 0) (i o : Passage) (text : List ℕ) (r : Result (Unit {0}) RunFault) → CameOf Comes i (Prints text)
    → OnOk r (WroteWhole o text) → IfErr r (λ fault. fault ≡ Write) → OnErr r (WrotePart o text) → Runs Comes i o r
printed Comes i o text (Ok done) came whole failed part = record { text = text; came = came; written = whole }
printed Comes i o text (Err fault) came whole failed part =
    subst (λ (f : RunFault). Runs Comes i o (Err f)) (sym failed) (record { text = text; came = inl came; part = part })

-- a note that doesn't open is refused
pub note_fails : (A : Type 0) (keys : List Key) (i o : Passage) (input : List ℕ) (fault : NoteFault) → ReadWhole i most_input input → IsUnwritten o
    → OpensNote {A = A} input keys (Err fault) → Runs (OpenComes keys) i o (Err (after_note fault))
note_fails A keys i o input note.Malformed whole none given = (record { input = input; whole = whole; so = given }, none)
note_fails A keys i o input (note.BadName place) whole none given = absurd given
note_fails A keys i o input (note.Ambiguous place) whole none given =
    (record { input = input; whole = whole; so = record { text = given.0; lines = given.1; noted = given.3; wrong = given.2; first = given.4; place_is = given.5 } }, none)
note_fails A keys i o input (note.InvalidSignature place) whole none given =
    (record { input = input; whole = whole; so = record { text = given.0; lines = given.1; noted = given.3; wrong = given.2; first = given.4; place_is = given.5 } }, none)
note_fails A keys i o input note.Unverified whole none given =
    (record { input = input; whole = whole; so = record { text = given.0; lines = given.1; noted = given.2; none = given.3 } }, none)
note_fails A keys i o input (note.Sign place) whole none given = absurd given
note_fails A keys i o input note.OutOfMemory whole none given =
    (whole.steady, none, inl (input, whole.consumed, note_some input given.0 given.1 given.2))

-- the same for what was opened, of the text that the input is
pub note_refused : (A : Type 0) (keys : List Key) (i o : Passage) (input message : List ℕ) (fault : NoteFault) (answer : RunFault) → answer ≡ after_note fault → message ≡ input
    → ReadWhole i most_input input → IsUnwritten o → OpensNote {A = A} message keys (Err fault) → Runs (OpenComes keys) i o (Err answer)
note_refused A keys i o input message fault answer told same whole none given =
    subst (λ (f : RunFault). Runs (OpenComes keys) i o (Err f)) (sym told)
    (note_fails A keys i o input fault whole none (subst (λ (bytes : List ℕ). OpensNote {A = A} bytes keys (Err fault)) same given))

-- a note that opens is printed
pub note_printed : (A : Type 0) (keys : List Key) (i o : Passage) (input message text : List ℕ) (opened : OpenedNote A) (r : Result (Unit {0}) RunFault) → message ≡ input
    → ReadWhole i most_input input → OpensNote {A = A} message keys (Ok opened) → text ≡ opened.note.text.now
    → OnOk r (WroteWhole o text) → IfErr r (λ fault. fault ≡ Write) → OnErr r (WrotePart o text) → Runs (OpenComes keys) i o r
note_printed A keys i o input message text opened r same whole given spelled =
    let note : Note input opened.note.text.now opened.note.signatures.items = subst (λ (bytes : List ℕ). Note bytes opened.note.text.now opened.note.signatures.items) same given.note in
    let is : IsOpened keys input opened.note.text.now = record { lines = opened.note.signatures.items; noted = note; opens = given.opens } in
    printed (OpenComes keys) i o text r (record { input = input; whole = whole; so = subst (IsOpened keys input) (sym spelled) is })

-- a run under the key that a text is of
pub runs_open : (text : List ℕ) (k : PublicKey) (i o : Passage) (r : Result (Unit {0}) RunFault) → IsVerifierText note_kind text k
    → Runs (OpenComes (verifier_key k ∷ [])) i o r → OpensSigned text i o r
runs_open text k i o (Ok done) spelled runs = record { key = k; spelled = spelled; fact = runs }
runs_open text k i o (Err Refused) spelled runs = record { key = k; spelled = spelled; fact = runs }
runs_open text k i o (Err Read) spelled runs = record { key = k; spelled = spelled; fact = runs }
runs_open text k i o (Err Write) spelled runs = record { key = k; spelled = spelled; fact = runs }
runs_open text k i o (Err TooLarge) spelled runs = record { key = k; spelled = spelled; fact = runs }
runs_open text k i o (Err (EntryTooLong place)) spelled runs = record { key = k; spelled = spelled; fact = runs }
runs_open text k i o (Err BadOrigin) spelled runs = record { key = k; spelled = spelled; fact = runs }
runs_open text k i o (Err BadIndex) spelled runs = record { key = k; spelled = spelled; fact = runs }
runs_open text k i o (Err BadOld) spelled runs = record { key = k; spelled = spelled; fact = runs }
runs_open text k i o (Err BadPath) spelled runs = record { key = k; spelled = spelled; fact = runs }
runs_open text k i o (Err NotThere) spelled runs = record { key = k; spelled = spelled; fact = runs }
runs_open text k i o (Err Malformed) spelled runs = record { key = k; spelled = spelled; fact = runs }
runs_open text k i o (Err (Chain place)) spelled runs = record { key = k; spelled = spelled; fact = runs }
runs_open text k i o (Err Sign) spelled runs = record { key = k; spelled = spelled; fact = runs }
runs_open text k i o (Err Operator) spelled runs = record { key = k; spelled = spelled; fact = runs }
runs_open text k i o (Err Listen) spelled runs = record { key = k; spelled = spelled; fact = runs }
runs_open text k i o (Err Accept) spelled runs = record { key = k; spelled = spelled; fact = runs }
runs_open text k i o (Err (Device place why)) spelled runs = record { key = k; spelled = spelled; fact = runs }
runs_open text k i o (Err OutOfMemory) spelled runs = record { key = k; spelled = spelled; fact = (runs.0, runs.1) }
runs_open text k i o (Err BadName) spelled runs = record { key = k; spelled = spelled; fact = runs }
runs_open text k i o (Err BadKey) spelled runs = absurd runs.0.so
runs_open text k i o (Err BadKeyFile) spelled runs = record { key = k; spelled = spelled; fact = runs }
runs_open text k i o (Err (NothingThere _)) spelled runs = record { key = k; spelled = spelled; fact = runs }
runs_open text k i o (Err (BadCheckpoint place)) spelled runs = record { key = k; spelled = spelled; fact = runs }
runs_open text k i o (Err (WrongSignature place)) spelled runs = record { key = k; spelled = spelled; fact = runs }
runs_open text k i o (Err Unverified) spelled runs = record { key = k; spelled = spelled; fact = runs }

-- a run against the checkpoint that bytes are
pub runs_under : (bytes : List ℕ) (keys : List Key) (name : List ℕ) (entry : Option (List ℕ)) (c : Head) (i o : Passage) (r : Result (Unit {0}) RunFault) → IsSignedCheckpoint bytes keys c → c.origin ≡ name
    → Runs (CheckAboutComes (subject_of c entry)) i o r → RunsUnder bytes keys name entry i o r
runs_under bytes keys name entry c i o (Ok done) signed named runs = record { checkpoint = c; signed = signed; named = named; runs = runs }
runs_under bytes keys name entry c i o (Err Refused) signed named runs = record { checkpoint = c; signed = signed; named = named; runs = runs }
runs_under bytes keys name entry c i o (Err Read) signed named runs = record { checkpoint = c; signed = signed; named = named; runs = runs }
runs_under bytes keys name entry c i o (Err Write) signed named runs = record { checkpoint = c; signed = signed; named = named; runs = runs }
runs_under bytes keys name entry c i o (Err TooLarge) signed named runs = record { checkpoint = c; signed = signed; named = named; runs = runs }
runs_under bytes keys name entry c i o (Err (EntryTooLong place)) signed named runs = record { checkpoint = c; signed = signed; named = named; runs = runs }
runs_under bytes keys name entry c i o (Err BadOrigin) signed named runs = absurd runs.0.so
runs_under bytes keys name entry c i o (Err BadIndex) signed named runs = record { checkpoint = c; signed = signed; named = named; runs = runs }
runs_under bytes keys name entry c i o (Err BadOld) signed named runs = record { checkpoint = c; signed = signed; named = named; runs = runs }
runs_under bytes keys name entry c i o (Err BadPath) signed named runs = record { checkpoint = c; signed = signed; named = named; runs = runs }
runs_under bytes keys name entry c i o (Err NotThere) signed named runs = record { checkpoint = c; signed = signed; named = named; runs = runs }
runs_under bytes keys name entry c i o (Err Malformed) signed named runs = record { checkpoint = c; signed = signed; named = named; runs = runs }
runs_under bytes keys name entry c i o (Err (Chain place)) signed named runs = record { checkpoint = c; signed = signed; named = named; runs = runs }
runs_under bytes keys name entry c i o (Err Sign) signed named runs = record { checkpoint = c; signed = signed; named = named; runs = runs }
runs_under bytes keys name entry c i o (Err Operator) signed named runs = record { checkpoint = c; signed = signed; named = named; runs = runs }
runs_under bytes keys name entry c i o (Err Listen) signed named runs = record { checkpoint = c; signed = signed; named = named; runs = runs }
runs_under bytes keys name entry c i o (Err Accept) signed named runs = record { checkpoint = c; signed = signed; named = named; runs = runs }
runs_under bytes keys name entry c i o (Err (Device place why)) signed named runs = record { checkpoint = c; signed = signed; named = named; runs = runs }
runs_under bytes keys name entry c i o (Err OutOfMemory) signed named runs = (runs.0, runs.1)
runs_under bytes keys name entry c i o (Err BadName) signed named runs = record { checkpoint = c; signed = signed; named = named; runs = runs }
runs_under bytes keys name entry c i o (Err BadKey) signed named runs = record { checkpoint = c; signed = signed; named = named; runs = runs }
runs_under bytes keys name entry c i o (Err BadKeyFile) signed named runs = record { checkpoint = c; signed = signed; named = named; runs = runs }
runs_under bytes keys name entry c i o (Err (NothingThere _)) signed named runs = record { checkpoint = c; signed = signed; named = named; runs = runs }
runs_under bytes keys name entry c i o (Err (BadCheckpoint place)) signed named runs = absurd runs.0.so
runs_under bytes keys name entry c i o (Err (WrongSignature place)) signed named runs = absurd runs.0.so
runs_under bytes keys name entry c i o (Err Unverified) signed named runs = absurd runs.0.so

-- a run under the key that a text is of, and against the checkpoint that bytes are
pub runs_check_opened : (text bytes : List ℕ) (entry : Option (List ℕ)) (k : PublicKey) (i o : Passage) (r : Result (Unit {0}) RunFault) → IsVerifierText note_kind text k
    → RunsUnder bytes (verifier_key k ∷ []) k.name entry i o r → RunsCheckOpened text bytes entry i o r
runs_check_opened text bytes entry k i o (Ok done) spelled runs = record { key = k; spelled = spelled; fact = runs }
runs_check_opened text bytes entry k i o (Err Refused) spelled runs = record { key = k; spelled = spelled; fact = runs }
runs_check_opened text bytes entry k i o (Err Read) spelled runs = record { key = k; spelled = spelled; fact = runs }
runs_check_opened text bytes entry k i o (Err Write) spelled runs = record { key = k; spelled = spelled; fact = runs }
runs_check_opened text bytes entry k i o (Err TooLarge) spelled runs = record { key = k; spelled = spelled; fact = runs }
runs_check_opened text bytes entry k i o (Err (EntryTooLong place)) spelled runs = record { key = k; spelled = spelled; fact = runs }
runs_check_opened text bytes entry k i o (Err BadOrigin) spelled runs = record { key = k; spelled = spelled; fact = runs }
runs_check_opened text bytes entry k i o (Err BadIndex) spelled runs = record { key = k; spelled = spelled; fact = runs }
runs_check_opened text bytes entry k i o (Err BadOld) spelled runs = record { key = k; spelled = spelled; fact = runs }
runs_check_opened text bytes entry k i o (Err BadPath) spelled runs = record { key = k; spelled = spelled; fact = runs }
runs_check_opened text bytes entry k i o (Err NotThere) spelled runs = record { key = k; spelled = spelled; fact = runs }
runs_check_opened text bytes entry k i o (Err Malformed) spelled runs = record { key = k; spelled = spelled; fact = runs }
runs_check_opened text bytes entry k i o (Err (Chain place)) spelled runs = record { key = k; spelled = spelled; fact = runs }
runs_check_opened text bytes entry k i o (Err Sign) spelled runs = record { key = k; spelled = spelled; fact = runs }
runs_check_opened text bytes entry k i o (Err Operator) spelled runs = record { key = k; spelled = spelled; fact = runs }
runs_check_opened text bytes entry k i o (Err Listen) spelled runs = record { key = k; spelled = spelled; fact = runs }
runs_check_opened text bytes entry k i o (Err Accept) spelled runs = record { key = k; spelled = spelled; fact = runs }
runs_check_opened text bytes entry k i o (Err (Device place why)) spelled runs = record { key = k; spelled = spelled; fact = runs }
runs_check_opened text bytes entry k i o (Err OutOfMemory) spelled runs = record { key = k; spelled = spelled; fact = runs }
runs_check_opened text bytes entry k i o (Err BadName) spelled runs = record { key = k; spelled = spelled; fact = runs }
runs_check_opened text bytes entry k i o (Err BadKey) spelled runs = absurd runs.runs.0.so
runs_check_opened text bytes entry k i o (Err BadKeyFile) spelled runs = record { key = k; spelled = spelled; fact = runs }
runs_check_opened text bytes entry k i o (Err (NothingThere _)) spelled runs = record { key = k; spelled = spelled; fact = runs }
runs_check_opened text bytes entry k i o (Err (BadCheckpoint place)) spelled runs = record { key = k; spelled = spelled; fact = runs }
runs_check_opened text bytes entry k i o (Err (WrongSignature place)) spelled runs = record { key = k; spelled = spelled; fact = runs }
runs_check_opened text bytes entry k i o (Err Unverified) spelled runs = record { key = k; spelled = spelled; fact = runs }

-- the same for a list of that one key
pub runs_open_by : (keys : List Key) (text : List ℕ) (k : PublicKey) (i o : Passage) (r : Result (Unit {0}) RunFault) → IsVerifierText note_kind text k
    → keys ≡ verifier_key k ∷ [] → Runs (OpenComes keys) i o r → OpensSigned text i o r
runs_open_by keys text k i o r spelled one runs = runs_open text k i o r spelled (subst (λ (ks : List Key). Runs (OpenComes ks) i o r) one runs)

pub runs_check_by : (keys : List Key) (text bytes name : List ℕ) (entry : Option (List ℕ)) (k : PublicKey) (i o : Passage) (r : Result (Unit {0}) RunFault) → IsVerifierText note_kind text k
    → keys ≡ verifier_key k ∷ [] → name ≡ k.name → RunsUnder bytes keys name entry i o r → RunsCheckOpened text bytes entry i o r
runs_check_by keys text bytes name entry k i o r spelled one same runs =
    runs_check_opened text bytes entry k i o r spelled
    (subst (λ (n : List ℕ). RunsUnder bytes (verifier_key k ∷ []) n entry i o r) same (subst (λ (ks : List Key). RunsUnder bytes ks name entry i o r) one runs))
