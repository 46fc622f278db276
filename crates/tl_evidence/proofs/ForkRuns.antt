-- Runs of the check of evidence.
use Rattle.std.proofs.Common.{◌≡◌, ℕ, List, [], ◌∷◌, ◌++◌, inl, inr, subst, sym, ◌∙◌}
use Rattle.std.specs.Prelude.{Result, Ok, Err, codes}
use Rattle.tl_text.specs.Text.{line}
use Rattle.tl_note.specs.Key.{Key}
use Rattle.tl_key.specs.KeyText.{IsVerifierText}
use Rattle.tl_key.specs.NoteKey.{PublicKey, note_kind, verifier_key}
use Rattle.tl_device.specs.Device.{Passage, IsUnread, IsUnwritten, ReadWhole, WrotePart, WroteWhole}
use Rattle.tl_run.specs.Keys.{ReadsKey}
use Rattle.tl_run.specs.Run.{Prints, PrintsRefusal, Runs, Wrote, WroteSome, most_input}
use Rattle.tl_run.specs.declared.fault.RunFault.{RunFault}
use Rattle.tl_run.specs.declared.fault.RunFault.TheVariants.{Refused, Read, Write, TooLarge, EntryTooLong, BadOrigin, BadIndex, BadOld, BadPath, NotThere, Malformed, Chain, Sign, Operator, Listen, Accept, OutOfMemory, BadName, BadKey, BadCheckpoint, WrongSignature, Unverified, Device, BadKeyFile, NothingThere}
use Rattle.tl_fork.specs.Evidence.{IsEvidence}
use Rattle.tl_evidence.specs.ForkCommand.{ForkComes, RunsFork}

abbrev fork_text : List ℕ → List ℕ
fork_text name = line (codes "fork of " ++ name)

abbrev pub refused_text : List ℕ
refused_text = line (codes "refused")

pub printed : (keys : List Key) (name input text : List ℕ) (i o : Passage) → ReadWhole i most_input input → IsEvidence keys name input → text ≡ fork_text name → WroteWhole o text
    → Wrote (ForkComes keys name) Prints i o
printed keys name input text i o whole is same written =
    record { text = text; came = record { input = input; whole = whole; so = (is, same) }; written = written }

pub part_printed : (keys : List Key) (name input text : List ℕ) (i o : Passage) → ReadWhole i most_input input → IsEvidence keys name input → text ≡ fork_text name → WrotePart o text
    → WroteSome (ForkComes keys name) i o
part_printed keys name input text i o whole is same part =
    record { text = text; came = inl (record { input = input; whole = whole; so = (is, same) }); part = part }

pub refused : (keys : List Key) (name input text : List ℕ) (i o : Passage) → ReadWhole i most_input input → (IsEvidence keys name input → ⊥) → text ≡ refused_text → WroteWhole o text
    → Wrote (ForkComes keys name) PrintsRefusal i o
refused keys name input text i o whole not same written =
    record { text = text; came = record { input = input; whole = whole; so = (not, same) }; written = written }

pub part_refused : (keys : List Key) (name input text : List ℕ) (i o : Passage) → ReadWhole i most_input input → (IsEvidence keys name input → ⊥) → text ≡ refused_text → WrotePart o text
    → WroteSome (ForkComes keys name) i o
part_refused keys name input text i o whole not same part =
    record { text = text; came = inr (record { input = input; whole = whole; so = (not, same) }); part = part }

-- a run under a key of this text is one of the text
runs_fork : (text : List ℕ) (k : PublicKey) (i o : Passage) (r : Result (Unit {0}) RunFault) → IsVerifierText note_kind text k
    → Runs (ForkComes (verifier_key k ∷ []) k.name) i o r → RunsFork text i o r
runs_fork text k i o (Ok done) spelled runs = record { key = k; spelled = spelled; fact = runs }
runs_fork text k i o (Err Refused) spelled runs = record { key = k; spelled = spelled; fact = runs }
runs_fork text k i o (Err Read) spelled runs = record { key = k; spelled = spelled; fact = runs }
runs_fork text k i o (Err Write) spelled runs = record { key = k; spelled = spelled; fact = runs }
runs_fork text k i o (Err TooLarge) spelled runs = record { key = k; spelled = spelled; fact = runs }
runs_fork text k i o (Err (EntryTooLong place)) spelled runs = record { key = k; spelled = spelled; fact = runs }
runs_fork text k i o (Err BadOrigin) spelled runs = record { key = k; spelled = spelled; fact = runs }
runs_fork text k i o (Err BadIndex) spelled runs = record { key = k; spelled = spelled; fact = runs }
runs_fork text k i o (Err BadOld) spelled runs = record { key = k; spelled = spelled; fact = runs }
runs_fork text k i o (Err BadPath) spelled runs = record { key = k; spelled = spelled; fact = runs }
runs_fork text k i o (Err NotThere) spelled runs = record { key = k; spelled = spelled; fact = runs }
runs_fork text k i o (Err Malformed) spelled runs = record { key = k; spelled = spelled; fact = runs }
runs_fork text k i o (Err (Chain place)) spelled runs = record { key = k; spelled = spelled; fact = runs }
runs_fork text k i o (Err Sign) spelled runs = record { key = k; spelled = spelled; fact = runs }
runs_fork text k i o (Err Operator) spelled runs = record { key = k; spelled = spelled; fact = runs }
runs_fork text k i o (Err Listen) spelled runs = record { key = k; spelled = spelled; fact = runs }
runs_fork text k i o (Err Accept) spelled runs = record { key = k; spelled = spelled; fact = runs }
runs_fork text k i o (Err OutOfMemory) spelled runs = record { key = k; spelled = spelled; fact = (runs.0, runs.1) }
runs_fork text k i o (Err BadName) spelled runs = record { key = k; spelled = spelled; fact = runs }
runs_fork text k i o (Err BadKey) spelled runs = absurd runs.0.so
runs_fork text k i o (Err (BadCheckpoint place)) spelled runs = record { key = k; spelled = spelled; fact = runs }
runs_fork text k i o (Err (WrongSignature place)) spelled runs = record { key = k; spelled = spelled; fact = runs }
runs_fork text k i o (Err Unverified) spelled runs = record { key = k; spelled = spelled; fact = runs }
runs_fork text k i o (Err (Device place why)) spelled runs = record { key = k; spelled = spelled; fact = runs }
runs_fork text k i o (Err BadKeyFile) spelled runs = record { key = k; spelled = spelled; fact = runs }
runs_fork text k i o (Err (NothingThere place)) spelled runs = record { key = k; spelled = spelled; fact = runs }

pub runs_fork_by : (keys : List Key) (text name : List ℕ) (k : PublicKey) (i o : Passage) (r : Result (Unit {0}) RunFault) → IsVerifierText note_kind text k
    → keys ≡ verifier_key k ∷ [] → name ≡ k.name → Runs (ForkComes keys name) i o r → RunsFork text i o r
runs_fork_by keys text name k i o r spelled one same runs =
    runs_fork text k i o r spelled
    (subst (λ (n : List ℕ). Runs (ForkComes (verifier_key k ∷ []) n) i o r) same (subst (λ (ks : List Key). Runs (ForkComes ks name) i o r) one runs))

-- the key can't be read
pub key_fails : (text : List ℕ) (i o : Passage) (fault : RunFault) → IsUnread i → IsUnwritten o → ReadsKey text (Err fault) → RunsFork text i o (Err fault)
key_fails text i o Refused unread none given = absurd given
key_fails text i o Read unread none given = absurd given
key_fails text i o Write unread none given = absurd given
key_fails text i o TooLarge unread none given = absurd given
key_fails text i o (EntryTooLong place) unread none given = absurd given
key_fails text i o BadOrigin unread none given = absurd given
key_fails text i o BadIndex unread none given = absurd given
key_fails text i o BadOld unread none given = absurd given
key_fails text i o BadPath unread none given = absurd given
key_fails text i o NotThere unread none given = absurd given
key_fails text i o Malformed unread none given = absurd given
key_fails text i o (Chain place) unread none given = absurd given
key_fails text i o Sign unread none given = absurd given
key_fails text i o Operator unread none given = absurd given
key_fails text i o Listen unread none given = absurd given
key_fails text i o Accept unread none given = absurd given
key_fails text i o OutOfMemory unread none given = record { key = given.0; spelled = given.1; fact = (unread.1, none) }
key_fails text i o BadName unread none given = absurd given
key_fails text i o BadKey unread none given = (given, unread, none)
key_fails text i o (BadCheckpoint place) unread none given = absurd given
key_fails text i o (WrongSignature place) unread none given = absurd given
key_fails text i o Unverified unread none given = absurd given
key_fails text i o (Device place why) unread none given = absurd given
key_fails text i o BadKeyFile unread none given = absurd given
key_fails text i o (NothingThere place) unread none given = absurd given
