-- Runs of `open` under the key of a witness.
use Rattle.std.proofs.Common.{◌≡◌, ◌<◌, ◌≤◌, ◌+◌, ℕ, inl, List, [], ◌∷◌, length, drop, get_or, refl, sym, ap, subst, ◌∙◌, arith, Global}
use Rattle.std.specs.Prelude.{Result, Ok, Err, IfErr, IfOk, IsTrue, OnErr, OnOk, false}
use Rattle.std.specs.declared.alloc.AllocError.{AllocError}
use Rattle.tl_hash.specs.Bytes.{Bytes}
use Rattle.tl_device.specs.Device.{Passage, IsUnread, IsUnwritten, ReadWhole, WrotePart, WroteWhole}
use Rattle.tl_note.specs.Key.{Key}
use Rattle.tl_note.specs.Note.{Signature}
use Rattle.tl_note.specs.View.{ParsesNote}
use Rattle.tl_note.specs.declared.fault.NoteFault.{NoteFault}
use Rattle.tl_note.specs.declared.fault.NoteFault.TheVariants as note
use Rattle.tl_checkpoint.specs.Cosignature.{IsCosignature, IsOfKey}
use Rattle.tl_key.specs.KeyText.{IsVerifierText}
use Rattle.tl_key.specs.NoteKey.{PublicKey, cosignature_kind, verifier_key}
use Rattle.tl_run.specs.Run.{Runs, most_input}
use Rattle.tl_command.specs.Open.{OpensCosigned, RunsOpen, after_note}
use Rattle.tl_command.specs.OpenCosigned.{CosignedComes, IsFirst, IsMessageOf}
use Rattle.tl_command.specs.Inner.Cosigned.{Finds, GivesMessage}
use Rattle.tl_command.specs.declared.commands.cosigned.Found.{Found}
use Rattle.tl_command.specs.declared.commands.cosigned.Found.TheVariants.{Time, Wrong, Nothing}
use Rattle.tl_run.specs.declared.fault.RunFault.{RunFault}
use Rattle.tl_run.specs.declared.fault.RunFault.TheVariants.{Refused, Read, Write, TooLarge, EntryTooLong, BadOrigin, BadIndex, BadOld, BadPath, NotThere, Malformed, Chain, Sign, Operator, Listen, Accept, OutOfMemory, BadName, BadKey, BadCheckpoint, WrongSignature, Unverified, Device, BadKeyFile, NothingThere}
use Rattle.tl_command.proofs.NoteBytes.{note_some}
use Rattle.tl_command.proofs.Runs.{printed}

-- ---- the first line of a key

no_true : IsTrue false → ⊥
no_true e = cc

at_first : (key : Key) (first : Signature) (rest : List Signature) → IsOfKey key first → IsFirst key (first ∷ rest) 0 first
at_first key first rest of = record { before = []; after = rest; joined = refl; count = refl; none = tt; of = of }

behind : (key : Key) (first line : Signature) (rest : List Signature) (place : ℕ) → ¬ (IsOfKey key first) → IsFirst key rest place line → IsFirst key (first ∷ rest) (place + 1) line
behind key first line rest place other is = record {
  before = first ∷ is.before;
  after = is.after;
  joined = ap (λ (ls : List Signature). first ∷ ls) is.joined;
  count = omega (arith, is.count);
  none = (other, is.none);
  of = is.of;
}

one_more : (text : Bytes) (key : Key) (first : Signature) (rest : List Signature) (from : ℕ) (found : Found) → ¬ (IsOfKey key first) → Finds text key rest (from + 1) found
    → Finds text key (first ∷ rest) from found
one_more text key first rest from (Time time) other (place, line, is, by) = (place + 1, line, behind key first line rest place other is, by)
one_more text key first rest from (Wrong at) other (place, line, is, same, none) = (place + 1, line, behind key first line rest place other is, omega (arith, same), none)
one_more text key first rest from Nothing other none = (other, none)

module _ (text : Bytes) (key : Key) (lines : List Signature) (first : Signature) (rest : List Signature) (from : ℕ) (left : rest ≡ drop 1 lines) (some : 1 ≤ length lines)
    (is : first ≡ get_or lines 0 first) where
  lines_are : (ls : List Signature) → rest ≡ drop 1 ls → 1 ≤ length ls → first ≡ get_or ls 0 first → first ∷ rest ≡ ls
  lines_are [] behind some is = absurd (omega (arith, some))
  lines_are (l ∷ ls) behind some is = ap (λ (s : Signature). s ∷ rest) is ∙ ap (λ (others : List Signature). l ∷ others) behind

  of_lines : (found : Found) → Finds text key (first ∷ rest) from found → Finds text key lines from found
  of_lines found finds = subst (λ (ls : List Signature). Finds text key ls from found) (lines_are lines left some is) finds

  pub find_more : (IsOfKey key first → IsTrue false) → (r : Result Found AllocError) → IfOk r (Finds text key rest (from + 1)) → IfOk r (Finds text key lines from)
  find_more other (Ok found) below = of_lines found (one_more text key first rest from found (λ of. no_true (other of)) below)
  find_more other (Err fault) below = tt

  pub find_time : (time : ℕ) → IsCosignature text key first time → Finds text key lines from (Time time)
  find_time time by = of_lines (Time time) (0, first, at_first key first rest (record { name = by.name; id = by.id }), by)

pub find_nothing : (text : Bytes) (key : Key) (lines : List Signature) (from : ℕ) → length lines < 1 → Finds text key lines from Nothing
find_nothing text key [] from none = tt
find_nothing text key (line ∷ lines) from none = absurd (omega (arith, none))

-- ---- the message of a note

-- what is no note has no message
unparsed : (key : Key) (input : Bytes) (fault : NoteFault) → ParsesNote {A = Global} input (Err fault) → GivesMessage {A = Global} key input (Err (after_note fault))
unparsed key input note.Malformed given = given
unparsed key input (note.BadName place) given = absurd given
unparsed key input (note.Ambiguous place) given = absurd given
unparsed key input (note.InvalidSignature place) given = absurd given
unparsed key input note.Unverified given = absurd given
unparsed key input (note.Sign place) given = absurd given
unparsed key input note.OutOfMemory given = given

pub parse_fails : (key : Key) (input : Bytes) (fault : NoteFault) (answer : RunFault) → answer ≡ after_note fault → ParsesNote {A = Global} input (Err fault)
    → GivesMessage {A = Global} key input (Err answer)
parse_fails key input fault answer told given =
    subst (λ (f : RunFault). GivesMessage {A = Global} key input (Err f)) (sym told) (unparsed key input fault given)

-- ---- runs

-- a note without such a message is refused
message_fails : (key : Key) (i o : Passage) (input : Bytes) (fault : RunFault) → ReadWhole i most_input input → IsUnwritten o → GivesMessage {A = Global} key input (Err fault)
    → Runs (CosignedComes key) i o (Err fault)
message_fails key i o input Refused whole none given = absurd given
message_fails key i o input Read whole none given = absurd given
message_fails key i o input Write whole none given = absurd given
message_fails key i o input TooLarge whole none given = absurd given
message_fails key i o input (EntryTooLong place) whole none given = absurd given
message_fails key i o input BadOrigin whole none given = absurd given
message_fails key i o input BadIndex whole none given = absurd given
message_fails key i o input BadOld whole none given = absurd given
message_fails key i o input BadPath whole none given = absurd given
message_fails key i o input NotThere whole none given = absurd given
message_fails key i o input Malformed whole none given = (record { input = input; whole = whole; so = given }, none)
message_fails key i o input (Chain place) whole none given = absurd given
message_fails key i o input Sign whole none given = absurd given
message_fails key i o input Operator whole none given = absurd given
message_fails key i o input Listen whole none given = absurd given
message_fails key i o input Accept whole none given = absurd given
message_fails key i o input OutOfMemory whole none given = (whole.steady, none, inl (input, whole.consumed, note_some input given.0 given.1 given.2))
message_fails key i o input BadName whole none given = absurd given
message_fails key i o input BadKey whole none given = absurd given
message_fails key i o input BadKeyFile whole none given = absurd given
message_fails key i o input (NothingThere place) whole none given = absurd given
message_fails key i o input (BadCheckpoint place) whole none given = absurd given
message_fails key i o input (WrongSignature place) whole none given = (record { input = input; whole = whole; so = given }, none)
message_fails key i o input Unverified whole none given = (record { input = input; whole = whole; so = given }, none)
message_fails key i o input (Device place why) whole none given = absurd given

-- the same of the text that the input is
pub refused_as : (key : Key) (i o : Passage) (input text : Bytes) (fault : RunFault) → text ≡ input → ReadWhole i most_input input → IsUnwritten o
    → GivesMessage {A = Global} key text (Err fault) → Runs (CosignedComes key) i o (Err fault)
refused_as key i o input text fault same whole none given =
    message_fails key i o input fault whole none (subst (λ (t : Bytes). GivesMessage {A = Global} key t (Err fault)) same given)

-- the message that a note has is printed
pub printed_as : (key : Key) (i o : Passage) (input note message text : Bytes) (r : Result (Unit {0}) RunFault) → note ≡ input → ReadWhole i most_input input
    → IsMessageOf key note message → text ≡ message → OnOk r (WroteWhole o text) → IfErr r (λ fault. fault ≡ Write) → OnErr r (WrotePart o text)
    → Runs (CosignedComes key) i o r
printed_as key i o input note message text r same whole is spelled =
    printed (CosignedComes key) i o text r (record {
      input = input;
      whole = whole;
      so = subst (IsMessageOf key input) (sym spelled) (subst (λ (n : Bytes). IsMessageOf key n message) same is);
    })

-- a run under a witness's key, which allocates for the key, too
runs_cosigned : (key : Key) (i o : Passage) (r : Result (Unit {0}) RunFault) → Runs (CosignedComes key) i o r → OpensCosigned key i o r
runs_cosigned key i o (Ok done) runs = runs
runs_cosigned key i o (Err Refused) runs = runs
runs_cosigned key i o (Err Read) runs = runs
runs_cosigned key i o (Err Write) runs = runs
runs_cosigned key i o (Err TooLarge) runs = runs
runs_cosigned key i o (Err (EntryTooLong place)) runs = runs
runs_cosigned key i o (Err BadOrigin) runs = runs
runs_cosigned key i o (Err BadIndex) runs = runs
runs_cosigned key i o (Err BadOld) runs = runs
runs_cosigned key i o (Err BadPath) runs = runs
runs_cosigned key i o (Err NotThere) runs = runs
runs_cosigned key i o (Err Malformed) runs = runs
runs_cosigned key i o (Err (Chain place)) runs = runs
runs_cosigned key i o (Err Sign) runs = runs
runs_cosigned key i o (Err Operator) runs = runs
runs_cosigned key i o (Err Listen) runs = runs
runs_cosigned key i o (Err Accept) runs = runs
runs_cosigned key i o (Err OutOfMemory) runs = (runs.0, runs.1)
runs_cosigned key i o (Err BadName) runs = runs
runs_cosigned key i o (Err BadKey) runs = runs
runs_cosigned key i o (Err BadKeyFile) runs = runs
runs_cosigned key i o (Err (NothingThere place)) runs = runs
runs_cosigned key i o (Err (BadCheckpoint place)) runs = runs
runs_cosigned key i o (Err (WrongSignature place)) runs = runs
runs_cosigned key i o (Err Unverified) runs = runs
runs_cosigned key i o (Err (Device place why)) runs = runs

pub runs_by_witness : (key : Key) (text : Bytes) (k : PublicKey) (i o : Passage) (r : Result (Unit {0}) RunFault) → IsVerifierText cosignature_kind text k → key ≡ verifier_key k
    → Runs (CosignedComes key) i o r → RunsOpen text i o r
runs_by_witness key text k i o r spelled same runs =
    inl (k, spelled, subst (λ (v : Key). OpensCosigned v i o r) same (runs_cosigned key i o r runs))

-- allocation for the key failed
pub cosigner_fails : (text : Bytes) (i o : Passage) (fault : RunFault) (k : PublicKey) → IsUnread i → IsUnwritten o → fault ≡ OutOfMemory → IsVerifierText cosignature_kind text k
    → RunsOpen text i o (Err fault)
cosigner_fails text i o fault k unread none told spelled =
    subst (λ (f : RunFault). RunsOpen text i o (Err f)) (sym told) (inl (k, spelled, (unread.1, none)))
