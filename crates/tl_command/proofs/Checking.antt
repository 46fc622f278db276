-- What `check` says of a proof is the output for its text.
use Rattle.std.proofs.Common.{◌≡◌, inl, inr, List, ℕ, refl, sym, ap, ◌∙◌, subst, true≢false}
use Rattle.std.specs.Prelude.{◌↔◌, Bool, true, false, IsTrue, Result, Ok, Err}
use Rattle.tl_device.specs.Device.{Passage, ReadWhole}
use Rattle.tl_command.specs.Lines.{lines_text}
use Rattle.tl_command.specs.ProofText.{Proof}
use Rattle.tl_command.specs.ProofCommands.{ChecksBy, Subject, Shows, IsAbout}
use Rattle.tl_run.specs.Run.{Output, Prints, PrintsRefusal, most_input, CameOf, Runs}
use Rattle.tl_command.specs.Inner.Checks.{FindsInText, IsFinding, IsFindingAbout, PrintsAnswer, answer_line}
use Rattle.tl_command.specs.declared.commands.check.Finding.{Finding}
use Rattle.tl_run.specs.declared.fault.RunFault.{RunFault}
use Rattle.tl_run.specs.declared.fault.RunFault.TheVariants.{Refused, Read, Write, TooLarge, EntryTooLong, BadOrigin, BadIndex, BadOld, BadPath, NotThere, Malformed, Chain, Sign, Operator, Listen, Accept, OutOfMemory, BadName, BadKey, BadCheckpoint, WrongSignature, Unverified, Device, BadKeyFile, NothingThere}

-- the output for a text that was read, if the finding says whether its proof is good
abbrev pub good_output : Bool → Output
good_output true = Prints (answer_line true)
good_output false = PrintsRefusal (answer_line false)

pub good_comes : (IsGood : Proof → Type 0) (i : Passage) (input text : List ℕ) (c : Finding) (is_good : Bool) → ReadWhole i most_input input → text ≡ input
    → FindsInText text (Ok c) → ((p : Proof) → IsFinding p c → IsTrue is_good ↔ IsGood p) → CameOf (ChecksBy IsGood) i (good_output is_good)
good_comes IsGood i input text c true whole same said means =
    let has = said.0 in
    record {
      input = input;
      whole = whole;
      so = (record { proof = has.proof; lawful = has.lawful; spelled = sym same ∙ said.1 ∙ ap lines_text has.spelled; fact = (means has.proof has.finding).0 refl }, refl);
    }
good_comes IsGood i input text c false whole same said means =
    let has = said.0 in
    record {
      input = input;
      whole = whole;
      so = (record { proof = has.proof; lawful = has.lawful; spelled = sym same ∙ said.1 ∙ ap lines_text has.spelled; fact = λ good. true≢false (sym ((means has.proof has.finding).1 good)) }, refl);
    }

-- a finding is about a subject if its proof is
pub about_means : (s : Subject) (c : Finding) (is_good : Bool) → (IsTrue is_good ↔ IsFindingAbout s c) → (p : Proof) → IsFinding p c → IsTrue is_good ↔ IsAbout s p
about_means s c is_good found p is = (
  (λ good. let f = found.0 good in (is.says.0 f.0, record { same_size = sym is.size ∙ f.1.same_size; same_root = sym is.root ∙ f.1.same_root; shown = subst (Shows s.entry) is.leaf f.1.shown })),
  (λ about. found.1 (is.says.1 about.0, record { same_size = is.size ∙ about.1.same_size; same_root = is.root ∙ about.1.same_root; shown = subst (Shows s.entry) (sym is.leaf) about.1.shown })),
)

-- a run prints the output for its input
pub answered : (Comes : List ℕ → Output → Type 0) (i o : Passage) (is_good : Bool) (result : Result (Unit {0}) RunFault) → CameOf Comes i (good_output is_good)
    → PrintsAnswer is_good o result → Runs Comes i o result
answered Comes i o true (Ok done) came prints = record { text = answer_line true; came = came; written = prints.1 }
answered Comes i o false (Ok done) came prints = absurd (true≢false (sym prints.0))
answered Comes i o true (Err Refused) came prints = absurd (true≢false prints.0)
answered Comes i o false (Err Refused) came prints = record { text = answer_line false; came = came; written = prints.1 }
answered Comes i o true (Err Write) came prints = record { text = answer_line true; came = inl came; part = prints }
answered Comes i o false (Err Write) came prints = record { text = answer_line false; came = inr came; part = prints }
answered Comes i o is_good (Err Read) came prints = absurd prints
answered Comes i o is_good (Err TooLarge) came prints = absurd prints
answered Comes i o is_good (Err (EntryTooLong place)) came prints = absurd prints
answered Comes i o is_good (Err BadOrigin) came prints = absurd prints
answered Comes i o is_good (Err BadIndex) came prints = absurd prints
answered Comes i o is_good (Err BadOld) came prints = absurd prints
answered Comes i o is_good (Err BadPath) came prints = absurd prints
answered Comes i o is_good (Err NotThere) came prints = absurd prints
answered Comes i o is_good (Err Malformed) came prints = absurd prints
answered Comes i o is_good (Err (Chain place)) came prints = absurd prints
answered Comes i o is_good (Err Sign) came prints = absurd prints
answered Comes i o is_good (Err Operator) came prints = absurd prints
answered Comes i o is_good (Err Listen) came prints = absurd prints
answered Comes i o is_good (Err Accept) came prints = absurd prints
answered Comes i o is_good (Err (Device place why)) came prints = absurd prints
answered Comes i o is_good (Err OutOfMemory) came prints = absurd prints
answered Comes i o is_good (Err BadName) came prints = absurd prints
answered Comes i o is_good (Err BadKey) came prints = absurd prints
answered Comes i o is_good (Err BadKeyFile) came prints = absurd prints
answered Comes i o is_good (Err (NothingThere _)) came prints = absurd prints
answered Comes i o is_good (Err (BadCheckpoint place)) came prints = absurd prints
answered Comes i o is_good (Err (WrongSignature place)) came prints = absurd prints
answered Comes i o is_good (Err Unverified) came prints = absurd prints
