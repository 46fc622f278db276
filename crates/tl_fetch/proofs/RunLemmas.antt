-- What is printed before a fault comes, and how a run ends.
use Rattle.std.proofs.Common.{◌≡◌, ◌⊎◌, ℕ, ◌≤◌, length, string_bytes, sym, ap, subst, refl, inl, inr, Option, Some, None, Result, Ok, Err, IfErr, OnOk}
use Rattle.tl_hash.specs.Bytes.{Bytes}
use Rattle.tl_tile.specs.declared.resource.Resource.{Resource}
use Rattle.tl_tile.specs.declared.resource.Resource.TheVariants.{Checkpoint}
use Rattle.tl_device.specs.Device.{Passage, IsUnwritten}
use Rattle.tl_client.specs.declared.fault.ClientFault.{ClientFault}
use Rattle.tl_client.specs.declared.fault.ClientFault.TheVariants as client
use Rattle.tl_hash.specs.declared.head.Head.{Head}
use Rattle.tl_fetch.specs.declared.fault.FetchFault.{FetchFault}
use Rattle.tl_fetch.specs.declared.fault.FetchFault.TheVariants as fetch
use Rattle.tl_fetch.specs.declared.options.FetchOptions.{FetchOptions}
use Rattle.tl_fetch.specs.declared.options.FetchRequest.{FetchRequest}
use Rattle.tl_fetch.specs.declared.options.FetchRequest.TheVariants as wanted
use Rattle.tl_fetch.specs.Entries.{RefusesBundle, RefusesOne, RefusesProof}
use Rattle.tl_fetch.specs.Evidence.{IsEvidenceOf}
use Rattle.tl_fetch.specs.Faults.{IsNoAccusation, after_client}
use Rattle.tl_fetch.specs.Inner.Judging.{JudgesTwo, two_of}
use Rattle.tl_source.specs.Caches.{may_answer_either, may_lack_both}
use Rattle.tl_source.specs.declared.lack.Lack.{Lack}
use Rattle.tl_folder.specs.Limits.{most_bytes}
use Rattle.tl_source.specs.Sources.{Origin}
use Rattle.tl_fetch.specs.Command.{IsOriginOf, IsStateFault, IsToldAs, RunsUnder, cached_answers, cached_lacks, may_have, run_answers, state_fails}
use Rattle.tl_fetch.specs.Inner.Naming.{Renames, RunsOver, RunsWith, told_as}
use Rattle.tl_fetch.specs.Fetching.{AreStill, BreaksOff, FailsAll, FailsGrown, Grounds, HasFetched, HasPrinted, IsMarked, RefusesFetch, RefusesGrown, RefusesTwo, Store, first_wanted, grounds_of, since, unseen_of}
use Rattle.tl_fetch.specs.Trusting.{AreTwo, IsGrown, IsKnown, IsNoteOf, Policy, Two}
use Rattle.tl_fetch.proofs.JudgingLemmas.{judged}
use Rattle.tl_fetch.proofs.Passages.{GoesOn, joined, silent_both, silent_some, silent_whole}
use Rattle.tl_fetch.specs.Printed.{FailsPrinting, IsBegun, IsBundleFrom, IsWanted, PrintedWhole, RefusesWanted}

-- a check accuses nobody
after_check : (why : ClientFault) → IsNoAccusation (after_client why)
after_check client.Range = tt
after_check client.Unavailable = tt
after_check (client.BadTile level index width) = tt
after_check (client.BadBundle bundle) = tt
after_check (client.BadEntry entry) = tt
after_check client.Shrunk = tt
after_check client.Forked = tt
after_check client.OutOfMemory = tt

pub fair_printing : (Why : ClientFault → Type 0) (fault : FetchFault) (o : Passage) → FailsPrinting Why fault o → IsNoAccusation fault
fair_printing Why fault o (inl (write, failed)) = subst IsNoAccusation (sym write) tt
fair_printing Why fault o (inr (inl memory)) = subst IsNoAccusation (sym memory) tt
fair_printing Why fault o (inr (inr (why, so, told))) = subst IsNoAccusation (sym told) (after_check why)

pub fair_wanted : (answers : Resource → Bytes → Type 0) (lacks : Resource → Type 0) (known : ℕ) (head : Head) (what : FetchRequest) (fault : FetchFault) (o : Passage)
    → RefusesWanted answers lacks known head what fault o → IsNoAccusation fault
fair_wanted answers lacks known head wanted.Head fault o (inl (write, failed)) = subst IsNoAccusation (sym write) tt
fair_wanted answers lacks known head wanted.Head fault o (inr memory) = subst IsNoAccusation (sym memory) tt
fair_wanted answers lacks known head (wanted.Entry index) fault o fails = fair_printing (RefusesOne answers lacks head index) fault o fails
fair_wanted answers lacks known head (wanted.Raw index) fault o fails = fair_printing (RefusesOne answers lacks head index) fault o fails
fair_wanted answers lacks known head wanted.All fault o (inl range) = subst IsNoAccusation (sym range.1) tt
fair_wanted answers lacks known head wanted.All fault o (inr fails) =
    fair_printing (λ why. (bundle : ℕ) × IsBundleFrom head known bundle × RefusesBundle answers lacks head bundle why) fault o fails
fair_wanted answers lacks known head (wanted.Proof index) fault o fails = fair_printing (RefusesProof answers lacks head index) fault o fails

-- a log that is refused by its two checkpoints, while both stores are as they were
pub refused_two : (grounds marks : Grounds) (policy : Policy) (what : FetchRequest) (two : Two) (fault : FetchFault) (o : Passage) → AreTwo grounds.has (grounds.answers Checkpoint) policy two
    → JudgesTwo grounds.answers grounds.lacks two fault o → AreStill grounds marks → RefusesFetch grounds marks policy what fault o
refused_two grounds marks policy what two fault o are refused left = inr (two, are, inl (judged grounds policy two fault o are.known are.trusted refused, left))

-- what is asked for, but not all entries, after the note was kept
pub other_printed : (may_have : Option Bytes → Type 0) (has_kept : Bytes → Type 0) (policy : Policy) (two : Two) (what : FetchRequest) (r : Result (Unit {0}) FetchFault) (o : Passage)
    → (what ≡ wanted.All → ⊥) → OnOk r (PrintedWhole (IsWanted policy.origin two.old.size two.new what) o) → OnOk r (HasPrinted may_have has_kept policy two what o)
other_printed may_have has_kept policy two what (Err fault) o other printed = tt
other_printed may_have has_kept policy two wanted.Head (Ok done) o other printed = printed
other_printed may_have has_kept policy two (wanted.Entry index) (Ok done) o other printed = printed
other_printed may_have has_kept policy two (wanted.Raw index) (Ok done) o other printed = printed
other_printed may_have has_kept policy two wanted.All (Ok done) o other printed = absurd (other refl)
other_printed may_have has_kept policy two (wanted.Proof index) (Ok done) o other printed = printed

other_fails : (grounds marks : Grounds) (policy : Policy) (two : Two) (what : FetchRequest) (fault : FetchFault) (o : Passage)
    → (what ≡ wanted.All → ⊥) → FailsGrown grounds policy what two fault o → RefusesGrown grounds marks policy what two fault o
other_fails grounds marks policy two wanted.Head fault o other fails = fails
other_fails grounds marks policy two (wanted.Entry index) fault o other fails = fails
other_fails grounds marks policy two (wanted.Raw index) fault o other fails = fails
other_fails grounds marks policy two wanted.All fault o other fails = absurd (other refl)
other_fails grounds marks policy two (wanted.Proof index) fault o other fails = fails

pub other_refused : (grounds marks : Grounds) (policy : Policy) (two : Two) (what : FetchRequest) (r : Result (Unit {0}) FetchFault) (o : Passage)
    → (what ≡ wanted.All → ⊥) → IfErr r (λ fault. FailsGrown grounds policy what two fault o) → IfErr r (λ fault. RefusesGrown grounds marks policy what two fault o)
other_refused grounds marks policy two what (Ok done) o other fails = tt
other_refused grounds marks policy two what (Err fault) o other fails = other_fails grounds marks policy two what fault o other fails

-- ---- after nothing was printed

print_after : (may_have : Option Bytes → Type 0) (has_kept : Bytes → Type 0) (policy : Policy) (two : Two) (what : FetchRequest) (o p : Passage) → GoesOn o p → IsUnwritten o
    → HasPrinted may_have has_kept policy two what p → HasPrinted may_have has_kept policy two what (joined o p)
print_after may_have has_kept policy two wanted.Head o p on none printed =
    silent_whole (IsWanted policy.origin two.old.size two.new wanted.Head) o p on none printed
print_after may_have has_kept policy two (wanted.Entry index) o p on none printed =
    silent_whole (IsWanted policy.origin two.old.size two.new (wanted.Entry index)) o p on none printed
print_after may_have has_kept policy two (wanted.Raw index) o p on none printed =
    silent_whole (IsWanted policy.origin two.old.size two.new (wanted.Raw index)) o p on none printed
print_after may_have has_kept policy two wanted.All o p on none (last, old, marked, printed, kept) =
    (last, old, marked, silent_whole (IsWanted policy.origin (first_wanted last old two.old) two.new wanted.All) o p on none printed, kept)
print_after may_have has_kept policy two (wanted.Proof index) o p on none printed =
    silent_whole (IsWanted policy.origin two.old.size two.new (wanted.Proof index)) o p on none printed

wanted_after : (grounds : Grounds) (known : ℕ) (head : Head) (what : FetchRequest) (fault : FetchFault) (o p : Passage)
    → RefusesWanted grounds.answers grounds.lacks known head what fault p → RefusesWanted grounds.answers grounds.lacks known head what fault (joined o p)
wanted_after grounds known head wanted.Head fault o p f = f
wanted_after grounds known head (wanted.Entry index) fault o p f = f
wanted_after grounds known head (wanted.Raw index) fault o p f = f
wanted_after grounds known head wanted.All fault o p f = f
wanted_after grounds known head (wanted.Proof index) fault o p f = f

broken_after : (grounds : Grounds) (policy : Policy) (what : FetchRequest) (known : ℕ) (two : Two) (fault : FetchFault) (o p : Passage) → GoesOn o p → IsUnwritten o
    → BreaksOff grounds policy what known two fault p → BreaksOff grounds policy what known two fault (joined o p)
broken_after grounds policy what known two fault o p on none (refused, part) =
    (wanted_after grounds known two.new what fault o p refused, silent_some (IsBegun policy.origin known two.new what) o p on none part)

fails_after : (grounds : Grounds) (policy : Policy) (what : FetchRequest) (two : Two) (fault : FetchFault) (o p : Passage) → GoesOn o p → IsUnwritten o
    → FailsGrown grounds policy what two fault p → FailsGrown grounds policy what two fault (joined o p)
fails_after grounds policy what two fault o p on none f = record { why = why_after f.why; fair = f.fair } where
  why_after : (grounds.fails fault × IsUnwritten p) ⊎ (grounds.keeps two.note × BreaksOff grounds policy what two.old.size two fault p)
      → (grounds.fails fault × IsUnwritten (joined o p)) ⊎ (grounds.keeps two.note × BreaksOff grounds policy what two.old.size two fault (joined o p))
  why_after (inl (fails, still)) = inl (fails, silent_both o p on none still)
  why_after (inr (kept, broken)) = inr (kept, broken_after grounds policy what two.old.size two fault o p on none broken)

all_after : (grounds marks : Grounds) (policy : Policy) (from : ℕ) (two : Two) (fault : FetchFault) (o p : Passage) → GoesOn o p → IsUnwritten o
    → FailsAll grounds marks policy from two fault p → FailsAll grounds marks policy from two fault (joined o p)
all_after grounds marks policy from two fault o p on none f = record { why = why_after f.why; fair = f.fair } where
  why_after : (AreStill grounds marks × BreaksOff grounds policy wanted.All from two fault p)
      ⊎ (PrintedWhole (IsWanted policy.origin from two.new wanted.All) p × ((grounds.fails fault × marks.still) ⊎ (grounds.keeps two.note × marks.fails fault)))
      → (AreStill grounds marks × BreaksOff grounds policy wanted.All from two fault (joined o p))
      ⊎ (PrintedWhole (IsWanted policy.origin from two.new wanted.All) (joined o p) × ((grounds.fails fault × marks.still) ⊎ (grounds.keeps two.note × marks.fails fault)))
  why_after (inl (left, broken)) = inl (left, broken_after grounds policy wanted.All from two fault o p on none broken)
  why_after (inr (printed, unkept)) = inr (silent_whole (IsWanted policy.origin from two.new wanted.All) o p on none printed, unkept)

pub two_after : (grounds : Grounds) (policy : Policy) (two : Two) (fault : FetchFault) (o p : Passage) → GoesOn o p → IsUnwritten o
    → RefusesTwo grounds policy two fault p → RefusesTwo grounds policy two fault (joined o p)
two_after grounds policy two fault o p on none (inl (inl (forked, printed))) = inl (inl (forked, silent_whole (IsEvidenceOf policy two) o p on none printed))
two_after grounds policy two fault o p on none (inl (inr (inl ((write, failed), (text, is, part))))) = inl (inr (inl ((write, failed), (text, is, silent_some (λ t. t ≡ text) o p on none part))))
two_after grounds policy two fault o p on none (inl (inr (inr (last, of_none, told, still)))) = inl (inr (inr (last, of_none, told, silent_both o p on none still)))
two_after grounds policy two fault o p on none (inr (fair, still)) = inr (fair, silent_both o p on none still)

grown_after : (grounds marks : Grounds) (policy : Policy) (what : FetchRequest) (two : Two) (fault : FetchFault) (o p : Passage) → GoesOn o p → IsUnwritten o
    → RefusesGrown grounds marks policy what two fault p → RefusesGrown grounds marks policy what two fault (joined o p)
grown_after grounds marks policy wanted.Head two fault o p on none f = fails_after grounds policy wanted.Head two fault o p on none f
grown_after grounds marks policy (wanted.Entry index) two fault o p on none f = fails_after grounds policy (wanted.Entry index) two fault o p on none f
grown_after grounds marks policy (wanted.Raw index) two fault o p on none f = fails_after grounds policy (wanted.Raw index) two fault o p on none f
grown_after grounds marks policy wanted.All two fault o p on none (inl (lacks, fair, left, still)) = inl (lacks, fair, left, silent_both o p on none still)
grown_after grounds marks policy wanted.All two fault o p on none (inr (last, old, had, known, inl (refused, left))) =
    inr (last, old, had, known, inl (two_after grounds policy (since two last old) fault o p on none refused, left))
grown_after grounds marks policy wanted.All two fault o p on none (inr (last, old, had, known, inr (grown, f))) =
    inr (last, old, had, known, inr (grown, all_after grounds marks policy (first_wanted last old two.old) two fault o p on none f))
grown_after grounds marks policy (wanted.Proof index) two fault o p on none f = fails_after grounds policy (wanted.Proof index) two fault o p on none f

-- what is printed of a log that goes on
pub fetched_two : (answers : Resource → Bytes → Type 0) (state marks : Store) (policy : Policy) (what : FetchRequest) (two : Two) (o p : Passage) → AreTwo state.may_have (answers Checkpoint) policy two
    → IsGrown two.old two.new → GoesOn o p → IsUnwritten o → HasPrinted marks.may_have marks.has_kept policy two what p → state.has_kept two.note
    → HasFetched answers state marks policy what (joined o p)
fetched_two answers state marks policy what two o p are grown on none printed kept =
    record { two = two; are = are; grown = grown; printed = print_after marks.may_have marks.has_kept policy two what o p on none printed; kept = kept }

-- what was begun of it
pub begun_two : (grounds marks : Grounds) (policy : Policy) (what : FetchRequest) (two : Two) (fault : FetchFault) (o p : Passage) → AreTwo grounds.has (grounds.answers Checkpoint) policy two
    → IsGrown two.old two.new → GoesOn o p → IsUnwritten o → RefusesGrown grounds marks policy what two fault p
    → RefusesFetch grounds marks policy what fault (joined o p)
begun_two grounds marks policy what two fault o p are grown on none refused =
    inr (two, are, inr (grown, grown_after grounds marks policy what two fault o p on none refused))

-- ---- all entries, from where they were printed

-- the log doesn't go on from there
pub unmarked : (grounds marks : Grounds) (policy : Policy) (two : Two) (last kept : Option Bytes) (old : Head) (fault : FetchFault) (o : Passage) → last ≡ kept → marks.has kept
    → IsKnown policy kept old → IsNoteOf policy two.note two.new → JudgesTwo grounds.answers grounds.lacks (since two last old) fault o → AreStill grounds marks
    → RefusesGrown grounds marks policy wanted.All two fault o
unmarked grounds marks policy two last kept old fault o same had known trusted refused left =
    let here = subst (λ (l : Option Bytes). IsKnown policy l old) (sym same) known in
    inr (last, old, subst marks.has (sym same) had, here, inl (judged grounds policy (since two last old) fault o here trusted refused, left))

-- they were printed from there on
pub all_printed : (may_have : Option Bytes → Type 0) (has_kept : Bytes → Type 0) (policy : Policy) (two : Two) (last : Option Bytes) (old : Head) (from : ℕ) (o p : Passage) → GoesOn o p → IsUnwritten o
    → IsMarked may_have policy two.new last old → from ≡ first_wanted last old two.old → PrintedWhole (IsWanted policy.origin from two.new wanted.All) p → has_kept two.note
    → HasPrinted may_have has_kept policy two wanted.All (joined o p)
all_printed may_have has_kept policy two last old from o p on none marked is printed kept =
    let whole = silent_whole (IsWanted policy.origin from two.new wanted.All) o p on none printed in
    (last, old, marked, subst (λ (n : ℕ). PrintedWhole (IsWanted policy.origin n two.new wanted.All) (joined o p)) is whole, kept)

-- or not all of them
pub all_begun : (grounds marks : Grounds) (policy : Policy) (two : Two) (last : Option Bytes) (old : Head) (from : ℕ) (fault : FetchFault) (o p : Passage) → GoesOn o p → IsUnwritten o
    → IsMarked marks.has policy two.new last old → from ≡ first_wanted last old two.old → FailsAll grounds marks policy from two fault p
    → RefusesGrown grounds marks policy wanted.All two fault (joined o p)
all_begun grounds marks policy two last old from fault o p on none marked is so = inr (
  last,
  old,
  marked.had,
  marked.known,
  inr (
    marked.grown,
    all_after grounds marks policy (first_wanted last old two.old) two fault o p on none
        (subst (λ (n : ℕ). FailsAll grounds marks policy n two fault p) is so),
  ),
)

-- the two checkpoints, by what the code has of them
pub are_two : (may_have : Option Bytes → Type 0) (may_answer : Bytes → Type 0) (policy : Policy) (last kept : Option Bytes) (old new : Head) (read note : Bytes) → last ≡ kept → read ≡ note → may_have kept
    → IsKnown policy kept old → may_answer read → IsNoteOf policy read new → AreTwo may_have may_answer policy (two_of last old note new)
are_two may_have may_answer policy last kept old new read note same_last same_note had known answered trusted = record {
  had = subst may_have (sym same_last) had;
  known = subst (λ (l : Option Bytes). IsKnown policy l old) (sym same_last) known;
  answered = subst may_answer same_note answered;
  trusted = subst (λ (n : Bytes). IsNoteOf policy n new) same_note trusted;
}

-- a run that isn't asked for all entries doesn't read up to where they were printed
unread : (grounds marks others : Grounds) (policy : Policy) (what : FetchRequest) (two : Two) (fault : FetchFault) (o : Passage) → (what ≡ wanted.All → ⊥)
    → RefusesGrown grounds marks policy what two fault o → RefusesGrown grounds others policy what two fault o
unread grounds marks others policy wanted.Head two fault o other f = f
unread grounds marks others policy (wanted.Entry index) two fault o other f = f
unread grounds marks others policy (wanted.Raw index) two fault o other f = f
unread grounds marks others policy wanted.All two fault o other f = absurd (other refl)
unread grounds marks others policy (wanted.Proof index) two fault o other f = f

unread_fetch : (grounds marks others : Grounds) (policy : Policy) (what : FetchRequest) (fault : FetchFault) (o : Passage) → (what ≡ wanted.All → ⊥) → others.still
    → RefusesFetch grounds marks policy what fault o → RefusesFetch grounds others policy what fault o
unread_fetch grounds marks others policy what fault o other left (inl (lacks, fair, still, none)) = inl (lacks, fair, (still.0, left), none)
unread_fetch grounds marks others policy what fault o other left (inr (two, are, inl (refused, still))) = inr (two, are, inl (refused, (still.0, left)))
unread_fetch grounds marks others policy what fault o other left (inr (two, are, inr (grown, f))) =
    inr (two, are, inr (grown, unread grounds marks others policy what two fault o other f))

-- ---- a run that says nothing of what its stores keep

module _ (answers : Resource → Bytes → Type 0) (lacks : Resource → Type 0) (has : Option Bytes → Type 0) (fails : FetchFault → Type 0) (still : Type 0) (keeps : Bytes → Type 0)
    (had : Option Bytes → Type 0) (failed : FetchFault → Type 0) (stays : Type 0) (holds : Bytes → Type 0) where
  abbrev Seen : Grounds
  Seen = grounds_of answers lacks has fails still keeps

  abbrev Marked : Grounds
  Marked = grounds_of answers lacks had failed stays holds

  unseen_fails : (policy : Policy) (what : FetchRequest) (two : Two) (fault : FetchFault) (o : Passage)
      → FailsGrown Seen policy what two fault o → FailsGrown (unseen_of answers lacks has fails) policy what two fault o
  unseen_fails policy what two fault o f = record { why = why_unseen f.why; fair = f.fair } where
    why_unseen : (fails fault × IsUnwritten o) ⊎ (keeps two.note × BreaksOff Seen policy what two.old.size two fault o)
        → (fails fault × IsUnwritten o) ⊎ (Unit {0} × BreaksOff (unseen_of answers lacks has fails) policy what two.old.size two fault o)
    why_unseen (inl first) = inl first
    why_unseen (inr (kept, broken)) = inr (tt, broken)

  unseen_all : (policy : Policy) (from : ℕ) (two : Two) (fault : FetchFault) (o : Passage)
      → FailsAll Seen Marked policy from two fault o → FailsAll (unseen_of answers lacks has fails) (unseen_of answers lacks had failed) policy from two fault o
  unseen_all policy from two fault o f = record { why = why_unseen f.why; fair = f.fair } where
    unkept : (fails fault × stays) ⊎ (keeps two.note × failed fault) → (fails fault × Unit {0}) ⊎ (Unit {0} × failed fault)
    unkept (inl (first, left)) = inl (first, tt)
    unkept (inr (kept, second)) = inr (tt, second)

    why_unseen : ((still × stays) × BreaksOff Seen policy wanted.All from two fault o)
        ⊎ (PrintedWhole (IsWanted policy.origin from two.new wanted.All) o × ((fails fault × stays) ⊎ (keeps two.note × failed fault)))
        → ((Unit {0} × Unit {0}) × BreaksOff (unseen_of answers lacks has fails) policy wanted.All from two fault o)
        ⊎ (PrintedWhole (IsWanted policy.origin from two.new wanted.All) o × ((fails fault × Unit {0}) ⊎ (Unit {0} × failed fault)))
    why_unseen (inl (left, broken)) = inl ((tt, tt), broken)
    why_unseen (inr (printed, second)) = inr (printed, unkept second)

  unseen_grown : (policy : Policy) (what : FetchRequest) (two : Two) (fault : FetchFault) (o : Passage)
      → RefusesGrown Seen Marked policy what two fault o → RefusesGrown (unseen_of answers lacks has fails) (unseen_of answers lacks had failed) policy what two fault o
  unseen_grown policy wanted.Head two fault o f = unseen_fails policy wanted.Head two fault o f
  unseen_grown policy (wanted.Entry index) two fault o f = unseen_fails policy (wanted.Entry index) two fault o f
  unseen_grown policy (wanted.Raw index) two fault o f = unseen_fails policy (wanted.Raw index) two fault o f
  unseen_grown policy wanted.All two fault o (inl (missing, fair, left, none)) = inl (missing, fair, (tt, tt), none)
  unseen_grown policy wanted.All two fault o (inr (last, old, is, known, inl (refused, left))) = inr (last, old, is, known, inl (refused, (tt, tt)))
  unseen_grown policy wanted.All two fault o (inr (last, old, is, known, inr (grown, f))) =
      inr (last, old, is, known, inr (grown, unseen_all policy (first_wanted last old two.old) two fault o f))
  unseen_grown policy (wanted.Proof index) two fault o f = unseen_fails policy (wanted.Proof index) two fault o f

  pub unseen : (policy : Policy) (what : FetchRequest) (fault : FetchFault) (o : Passage)
      → RefusesFetch Seen Marked policy what fault o → RefusesFetch (unseen_of answers lacks has fails) (unseen_of answers lacks had failed) policy what fault o
  unseen policy what fault o (inl (missing, fair, left, none)) = inl (missing, fair, (tt, tt), none)
  unseen policy what fault o (inr (two, are, inl (refused, left))) = inr (two, are, inl (refused, (tt, tt)))
  unseen policy what fault o (inr (two, are, inr (grown, f))) = inr (two, are, inr (grown, unseen_grown policy what two fault o f))

unread_printed : (may_have other_have : Option Bytes → Type 0) (has_kept other_kept : Bytes → Type 0) (policy : Policy) (two : Two) (what : FetchRequest) (o : Passage) → (what ≡ wanted.All → ⊥)
    → HasPrinted may_have has_kept policy two what o → HasPrinted other_have other_kept policy two what o
unread_printed may_have other_have has_kept other_kept policy two wanted.Head o other printed = printed
unread_printed may_have other_have has_kept other_kept policy two (wanted.Entry index) o other printed = printed
unread_printed may_have other_have has_kept other_kept policy two (wanted.Raw index) o other printed = printed
unread_printed may_have other_have has_kept other_kept policy two wanted.All o other printed = absurd (other refl)
unread_printed may_have other_have has_kept other_kept policy two (wanted.Proof index) o other printed = printed

any_printed : (may_have : Option Bytes → Type 0) (has_kept : Bytes → Type 0) (policy : Policy) (two : Two) (what : FetchRequest) (o : Passage)
    → HasPrinted may_have has_kept policy two what o → HasPrinted may_have (λ note. Unit {0}) policy two what o
any_printed may_have has_kept policy two wanted.Head o printed = printed
any_printed may_have has_kept policy two (wanted.Entry index) o printed = printed
any_printed may_have has_kept policy two (wanted.Raw index) o printed = printed
any_printed may_have has_kept policy two wanted.All o (last, old, marked, printed, kept) = (last, old, marked, printed, tt)
any_printed may_have has_kept policy two (wanted.Proof index) o printed = printed

-- how a run ends with a state whose contents nobody sees, and a file of that kind beside it, or none that is read
pub runs_with : (answers : Resource → Bytes → Type 0) (lacks : Resource → Type 0) (has : Option Bytes → Type 0) (fails : FetchFault → Type 0) (still stays : Type 0) (kept marked : Bytes → Type 0) (policy : Policy) (what : FetchRequest) (r : Result (Unit {0}) FetchFault) (o : Passage)
    → OnOk r (HasFetched answers (record { may_have = has; has_kept = kept }) (record { may_have = has; has_kept = marked }) policy what o)
    → IfErr r (λ fault. RefusesFetch (grounds_of answers lacks has fails still kept) (grounds_of answers lacks has fails stays marked) policy what fault o)
    → RunsWith answers lacks has fails policy what o r
runs_with answers lacks has fails still stays kept marked policy what (Ok done) o f refused =
    record { two = f.two; are = f.are; grown = f.grown; printed = any_printed has marked policy f.two what o f.printed; kept = tt }
runs_with answers lacks has fails still stays kept marked policy what (Err fault) o f refused =
    unseen answers lacks has fails still kept has fails stays marked policy what fault o refused

pub runs_without : (answers : Resource → Bytes → Type 0) (lacks : Resource → Type 0) (has other : Option Bytes → Type 0) (fails others : FetchFault → Type 0) (still stays : Type 0) (kept marked : Bytes → Type 0) (policy : Policy) (what : FetchRequest) (r : Result (Unit {0}) FetchFault) (o : Passage)
    → (what ≡ wanted.All → ⊥)
    → OnOk r (HasFetched answers (record { may_have = has; has_kept = kept }) (record { may_have = other; has_kept = marked }) policy what o)
    → IfErr r (λ fault. RefusesFetch (grounds_of answers lacks has fails still kept) (grounds_of answers lacks other others stays marked) policy what fault o)
    → RunsWith answers lacks has fails policy what o r
runs_without answers lacks has other fails others still stays kept marked policy what (Ok done) o some f refused =
    record { two = f.two; are = f.are; grown = f.grown; printed = unread_printed other has marked (λ note. Unit {0}) policy f.two what o some f.printed; kept = tt }
runs_without answers lacks has other fails others still stays kept marked policy what (Err fault) o some f refused =
    unread_fetch (unseen_of answers lacks has fails) (unseen_of answers lacks other others) (unseen_of answers lacks has fails) policy what fault o some tt
    (unseen answers lacks has fails still kept other others stays marked policy what fault o refused)

-- a file fails before there is trust, and nothing was printed
pub no_file : (answers : Resource → Bytes → Type 0) (lacks : Resource → Type 0) (policy : Policy) (what : FetchRequest) (fault : FetchFault) (o : Passage) → IsStateFault fault → IsNoAccusation fault → IsUnwritten o
    → RefusesFetch (unseen_of answers lacks (λ note. Unit {0}) IsStateFault) (unseen_of answers lacks (λ note. Unit {0}) IsStateFault) policy what fault o
no_file answers lacks policy what fault o fails fair none = inl (inl (inl fails), fair, (tt, tt), none)

-- a run without a file of a state, and with one
pub no_state : {A : Type 0} (state : Option A) (answers : Resource → Bytes → Type 0) (lacks : Resource → Type 0) (policy : Policy) (what : FetchRequest) (r : Result (Unit {0}) FetchFault) (o : Passage) → state ≡ None
    → RunsWith answers lacks (λ note. note ≡ None) (λ f. ⊥) policy what o r → RunsWith answers lacks (may_have state) (state_fails state) policy what o r
no_state state answers lacks policy what r o none runs =
    subst (λ s. RunsWith answers lacks (may_have s) (state_fails s) policy what o r) (sym none) runs

pub some_state : {A : Type 0} (state : Option A) (path : A) (answers : Resource → Bytes → Type 0) (lacks : Resource → Type 0) (policy : Policy) (what : FetchRequest) (r : Result (Unit {0}) FetchFault) (o : Passage) → state ≡ Some path
    → RunsWith answers lacks (λ note. Unit {0}) IsStateFault policy what o r → RunsWith answers lacks (may_have state) (state_fails state) policy what o r
some_state state path answers lacks policy what r o some runs =
    subst (λ s. RunsWith answers lacks (may_have s) (state_fails s) policy what o r) (sym some) runs

-- a run without a cache, and with one
pub no_cache : {A : Type 0} (cache : Option A) (answers : Resource → Bytes → Type 0) (lacks : Resource → Type 0) (policy : Policy) (options : FetchOptions) (o : Passage) (result : Result (Unit {0}) FetchFault) → cache ≡ None
    → RunsOver answers lacks policy options o result → RunsOver (cached_answers cache answers) (cached_lacks cache lacks) policy options o result
no_cache cache answers lacks policy options o result none runs =
    subst (λ c. RunsOver (cached_answers c answers) (cached_lacks c lacks) policy options o result) (sym none) runs

pub some_cache : {A P S : Type 0} (cache : Option A) (folder : A) (answers : S → Resource → Bytes → Type 0) (lacks : S → Resource → Type 0) (both : P × S) (first : P) (source : S) (policy : Policy) (options : FetchOptions) (o : Passage) (result : Result (Unit {0}) FetchFault)
    → cache ≡ Some folder → both ≡ (first, source)
    → RunsOver (may_answer_either (λ r text. length text ≤ most_bytes r) (answers both.1)) (may_lack_both (λ r. Unit {0}) (lacks both.1)) policy options o result
    → RunsOver (cached_answers cache (answers source)) (cached_lacks cache (lacks source)) policy options o result
some_cache {A} {P} {S} cache folder answers lacks both first source policy options o result some is runs =
    subst (λ c. RunsOver (cached_answers c (answers source)) (cached_lacks c (lacks source)) policy options o result) (sym some)
    (subst (λ (s : S). RunsOver (may_answer_either (λ r text. length text ≤ most_bytes r) (answers s)) (may_lack_both (λ r. Unit {0}) (lacks s)) policy options o result) (ap (λ (p : P × S). p.1) is) runs)

-- what a fault is told as
pub told_is : (fault : FetchFault) (lack : Option Lack) → IsToldAs fault (told_as fault lack)
told_is fetch.Unavailable (Some lack) = inr (refl, (lack.resource, lack.why, refl))
told_is fetch.Unavailable None = inl refl
told_is (fetch.Run fault) lack = inl refl
told_is (fetch.BadAddress which) lack = inl refl
told_is fetch.OtherKey lack = inl refl
told_is (fetch.BadWitness place) lack = inl refl
told_is (fetch.SharedKey place) lack = inl refl
told_is fetch.OtherLog lack = inl refl
told_is (fetch.TooFew count) lack = inl refl
told_is (fetch.Untrusted why) lack = inl refl
told_is (fetch.Stale time) lack = inl refl
told_is (fetch.BadTile level index width) lack = inl refl
told_is (fetch.BadBundle bundle) lack = inl refl
told_is (fetch.BadEntry index) lack = inl refl
told_is (fetch.Older size of compared) lack = inl refl
told_is fetch.Forked lack = inl refl

pub told_by : (fault told : FetchFault) (lack : Option Lack) → told ≡ told_as fault lack → IsToldAs fault told
told_by fault told lack is = subst (IsToldAs fault) (sym is) (told_is fault lack)

-- the end of a run over a folder or a host, whose fault names what was lacked
pub renamed : (policy : Policy) (options : FetchOptions) (origin : Origin) (lack : Option Lack) (o : Passage) (outcome told : Result (Unit {0}) FetchFault) → IsOriginOf (string_bytes options.from) origin
    → Renames outcome lack told
    → RunsOver (run_answers origin options) (cached_lacks options.cache (λ r. Unit {0})) policy options o outcome
    → RunsUnder policy options o told
renamed policy options origin lack o (Ok done) (Ok again) at same runs = (origin, at, runs)
renamed policy options origin lack o (Ok done) (Err other) at same runs = absurd same
renamed policy options origin lack o (Err fault) (Ok done) at same runs = absurd same
renamed policy options origin lack o (Err fault) (Err other) at same runs = inr (origin, at, (fault, told_by fault other lack same, runs))
