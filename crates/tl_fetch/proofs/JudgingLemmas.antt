-- Two checkpoints that were judged, and evidence by their notes.
use Rattle.std.proofs.Common.{◌≡◌, ◌∙◌, ◌++◌, ◌+◌, ◌<◌, ◌≤◌, false, ℕ, length, take, inl, inr, [], Option, Some, None, Result, Ok, Err, IfErr, refl, sym, ap, subst, arith}
use Rattle.sha2.specs.Sha256.{sha256}
use Rattle.tl_hash.specs.Bytes.{Bytes}
use Rattle.tl_hash.specs.declared.head.Head.{Head}
use Rattle.std.proofs.KnownBytes.{Appends-trans}
use Rattle.std.specs.Io.KnownBytes.{Appends, Keeps}
use Rattle.std.proofs.Math.Seq.{take-append_seam}
use Rattle.tl_device.specs.Device.{IsUnwritten, Passage, WroteWhole}
use Rattle.tl_proof.specs.Acceptance.{AcceptsConsistency}
use Rattle.tl_checkpoint.specs.Checkpoint as checkpoint
use Rattle.tl_tile.specs.declared.resource.Resource.{Resource}
use Rattle.tl_client.specs.Refused.{IsFork, RefusesGrowth}
use Rattle.tl_client.specs.declared.fault.ClientFault.{ClientFault}
use Rattle.tl_client.specs.declared.fault.ClientFault.TheVariants as client
use Rattle.tl_command.specs.ProofText.{Consistency, IsConsistency, consistency_text}
use Rattle.tl_fork.specs.Evidence.{Disagree, LeadsElsewhere}
use Rattle.tl_fetch.specs.declared.fault.FetchFault.{FetchFault}
use Rattle.tl_fetch.specs.declared.fault.FetchFault.TheVariants as fetch
use Rattle.tl_fetch.specs.Faults.{after_client}
use Rattle.tl_fetch.specs.Evidence.{IsEvidenceOf, IsOfNoLog, LacksProof, RefusesComparison, evidence_text}
use Rattle.tl_fetch.specs.Fetching.{Grounds, IsAccusation, RefusesTwo}
use Rattle.tl_fetch.specs.Inner.Judging.{Accuses, JudgesTwo, LeadsTo, bare}
use Rattle.tl_fetch.specs.Printed.{PrintedSome, PrintedWhole}
use Rattle.tl_fetch.proofs.ListingLemmas.{part_after}
use Rattle.tl_fetch.proofs.Passages.{GoesOn, joined}
use Rattle.tl_fetch.specs.Trusting.{IsGrown, IsKnown, IsNoteOf, Policy, Two, alone}

-- a proof to the larger tree from the smaller one's root, and from another one
pub grown_by : (smaller larger : Head) (p : Consistency) → LeadsTo smaller.size larger p → p.old_root ≡ smaller.root → IsGrown smaller larger
grown_by smaller larger p leads same = (
  p.proof,
  subst (λ (r : Bytes). AcceptsConsistency sha256 p.proof larger.size larger.root smaller.size r) same
      (subst (λ (n : ℕ). AcceptsConsistency sha256 p.proof larger.size larger.root n p.old_root) leads.old_is
      (subst (λ (r : Bytes). AcceptsConsistency sha256 p.proof larger.size r p.old p.old_root) leads.root_is
      (subst (λ (n : ℕ). AcceptsConsistency sha256 p.proof n p.root p.old p.old_root) leads.size_is leads.accepted))),
)

pub apart_by : (smaller larger : Head) (p : Consistency) (text : Bytes) → LeadsTo smaller.size larger p → (p.old_root ≡ smaller.root → ⊥) → IsConsistency p
    → text ≡ consistency_text p → Disagree (bare smaller) (bare larger) text
apart_by smaller larger p text leads other lawful is =
    inr (p, lawful, is, inl (record { accepted = leads.accepted; old = leads.old_is; other = other; size = leads.size_is; root = leads.root_is }))

-- two roots at one size
pub apart_at : (smaller larger : Head) (text : Bytes) → smaller.size ≡ larger.size → (smaller.root ≡ larger.root → ⊥) → text ≡ []
    → Disagree (bare smaller) (bare larger) text
apart_at smaller larger text same other none = inl (none, record { size = same; roots = other })

-- that two heads disagree doesn't depend on their order
pub apart_back : (a b : Head) (shown : Bytes) → Disagree (bare a) (bare b) shown → Disagree (bare b) (bare a) shown
apart_back a b shown (inl (none, two)) = inl (none, record { size = sym two.size; roots = λ e. two.roots (sym e) })
apart_back a b shown (inr (p, lawful, is, inl leads)) = inr (p, lawful, is, inr leads)
apart_back a b shown (inr (p, lawful, is, inr leads)) = inr (p, lawful, is, inl leads)

-- a growth refused as a fork, without what would show it
pub fork_at : (answers : Resource → Bytes → Type 0) (lacks : Resource → Type 0) (smaller larger : Head) (fault : ClientFault) → fault ≡ client.Forked
    → RefusesGrowth answers lacks smaller larger fault → IsFork sha256 smaller larger
fork_at answers lacks smaller larger fault is refused = subst (λ (f : ClientFault). RefusesGrowth answers lacks smaller larger f) is refused

pub not_compared : {X : Type 0} (answers : Resource → Bytes → Type 0) (lacks : Resource → Type 0) (smaller larger : Head) (r : Result X ClientFault) → IsFork sha256 smaller larger
    → (smaller.size ≡ larger.size → ⊥) → IfErr r (LacksProof answers lacks smaller.size larger) → IfErr r (RefusesComparison answers lacks smaller larger)
not_compared answers lacks smaller larger (Ok x) fork apart refused = tt
not_compared answers lacks smaller larger (Err why) fork apart refused = inr (fork, apart, refused)

-- ---- by checkpoints of these sizes and roots

elsewhere_of : (a b : Head) (c d : checkpoint.Head) (p : Consistency) → c.size ≡ a.size → c.root ≡ a.root → d.size ≡ b.size → d.root ≡ b.root
    → LeadsElsewhere (bare a) (bare b) p → LeadsElsewhere c d p
elsewhere_of a b c d p cs cr ds dr leads = record {
  accepted = leads.accepted;
  old = leads.old ∙ sym cs;
  other = λ e. leads.other (e ∙ cr);
  size = leads.size ∙ sym ds;
  root = leads.root ∙ sym dr;
}

disagree_of : (a b : Head) (c d : checkpoint.Head) (shown : Bytes) → c.size ≡ a.size → c.root ≡ a.root → d.size ≡ b.size → d.root ≡ b.root
    → Disagree (bare a) (bare b) shown → Disagree c d shown
disagree_of a b c d shown cs cr ds dr (inl (none, two)) =
    inl (none, record { size = cs ∙ two.size ∙ sym ds; roots = λ e. two.roots (sym cr ∙ e ∙ dr) })
disagree_of a b c d shown cs cr ds dr (inr (p, lawful, is, inl leads)) = inr (p, lawful, is, inl (elsewhere_of a b c d p cs cr ds dr leads))
disagree_of a b c d shown cs cr ds dr (inr (p, lawful, is, inr leads)) = inr (p, lawful, is, inr (elsewhere_of b a d c p ds dr cs cr leads))

evidence_of : (policy : Policy) (two : Two) (last shown : Bytes) → two.last ≡ Some last → IsNoteOf (alone policy) last two.old → IsNoteOf policy two.note two.new
    → Disagree (bare two.old) (bare two.new) shown → IsEvidenceOf policy two (evidence_text last two.note shown)
evidence_of policy two last shown had old new apart = record {
  last = last;
  had = had;
  shown = shown;
  is = refl;
  evidence = record {
    first = last;
    second = two.note;
    proof = shown;
    a = old.checkpoint;
    b = new.checkpoint;
    parts = refl;
    first_of = record { signed = old.trusted.1.signed; named = old.origin };
    second_of = record { signed = new.trusted.1.signed; named = new.origin };
    disagree = disagree_of two.old two.new old.checkpoint new.checkpoint shown old.size old.root new.size new.root apart;
  };
}

-- ---- without a note

abbrev none_head : Head
none_head = record { size = 0; root = sha256 [] }

from_none : (p : Consistency) (old new : Head) → old ≡ none_head → LeadsElsewhere (bare old) (bare new) p
    → AcceptsConsistency sha256 p.proof p.size p.root p.old p.old_root → IsOfNoLog new
unfolding AcceptsConsistency
from_none p old new is leads (inl (same, none, equal)) = record {
  empty = sym leads.size ∙ sym same ∙ leads.old ∙ ap (λ (h : Head). h.size) is;
  other = λ e. leads.other (equal ∙ leads.root ∙ e ∙ sym (ap (λ (h : Head). h.root) is));
}
from_none p old new is leads (inr (inl (zero_is, some, none, equal))) = absurd (leads.other (equal ∙ sym (ap (λ (h : Head). h.root) is)))
from_none p old new is leads (inr (inr (some, less, to))) =
    let zero_is : p.old ≡ 0 = leads.old ∙ ap (λ (h : Head). h.size) is in
    absurd (omega (arith, zero_is, some))

to_none : (p : Consistency) (old new : Head) → old ≡ none_head → LeadsElsewhere (bare new) (bare old) p
    → AcceptsConsistency sha256 p.proof p.size p.root p.old p.old_root → IsOfNoLog new
unfolding AcceptsConsistency
to_none p old new is leads (inl (same, none, equal)) = record {
  empty = sym leads.old ∙ same ∙ leads.size ∙ ap (λ (h : Head). h.size) is;
  other = λ e. leads.other (equal ∙ leads.root ∙ ap (λ (h : Head). h.root) is ∙ sym e);
}
to_none p old new is leads (inr (inl (zero_is, some, none, equal))) =
    let size_is : p.size ≡ 0 = leads.size ∙ ap (λ (h : Head). h.size) is in
    absurd (omega (arith, size_is, some))
to_none p old new is leads (inr (inr (some, less, to))) =
    let size_is : p.size ≡ 0 = leads.size ∙ ap (λ (h : Head). h.size) is in
    absurd (omega (arith, size_is, less))

no_log : (old new : Head) (shown : Bytes) → old ≡ none_head → Disagree (bare old) (bare new) shown → IsOfNoLog new
no_log old new shown is (inl (none, two)) = record {
  empty = sym two.size ∙ ap (λ (h : Head). h.size) is;
  other = λ e. two.roots (ap (λ (h : Head). h.root) is ∙ sym e);
}
no_log old new shown is (inr (p, lawful, spelled, inl leads)) = from_none p old new is leads leads.accepted
no_log old new shown is (inr (p, lawful, spelled, inr leads)) = to_none p old new is leads leads.accepted

-- ---- a judgement over two notes that are trusted

known_by : (policy : Policy) (two : Two) (l : Option Bytes) → two.last ≡ l → IsKnown policy two.last two.old → IsKnown policy l two.old
known_by policy two l is known = subst (λ (k : Option Bytes). IsKnown policy k two.old) is known

accused : (policy : Policy) (two : Two) (fault : FetchFault) (o : Passage) → IsKnown policy two.last two.old → IsNoteOf policy two.note two.new
    → Accuses two fault o → IsAccusation policy two fault o
accused policy two fault o known new (shown, apart, inl (none, fault_is, silent)) =
    inr (inr (none, no_log two.old two.new shown (known_by policy two None none known) apart, fault_is, silent))
accused policy two fault o known new (shown, apart, inr (last, had, inl (forked, (text, is, wrote)))) =
    inl (forked, (text, subst (IsEvidenceOf policy two) (sym is) (evidence_of policy two last shown had (known_by policy two (Some last) had known) new apart), wrote))
accused policy two fault o known new (shown, apart, inr (last, had, inr (write, part))) =
    inr (inl (write, (evidence_text last two.note shown, evidence_of policy two last shown had (known_by policy two (Some last) had known) new apart, part)))

pub judged : (grounds : Grounds) (policy : Policy) (two : Two) (fault : FetchFault) (o : Passage) → IsKnown policy two.last two.old → IsNoteOf policy two.note two.new
    → JudgesTwo grounds.answers grounds.lacks two fault o → RefusesTwo grounds policy two fault o
judged grounds policy two fault o known new (inl accuses) = inl (accused policy two fault o known new accuses)
judged grounds policy two fault o known new (inr unaccused) = inr unaccused

-- nobody is accused: two checkpoints weren't compared, or the new one can't be judged
pub uncompared : (answers : Resource → Bytes → Type 0) (lacks : Resource → Type 0) (two : Two) (told : FetchFault) (o : Passage) (why : ClientFault) → told ≡ fetch.Older two.new.size two.old.size false
    → two.new.size < two.old.size → RefusesComparison answers lacks two.new two.old why → IsUnwritten o → JudgesTwo answers lacks two told o
uncompared answers lacks two told o why is less refused none =
    subst (λ (f : FetchFault). JudgesTwo answers lacks two f o) (sym is) (inr ((refl, refl, less, (why, refused)), none))

pub unjudged : (answers : Resource → Bytes → Type 0) (lacks : Resource → Type 0) (two : Two) (told : FetchFault) (o : Passage) (why : ClientFault) → told ≡ after_client why
    → two.old.size ≤ two.new.size → RefusesComparison answers lacks two.old two.new why → IsUnwritten o → JudgesTwo answers lacks two told o
unjudged answers lacks two told o client.Range is order refused none =
    subst (λ (f : FetchFault). JudgesTwo answers lacks two f o) (sym is) (inr ((order, (client.Range, refused, refl)), none))
unjudged answers lacks two told o client.Unavailable is order refused none =
    subst (λ (f : FetchFault). JudgesTwo answers lacks two f o) (sym is) (inr ((order, (client.Unavailable, refused, refl)), none))
unjudged answers lacks two told o (client.BadTile level index width) is order refused none =
    subst (λ (f : FetchFault). JudgesTwo answers lacks two f o) (sym is) (inr ((order, (client.BadTile level index width, refused, refl)), none))
unjudged answers lacks two told o (client.BadBundle bundle) is order refused none =
    subst (λ (f : FetchFault). JudgesTwo answers lacks two f o) (sym is) (inr ((order, (client.BadBundle bundle, refused, refl)), none))
unjudged answers lacks two told o (client.BadEntry entry) is order refused none =
    subst (λ (f : FetchFault). JudgesTwo answers lacks two f o) (sym is) (inr ((order, (client.BadEntry entry, refused, refl)), none))
unjudged answers lacks two told o client.Shrunk is order refused none =
    subst (λ (f : FetchFault). JudgesTwo answers lacks two f o) (sym is) (inr ((order, (client.Shrunk, refused, refl)), none))
unjudged answers lacks two told o client.Forked is order refused none =
    subst (λ (f : FetchFault). JudgesTwo answers lacks two f o) (sym is) (inr ((order, (client.Forked, refused, refl)), none))
unjudged answers lacks two told o client.OutOfMemory is order refused none =
    subst (λ (f : FetchFault). JudgesTwo answers lacks two f o) (sym is) (inr ((order, (client.OutOfMemory, refused, refl)), none))

-- ---- what is printed of evidence

appends_keeps : (a b c : Option Bytes) (bs : Bytes) → Appends a b bs → Keeps b c → Appends a c bs
appends_keeps None b c bs p k = tt
appends_keeps (Some x) None c bs p k = absurd p
appends_keeps (Some x) (Some y) None bs p k = absurd k
appends_keeps (Some x) (Some y) (Some z) bs p k = k ∙ p

after_first : (o p : Passage) (second text : Bytes) → GoesOn o p → Appends p.old p.new text → text ≡ second → Appends o.new p.new second
after_first o p second text on wrote is =
    subst (λ (b : Option Bytes). Appends b p.new second) (sym on.bytes) (subst (Appends p.old p.new) is wrote)

pub whole_after : (first second a b : Bytes) (o p : Passage) → GoesOn o p → WroteWhole o first → first ≡ a → second ≡ b → PrintedWhole (λ t. t ≡ second) p
    → PrintedWhole (λ t. t ≡ a ++ b) (joined o p)
whole_after first second a b o p on whole first_is second_is (text, is, wrote) = (
  first ++ second,
  ap (λ (t : Bytes). t ++ second) first_is ∙ ap (λ (t : Bytes). a ++ t) second_is,
  record {
    appended = Appends-trans o.old o.new p.new first second whole.appended (after_first o p second text on wrote.appended is);
    steady = wrote.steady ∙ sym on.failed ∙ whole.steady;
  },
)

pub some_after : (first second a b : Bytes) (o p : Passage) → GoesOn o p → WroteWhole o first → first ≡ a → second ≡ b → PrintedSome (λ t. t ≡ second) p
    → PrintedSome (λ t. t ≡ a ++ b) (joined o p)
some_after first second a b o p on whole first_is second_is (inl still) = inr (
  first ++ second,
  ap (λ (t : Bytes). t ++ second) first_is ∙ ap (λ (t : Bytes). a ++ t) second_is,
  length first,
  subst (Appends o.old p.new) (sym (take-append_seam first second))
      (appends_keeps o.old o.new p.new first whole.appended (subst (λ (k : Option Bytes). Keeps k p.new) (sym on.bytes) still.0)),
)
some_after first second a b o p on whole first_is second_is (inr (text, is, count, part)) = inr (
  first ++ second,
  ap (λ (t : Bytes). t ++ second) first_is ∙ ap (λ (t : Bytes). a ++ t) second_is,
  length first + count,
  part_after o.old o.new p.new first second count whole.appended
      (after_first o p (take count second) (take count text) on part (ap (take count) is)),
)
