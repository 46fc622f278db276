-- What is true of an operator stays true as calls move it.
use Rattle.std.proofs.Common.{◌≡◌, ℕ, List, [], ◌∷◌, ◌++◌, length, take, get_or, Option, Some, None, refl, sym, ap, subst, ◌∙◌, append-nil, arith}
use Rattle.std.specs.Prelude.{Result, Ok, Err, IfOk, IfErr, option_map}
use Rattle.std.specs.List.{AllZip}
use Rattle.std.specs.Result.{IsErrAnd}
use Rattle.std.proofs.lemmas.List.{take_all}
use Rattle.std.proofs.lemmas.List.Elements.{All-nil, All-push}
use Rattle.sha2.specs.Sha256.{sha256}
use Rattle.tl_hash.specs.Tree.{tree_hash}
use Rattle.tl_note.specs.Key.{SigningKey}
use Rattle.tl_note.specs.Note.{Signature}
use Rattle.tl_text.specs.Text.{IsOneLine}
use Rattle.tl_checkpoint.specs.Checkpoint.{checkpoint_text}
use Rattle.tl_sequencer.specs.Log.{Log, End, entries_of}
use Rattle.tl_sequencer.specs.Merge.{IsMerge}
use Rattle.tl_sequencer.specs.Faults.{MayOpen}
use Rattle.tl_sequencer.specs.Steps.{Takes, Closes, IsComplete, sent_of}
use Rattle.tl_publisher.specs.declared.fault.PublishFault.{PublishFault}
use Rattle.tl_publisher.specs.declared.fault.PublishFault.TheVariants as publish
use Rattle.tl_publisher.specs.declared.fault.OperatorFault.{OperatorFault}
use Rattle.tl_publisher.specs.declared.fault.OperatorFault.TheVariants as operator
use Rattle.tl_checkpoint.specs.Quorum.{AreApart}
use Rattle.tl_log.specs.Histories.{Prefix, Begins, BeginWith, AreOf, IsGrowing, last_of}
use Rattle.tl_publisher.specs.Pasts.{Past}
use Rattle.tl_publisher.specs.Stages.{IsNextOf}
use Rattle.tl_log.specs.Checkpoints.{text_of_log}
use Rattle.tl_publisher.specs.Signed.{AreSigners, IsSignedNote, IsByWitness, AreSignedBy, Quorum, no_quorum}
use Rattle.tl_publisher.specs.Operating.{Operated, IsOperating, IsOfSame, IsProposal, IsClosed}
use Rattle.tl_publisher.specs.Publishing.{Publishes, IsPublication, IsSame, MayOpenAll, OpenRefusesOperator}
use Rattle.tl_publisher.specs.Inner.Noting.{text_of_head}
use Rattle.tl_publisher.specs.Inner.Opening.{IsBegun, IsWant}
use Rattle.tl_publisher.specs.Running.{Running}
use Rattle.tl_publisher.proofs.Runs.{begins_more, taken_entries}
use Rattle.tl_publisher.proofs.Nexts.{follows_growing}
use Rattle.tl_publisher.proofs.Notes.{next_of}
use Rattle.tl_publisher.proofs.Encoded.{all_encoded}

-- a note that nobody had to cosign is one for each quorum that needs nobody
lone_note : (keys : List SigningKey) (q : Quorum) (text bytes : List ℕ) → q.need ≡ 0 → IsSignedNote keys no_quorum text bytes → IsSignedNote keys q text bytes
lone_note keys q text bytes free is = record {
  own = is.own;
  others = is.others;
  noted = is.noted;
  signed = is.signed;
  cosigned = record { places = is.cosigned.places; apart = is.cosigned.apart; each = by_some is.cosigned.places is.others is.cosigned.each };
  enough = omega (arith, free);
}
  where
    by_some : (places : List ℕ) (lines : List Signature) → AllZip (IsByWitness text []) places lines → AllZip (IsByWitness text q.witnesses) places lines
    by_some [] [] each = tt
    by_some [] (l ∷ lines) each = absurd each
    by_some (p ∷ places) [] each = absurd each
    by_some (p ∷ places) (l ∷ lines) each = absurd (let none : None ≡ Some each.0.0 = each.0.2 in cc)

module _ {A : Type 0} where
  -- under the same keys
  note_same : (a b : Operated A) (quorum : Quorum) (entries : List (List ℕ)) (note : List ℕ) → IsOfSame a b → IsSignedNote a.signers quorum (text_of_log a.origin entries) note → IsSignedNote b.signers quorum (text_of_log b.origin entries) note
  note_same a b quorum entries note same is =
      subst (λ (o : List ℕ). IsSignedNote b.signers quorum (text_of_log o entries) note) (sym same.origin) (subst (λ (k : List SigningKey). IsSignedNote k quorum (text_of_log a.origin entries) note) (sym same.signers) is)

  signed_same : (a b : Operated A) (history : List Prefix) → IsOfSame a b → AreSignedBy a.origin a.signers a.quorum history → AreSignedBy b.origin b.signers b.quorum history
  signed_same a b history same is k d less = subst (λ (q : Quorum). IsSignedNote b.signers q (text_of_log b.origin (get_or history k d).entries) (get_or history k d).note) (sym same.quorum)
      (note_same a b a.quorum (get_or history k d).entries (get_or history k d).note same (is k d less))

  proposal_more : (a b : Operated A) (more : List (List ℕ)) (p : Prefix) → IsOfSame a b → b.past ≡ a.past → b.log.base ≡ a.log.base → entries_of b.log ≡ entries_of a.log ++ more → IsProposal a p → IsProposal b p
  proposal_more a b more p same past base entries is = record {
    beginning = subst (Begins p.entries) (sym entries) (begins_more p.entries (entries_of a.log) more is.beginning);
    based = subst (λ (es : List (List ℕ)). Begins es p.entries) (sym base) is.based;
    next = subst (λ (h : Past). IsNextOf (last_of h.log) p) (sym past) is.next;
    signed = note_same a b no_quorum p.entries p.note same is.signed;
  }

  -- nothing but the end of the log moved, and the proposal, which is one
  pub operating_with : (a b : Operated A) (more : List (List ℕ)) → IsOfSame a b → b.past ≡ a.past → b.log.base ≡ a.log.base → entries_of b.log ≡ entries_of a.log ++ more → IsOperating a
      → (b.quorum.need ≡ 0 → b.proposal ≡ None) → ((p : Prefix) → b.proposal ≡ Some p → IsProposal b p) → IsOperating b
  operating_with a b more same past base entries is free proposed =
      let log : b.past.log ≡ a.past.log = ap (λ (p : Past). p.log) past in
      record {
        origin = subst IsOneLine (sym same.origin) is.origin;
        signers = subst AreSigners (sym same.signers) is.signers;
        apart = subst (λ (q : Quorum). AreApart q.witnesses) (sym same.quorum) is.apart;
        few = omega (arith, ap (λ (k : List SigningKey). length k) same.signers, ap (λ (q : Quorum). length q.witnesses) same.quorum, is.few);
        free = free;
        proposed = proposed;
        beginnings = subst (AreOf (entries_of b.log)) (sym log) (subst (λ (l : List (List ℕ)). AreOf l a.past.log) (sym entries) (λ k d less. begins_more _ (entries_of a.log) more (is.beginnings k d less)));
        based = subst (BeginWith b.log.base) (sym log) (subst (λ (es : List (List ℕ)). BeginWith es a.past.log) (sym base) is.based);
        growing = subst IsGrowing (sym log) is.growing;
        signed = signed_same a b b.past.log same (subst (AreSignedBy a.origin a.signers a.quorum) (sym log) is.signed);
      }

  -- nothing but the end of the log moved
  operating_more : (a b : Operated A) (more : List (List ℕ)) → IsOfSame a b → b.proposal ≡ a.proposal → b.past ≡ a.past → b.log.base ≡ a.log.base → entries_of b.log ≡ entries_of a.log ++ more → IsOperating a → IsOperating b
  operating_more a b more same proposal past base entries is =
      operating_with a b more same past base entries is
      (λ none. proposal ∙ is.free (sym (ap (λ (q : Quorum). q.need) same.quorum) ∙ none))
      (λ p at. proposal_more a b more p same past base entries (is.proposed p (sym proposal ∙ at)))

  pub operating_still : (a b : Operated A) → IsOfSame a b → IsSame a b → IsOperating a → IsOperating b
  operating_still a b same still is = operating_more a b [] same still.proposal still.past (ap (λ (l : Log A). l.base) still.log) (ap entries_of still.log ∙ sym (append-nil (entries_of a.log))) is

  pub operating_takes : {F : Type 0} (r : Result ℕ F) (lane : ℕ) (a b : Operated A) → IsOfSame a b → b.proposal ≡ a.proposal → b.past ≡ a.past → IfOk r (λ n. Takes lane n a.log b.log) → IfErr r (λ _. b.log ≡ a.log) → IsOperating a → IsOperating b
  operating_takes (Ok n) lane a b same proposal past took kept is = operating_more a b took.more same proposal past took.base (taken_entries a.log b.log took.more took.base took.taken) is
  operating_takes (Err e) lane a b same proposal past took kept is = operating_still a b same (record { log = kept; proposal = proposal; past = past }) is

  pub operating_closes : {F : Type 0} (r : Result ℕ F) (end : End A) (a b : Operated A) → IsOfSame a b → b.proposal ≡ a.proposal → b.past ≡ a.past → IfOk r (λ n. Closes end n a.log b.log) → IfErr r (λ _. b.log ≡ a.log) → IsOperating a → IsOperating b
  operating_closes (Ok n) end a b same proposal past took kept is = operating_more a b took.more same proposal past took.base (taken_entries a.log b.log took.more took.base took.taken) is
  operating_closes (Err e) end a b same proposal past took kept is = operating_still a b same (record { log = kept; proposal = proposal; past = past }) is

  -- one publication more, of a beginning of the log with all that it began with, after which nothing is proposed
  pub operating_next : (a b : Operated A) (q : Prefix) → IsOfSame a b → b.log ≡ a.log → b.proposal ≡ None → b.past.log ≡ a.past.log ++ q ∷ [] → Begins q.entries (entries_of a.log) → Begins a.log.base q.entries → IsNextOf (last_of a.past.log) q
      → IsSignedNote a.signers a.quorum (text_of_log a.origin q.entries) q.note → IsOperating a → IsOperating b
  operating_next a b q same log none history beginning based next signed before = record {
    origin = subst IsOneLine (sym same.origin) before.origin;
    signers = subst AreSigners (sym same.signers) before.signers;
    apart = subst (λ (k : Quorum). AreApart k.witnesses) (sym same.quorum) before.apart;
    few = omega (arith, ap (λ (k : List SigningKey). length k) same.signers, ap (λ (k : Quorum). length k.witnesses) same.quorum, before.few);
    free = λ _. none;
    proposed = λ p at. absurd (let no_more : None ≡ Some p = sym none ∙ at in cc);
    beginnings = subst (AreOf (entries_of b.log)) (sym history)
        (subst (λ (l : Log A). AreOf (entries_of l) (a.past.log ++ q ∷ [])) (sym log)
        (All-push (λ (x : Prefix). Begins x.entries (entries_of a.log)) a.past.log q before.beginnings beginning));
    based = subst (BeginWith b.log.base) (sym history)
        (subst (λ (l : Log A). BeginWith l.base (a.past.log ++ q ∷ [])) (sym log)
        (All-push (λ (x : Prefix). Begins a.log.base x.entries) a.past.log q before.based based));
    growing = subst IsGrowing (sym history) (follows_growing a.past.log q before.growing next);
    signed = signed_same a b b.past.log same (subst (AreSignedBy a.origin a.signers a.quorum) (sym history)
        (All-push (λ (x : Prefix). IsSignedNote a.signers a.quorum (text_of_log a.origin x.entries) x.note) a.past.log q before.signed signed));
  }

  pub operating_publishes : (r : Result Past PublishFault) (a b : Operated A) → IsOfSame a b → Publishes a b r → IsOperating a → IsOperating b
  operating_publishes (Err publish.NothingNew) a b same is before = operating_still a b same is.2 before
  operating_publishes (Err (publish.Sign place)) a b same is before = operating_still a b same is.3 before
  operating_publishes (Err publish.Quorum) a b same is before = operating_still a b same is.1 before
  operating_publishes (Err publish.OutOfMemory) a b same is before = operating_still a b same is.2 before
  operating_publishes (Ok p) a b same is before =
      let made = is.2 in
      let text : List ℕ = text_of_log a.origin (entries_of a.log) in
      operating_next a b (record { entries = entries_of a.log; note = made.note }) same made.log (made.proposal ∙ before.free is.0) made.history ([], append-nil (entries_of a.log)) (a.log.taken, refl)
      (next_of a.past.log (entries_of a.log) made.note before.beginnings is.1) (lone_note a.signers a.quorum text made.note is.0 made.signed) before

  pub operating_new : (words : List ℕ) (keys : List SigningKey) (o : Operated A) → IsBegun words keys o → IsOneLine words → AreSigners keys → IsOperating o
  operating_new words keys o is one_line are =
      let apart : AreApart [] = λ i j d less within. absurd (omega (arith, within)) in
      record {
        origin = subst IsOneLine (sym is.origin) one_line;
        signers = subst AreSigners (sym is.signers) are;
        apart = subst (λ (q : Quorum). AreApart q.witnesses) (sym is.free) apart;
        few = omega (arith, ap (λ (k : List SigningKey). length k) is.signers, ap (λ (q : Quorum). length q.witnesses) is.free, are.few);
        free = λ _. is.unproposed;
        proposed = λ p at. absurd (let no_more : None ≡ Some p = sym is.unproposed ∙ at in cc);
        beginnings = subst (AreOf (entries_of o.log)) (sym is.unpublished) (All-nil (λ (q : Prefix). Begins q.entries (entries_of o.log)));
        based = subst (BeginWith o.log.base) (sym is.unpublished) (All-nil (λ (q : Prefix). Begins o.log.base q.entries));
        growing = subst IsGrowing (sym is.unpublished) tt;
        signed = subst (AreSignedBy o.origin o.signers o.quorum) (sym is.unpublished) (All-nil (λ (q : Prefix). IsSignedNote o.signers o.quorum (text_of_log o.origin q.entries) q.note));
      }

  pub closed_of : (o : Operated A) (complete : Log A) (past : Past) → complete ≡ o.log → past ≡ o.past → IsComplete complete → IsMerge (entries_of complete) complete.base (sent_of complete) → IsOperating o → IsClosed o complete past
  closed_of o complete past log kept whole merge is =
      let history : past.log ≡ o.past.log = ap (λ (p : Past). p.log) kept in
      let beginnings : AreOf (entries_of complete) past.log = subst (AreOf (entries_of complete)) (sym history) (subst (λ (l : Log A). AreOf (entries_of l) o.past.log) (sym log) is.beginnings) in
      let signed : AreSignedBy o.origin o.signers o.quorum past.log = subst (AreSignedBy o.origin o.signers o.quorum) (sym history) is.signed in
      record {
        log = log;
        past = kept;
        complete = whole;
        merge = merge;
        beginnings = beginnings;
        based = subst (BeginWith complete.base) (sym history) (subst (λ (l : Log A). BeginWith l.base o.past.log) (sym log) is.based);
        growing = subst IsGrowing (sym history) is.growing;
        signed = signed;
        encoded = all_encoded o.origin o.signers o.quorum (entries_of complete) past.log beginnings signed;
      }

-- `Place` or `OutOfMemory`, if nothing else is wrong
pub want_refuses : (origin : List ℕ) (signers : List SigningKey) (lanes capacity limit readers : ℕ) (fault : OperatorFault) → MayOpenAll origin signers readers → MayOpen lanes capacity limit → IsWant fault
    → OpenRefusesOperator origin signers lanes capacity limit readers fault
want_refuses origin signers lanes capacity limit readers operator.Place all may is = (all, may)
want_refuses origin signers lanes capacity limit readers operator.OutOfMemory all may is = (all, may)
want_refuses origin signers lanes capacity limit readers operator.Origin all may is = absurd is
want_refuses origin signers lanes capacity limit readers operator.Signers all may is = absurd is
want_refuses origin signers lanes capacity limit readers operator.Readers all may is = absurd is
want_refuses origin signers lanes capacity limit readers (operator.Lanes fault) all may is = absurd is

-- the same for a caller that returns the fault
pub want_passes : {T : Type 0} (origin : List ℕ) (signers : List SigningKey) (lanes capacity limit readers : ℕ) (given : OperatorFault) (r : Result T OperatorFault) → IsErrAnd r (λ fault. fault ≡ given) → IsWant given
    → MayOpenAll origin signers readers → MayOpen lanes capacity limit → IfErr r (λ fault. OpenRefusesOperator origin signers lanes capacity limit readers fault)
want_passes origin signers lanes capacity limit readers given (Ok x) same want all may = tt
want_passes origin signers lanes capacity limit readers given (Err fault) same want all may = want_refuses origin signers lanes capacity limit readers fault all may (subst IsWant (sym same) want)

-- nothing is proposed, whatever would be made of it
pub none_proposed : {X Y : Type 0} (f g : X → Y) (o : Option X) → option_map f o ≡ None → option_map g o ≡ option_map f o
none_proposed f g None is = refl
none_proposed f g (Some x) is = absurd (cc)

-- a publication under a note of the log's checkpoint
pub publication_of : {A : Type 0} (a b : Operated A) (old mid new : Running A) (size : ℕ) (root note : List ℕ) (p : Past)
    → a.log ≡ old.log → a.past ≡ old.past → b.log ≡ new.log → b.past ≡ new.past → b.proposal ≡ a.proposal
    → (mid.log ≡ old.log) × (mid.past ≡ old.past) → mid.grown ≡ length (entries_of old.log) → (size ≡ length (entries_of old.log)) × (root ≡ tree_hash sha256 (entries_of old.log))
    → IsSignedNote a.signers no_quorum (text_of_head a.origin size root) note → (new.log ≡ mid.log) × (new.grown ≡ mid.grown) → new.past.book ≡ mid.past.book
    → (new.past.log ≡ mid.past.log ++ record { entries = take mid.grown (entries_of mid.log); note = note } ∷ []) × (p ≡ new.past)
    → IsPublication a b p
publication_of a b old mid new size root note p a_log a_past b_log b_past proposal same grown head signed log book shown =
    let entries : take mid.grown (entries_of mid.log) ≡ entries_of a.log =
    ap (λ (l : Log _). take mid.grown (entries_of l)) same.0 ∙ take_all mid.grown (entries_of old.log) (omega (arith, grown)) ∙ ap entries_of (sym a_log) in
    let past : mid.past ≡ a.past = same.1 ∙ sym a_past in
    let size_is : size ≡ length (entries_of a.log) = head.0 ∙ ap (λ (l : Log _). length (entries_of l)) (sym a_log) in
    let root_is : root ≡ tree_hash sha256 (entries_of a.log) = head.1 ∙ ap (λ (l : Log _). tree_hash sha256 (entries_of l)) (sym a_log) in
    let text : text_of_head a.origin size root ≡ text_of_log a.origin (entries_of a.log) =
    λ i. checkpoint_text (record { origin = a.origin; size = size_is i; root = root_is i; extensions = [] }) in
    record {
      note = note;
      signed = subst (λ (t : List ℕ). IsSignedNote a.signers no_quorum t note) text signed;
      log = b_log ∙ log.0 ∙ same.0 ∙ sym a_log;
      proposal = proposal;
      book = ap (λ (q : Past). q.book) b_past ∙ book ∙ ap (λ (q : Past). q.book) past;
      history = ap (λ (q : Past). q.log) b_past ∙ shown.0 ∙ (λ i. (past i).log ++ record { entries = entries i; note = note } ∷ []);
      told = shown.1 ∙ sym b_past;
    }
