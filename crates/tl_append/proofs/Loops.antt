-- The loop over batches, each of which is published with what the next one adds.
use Rattle.std.proofs.Common.{inl, inr, ◌≡◌, ◌⊎◌, ℕ, ◌+◌, ◌<◌, ◌≤◌, Bool, true, false, length, arith, List, [], ◌∷◌, ◌++◌, Option, None, Some, refl, sym, ap, subst, ◌∙◌, append_assoc}
use Rattle.std.specs.Prelude.{All, ⊤}
use Rattle.std.specs.List.{flat_map}
use Rattle.std.proofs.KnownBytes.{Appends-nil, Appends-trans}
use Rattle.std.proofs.lemmas.List.{append-nil, length-append, length_push}
use Rattle.std.proofs.lemmas.List.Elements.{All-append, All-head, All-nil}
use Rattle.std.proofs.lemmas.Grind.{flat_map-append}
use Rattle.tl_hash.specs.Bytes.{Bytes}
use Rattle.tl_device.specs.Device.{HasFailed, Passage, WroteWhole}
use Rattle.tl_lines.specs.Lines.{Uncut, unread}
use Rattle.tl_lines.specs.Reading.{TellsAll, TellsOf, all_entries}
use Rattle.tl_lines.proofs.ReadingLemmas.{over}
use Rattle.tl_tile.specs.declared.resource.Resource.TheVariants as resource
use Rattle.tl_log.specs.Histories.{Prefix}
use Rattle.tl_archive.specs.Shelves.{Kept}
use Rattle.tl_ledger.specs.Standing.{Ledger}
use Rattle.tl_ledger.specs.Keeping.{published}
use Rattle.tl_ledger.specs.Spent.{LacksSpent}
use Rattle.tl_run.specs.Signing.{LogKey, checkpoint_note}
use Rattle.tl_append.specs.Appending.{AppendsLines, AppendsSome, AppendsThen, AreBatches, AreFirst, Course, LacksSpentByLast, PrintsHeads, WasThere, WereThere, joined, publication_line, published_after}
use Rattle.tl_append.specs.Inner.Due.{IsSigned, PrintsDue, PublishesDue, ShowsDue, due_of}
use Rattle.tl_append.specs.Inner.Owing.{HasEnded, IsOwed, IsSoFar, LeavesLast, LeavesSome}
use Rattle.tl_append.specs.declared.due.Due.{Due}
use Rattle.tl_append.proofs.Turns.{along, history_on, joined_on, joined_one, kept_as, log_on, none_appended, nothing_then, published_on, safe_as, safe_on}
use Rattle.tl_append.proofs.Publishing.{all_seen_on}
use Rattle.tl_append.proofs.Reading.{are_first, none_told}

-- each batch has as many entries as asked
abbrev pub AreFull : ℕ → List (List Bytes) → Type 0
AreFull size [] = ⊤
AreFull size (batch ∷ more) = (length batch ≡ size) × AreFull size more

pub full_push : (size : ℕ) (batches : List (List Bytes)) (last : List Bytes) → AreFull size batches → length last ≡ size → AreFull size (batches ++ last ∷ [])
full_push size [] last full is = (is, tt)
full_push size (batch ∷ more) last full is = (full.0, full_push size more last full.1 is)

pub full_then : (size : ℕ) (batches : List (List Bytes)) (last : List Bytes) → AreFull size batches → length last ≤ size → AreBatches size (batches ++ last ∷ [])
full_then size [] last full few = few
full_then size (batch ∷ []) last full few = (full.0, few)
full_then size (batch ∷ next ∷ more) last full few = (full.0, full_then size (next ∷ more) last full.1 few)

pub are_batches : (size : ℕ) (batches : List (List Bytes)) → AreFull size batches → AreBatches size batches
are_batches size [] full = tt
are_batches size (batch ∷ []) full = omega (arith, full.0)
are_batches size (batch ∷ next ∷ more) full = (full.0, are_batches size (next ∷ more) full.1)

pub joined_push : (batches : List (List Bytes)) (last : List Bytes) → joined batches ++ last ≡ joined (batches ++ last ∷ [])
joined_push batches last = sym (joined_on batches (last ∷ []) ∙ ap (λ (es : List Bytes). joined batches ++ es) (joined_one last))

-- the publication of the batch that is put and not published is what is due
due_is : (key : LogKey) (log : List Bytes) (from : ℕ) (due : Option Due) (last : List (List Bytes)) → IsOwed due from last → due_of key (log ++ joined last) due ≡ published_after key log last
due_is key log from None last owed = subst (λ (ls : List (List Bytes)). [] ≡ published_after key log ls) (sym owed) refl
due_is key log from (Some due) last owed =
    subst (λ (ls : List (List Bytes)). published (log ++ joined ls) (checkpoint_note key (log ++ joined ls)) ∷ [] ≡ published_after key log ls) (sym owed.1)
    (ap (λ (es : List Bytes). published (log ++ es) (checkpoint_note key (log ++ es)) ∷ []) (joined_one owed.0))

-- batches that were appended so far: their entries are the lines that were read
pub record IsTold (Sized : List (List Bytes) → Type 0) (key : LogKey) (keeps is_first : Bool) (due : Option Due) (mark : Option ℕ) (c : Course) (i o : Passage) (now : Uncut) : Type 0 where
  pub so_far : IsSoFar Sized key keeps is_first due mark c o
  pub lines : TellsOf unread now i (all_entries (joined (so_far.batches ++ so_far.last)))

begun : (key : LogKey) (size : ℕ) (keeps : Bool) (due : Option Due) (mark : Option ℕ) (a : Kept) (saw : List Kept) (was : Ledger) (y : Option (List ℕ)) (g : Bool) → due ≡ None
    → IsSoFar (AreFull size) key keeps true due mark (along a a saw saw was was) (over y y g g)
begun key size keeps due mark a saw was y g none = record {
  batches = [];
  last = [];
  sized = tt;
  some = λ not. absurd cc;
  owed = subst (λ (d : Option Due). IsOwed d (was.edge.size + 0) []) (sym none) refl;
  signed = subst (IsSigned key was) (sym none) tt;
  grown = omega arith;
  appends = nothing_then key [] a a saw saw was was (none_appended key a saw was);
  shown = λ h log was_kept. All-nil (WasThere saw);
  heads = record { lines = λ h log was_kept. record { appended = Appends-nil y; steady = refl } };
  ended = λ not none. absurd cc;
}

-- no batch was appended, and nothing was read
pub begun_told : (key : LogKey) (size : ℕ) (keeps : Bool) (due : Option Due) (mark : Option ℕ) (a : Kept) (saw : List Kept) (was : Ledger) (x y : Option (List ℕ)) (f g : Bool) (now : Uncut) → due ≡ None → now ≡ unread
    → IsTold (AreFull size) key keeps true due mark (along a a saw saw was was) (over x x f f) (over y y g g) now
unfolding begun
begun_told key size keeps due mark a saw was x y f g now none same = record {
  so_far = begun key size keeps due mark a saw was y g none;
  lines = subst (λ (u : Uncut). TellsOf unread u (over x x f f) (all_entries [])) (sym same) (none_told x f);
}

-- nothing was done
pub none_begun : (key : LogKey) (due : Option Due) (a : Kept) (saw : List Kept) (was : Ledger) (x : Option (List ℕ)) (f : Bool) → due ≡ None → LeavesSome key due (along a a saw saw was was) (over x x f f)
none_begun key due a saw was x f none = record {
  batches = [];
  rest = [];
  signed = subst (IsSigned key was) (sym none) tt;
  appends = nothing_then key [] a a saw saw was was (none_appended key a saw was);
  lines = inr (unread, [], none_told x f);
}

-- the last batch is published: its publication was due and is made now, or it was made before
ends : (Sized : List (List Bytes) → Type 0) (key : LogKey) (keeps : Bool) (mark mark' : Option ℕ) (a m b : Kept) (saw mid sees : List Kept) (was now : Ledger) (o : Passage) (due : Option Due)
    (so_far : IsSoFar Sized key keeps false due mark (along a m saw mid was now) o) → ShowsDue key keeps due mark' (along m b mid sees now now) → (due ≡ None → (b ≡ m) × (mark' ≡ mark))
    → HasEnded key keeps (so_far.batches ++ so_far.last) mark' (along a b saw sees was now)
ends Sized key keeps mark mark' a m b saw mid sees was now o None so_far shows same =
    let is = same refl in
    let ended = so_far.ended refl refl in
    let whole : so_far.batches ≡ so_far.batches ++ so_far.last = sym (ap (λ (ls : List (List Bytes)). so_far.batches ++ ls) so_far.owed ∙ append-nil so_far.batches) in
    subst (λ (bs : List (List Bytes)). HasEnded key keeps bs mark' (along a b saw sees was now)) whole (record {
      there = λ h log was_kept. subst (λ (k : Kept). k.held resource.Checkpoint ≡ Some (checkpoint_note key (log ++ joined so_far.batches))) (sym is.0) (ended.there h log was_kept);
      marked = is.1 ∙ ended.marked;
      spent = λ not. subst (λ (k : Kept). LacksSpentByLast so_far.batches (along a k saw sees was now)) (sym is.0) (ended.spent not);
    })
ends Sized key keeps mark mark' a m b saw mid sees was now o (Some last) so_far shows same = record {
  there = λ h log was_kept.
      let whole : List Bytes = (log ++ joined so_far.batches) ++ joined so_far.last in
      All-head (λ (p : Prefix). b.held resource.Checkpoint ≡ Some p.note) (published whole (checkpoint_note key whole)) [] (shows.there (h ++ published_after key log so_far.batches) whole (so_far.appends.kept h log was_kept))
      ∙ ap (λ (es : List Bytes). Some (checkpoint_note key es)) (log_on key so_far.batches so_far.last a m b saw mid sees was now now log);
  marked = shows.marked;
  spent = λ not. (
    so_far.batches,
    (so_far.owed.0, ap (λ (ls : List (List Bytes)). so_far.batches ++ ls) so_far.owed.1),
    subst (λ (n : ℕ). LacksSpent n now.edge.size b.held) so_far.owed.2 (shows.gone not),
  );
}

module _ (Sized : List (List Bytes) → Type 0) (key : LogKey) (keeps is_first : Bool) (mark : Option ℕ) (a m b : Kept) (saw mid sees : List Kept) (was now is : Ledger) (r s t : Option (List ℕ)) (j k l : Bool) (due : Option Due)
    (so_far : IsSoFar Sized key keeps is_first due mark (along a m saw mid was now) (over r s j k)) where
  abbrev Batches : List (List Bytes)
  Batches = so_far.batches ++ so_far.last

  -- no more was done
  pub left_so : (i : Passage) → HasFailed i ⊎ AreFirst i (joined so_far.batches ++ joined so_far.last) → LeavesSome key due (along a m saw mid was now) i
  left_so i lines = record { batches = so_far.batches; rest = joined so_far.last; signed = so_far.signed; appends = so_far.appends; lines = lines }

  history_is : (h : List Prefix) (log : List Bytes)
      → (h ++ published_after key log so_far.batches) ++ due_of key ((log ++ joined so_far.batches) ++ joined so_far.last) due ≡ h ++ published_after key log Batches
  history_is h log =
      ap (λ (ps : List Prefix). (h ++ published_after key log so_far.batches) ++ ps) (due_is key (log ++ joined so_far.batches) _ due so_far.last so_far.owed)
      ∙ history_on key so_far.batches so_far.last a m b saw mid sees was now is h log

  -- what was due was published, or may be, and entries put
  module _ (put : List Bytes) (step : PublishesDue key due put (along m b mid sees now is)) where
    pub then_put : AppendsThen key Batches put (along a b saw sees was is)
    then_put = record {
      kept = λ h log was_kept. kept_as _ _ _ _ b is (history_is h log) (ap (λ (es : List Bytes). es ++ put) (log_on key so_far.batches so_far.last a m b saw mid sees was now is log))
          (step.kept (h ++ published_after key log so_far.batches) ((log ++ joined so_far.batches) ++ joined so_far.last) (so_far.appends.kept h log was_kept));
      safe = λ h log was_kept. safe_as _ _ saw sees (history_is h log)
          (safe_on (h ++ published_after key log so_far.batches) (due_of key ((log ++ joined so_far.batches) ++ joined so_far.last) due) saw mid sees (so_far.appends.safe h log was_kept)
          (step.safe (h ++ published_after key log so_far.batches) ((log ++ joined so_far.batches) ++ joined so_far.last) (so_far.appends.kept h log was_kept)));
    }

    pub stopped : (due' : Option Due) → due' ≡ None → (i : Passage) → HasFailed i ⊎ AreFirst i (joined Batches ++ put) → LeavesSome key due' (along a b saw sees was is) i
    stopped due' none i lines = record { batches = Batches; rest = put; signed = subst (IsSigned key is) (sym none) tt; appends = then_put; lines = lines }

    -- the publication that was due was there, and its size and root were printed
    module _ (mark' : Option ℕ) (shows : ShowsDue key keeps due mark' (along m b mid sees now is)) (printed : PrintsDue key due (along m b mid sees now is) (over s t k l)) where
      pub shown_on : WereThere key Batches (along a b saw sees was is)
      shown_on h log was_kept =
          let front : List Prefix = published_after key log so_far.batches in
          let back : List Prefix = published_after key (log ++ joined so_far.batches) so_far.last in
          let before = so_far.appends.kept h log was_kept in
          let one : All (WasThere sees) front = all_seen_on _ front mid sees (step.safe (h ++ front) ((log ++ joined so_far.batches) ++ joined so_far.last) before) (so_far.shown h log was_kept) in
          let two : All (WasThere sees) back =
          subst (All (WasThere sees)) (due_is key (log ++ joined so_far.batches) _ due so_far.last so_far.owed)
          (shows.seen (h ++ front) ((log ++ joined so_far.batches) ++ joined so_far.last) before) in
          subst (All (WasThere sees)) (sym (published_on key log so_far.batches so_far.last)) (All-append (WasThere sees) front back one two)

      pub printed_on : PrintsHeads key Batches (along a b saw sees was is) (over r t j l)
      printed_on = record {
        lines = λ h log was_kept.
            let front : List Prefix = published_after key log so_far.batches in
            let back : List Prefix = published_after key (log ++ joined so_far.batches) so_far.last in
            let one = so_far.heads.lines h log was_kept in
            let two : WroteWhole (over s t k l) (flat_map publication_line back) =
            subst (λ (ps : List Prefix). WroteWhole (over s t k l) (flat_map publication_line ps)) (due_is key (log ++ joined so_far.batches) _ due so_far.last so_far.owed)
            (printed (h ++ front) ((log ++ joined so_far.batches) ++ joined so_far.last) (so_far.appends.kept h log was_kept)) in
            let same = sym (ap (flat_map publication_line) (published_on key log so_far.batches so_far.last) ∙ flat_map-append publication_line front back) in
            subst (λ (text : Bytes). WroteWhole (over r t j l) text) same (record {
              appended = Appends-trans r s t (flat_map publication_line front) (flat_map publication_line back) one.appended two.appended;
              steady = two.steady ∙ one.steady;
            });
      }

      -- and a batch is due now
      batch_due : (Sized' : List (List Bytes) → Type 0) (batch : List Bytes) (due' : Option Due) (d : Due) → put ≡ batch → due' ≡ Some d → d.from ≡ now.edge.size
          → is.edge.size ≡ now.edge.size + length batch → IsSigned key is due' → Sized' (Batches ++ batch ∷ []) → IsSoFar Sized' key keeps false due' mark' (along a b saw sees was is) (over r t j l)
      batch_due Sized' batch due' d same some from longer signed sized = record {
        batches = Batches;
        last = batch ∷ [];
        sized = sized;
        some = λ not. omega (arith, length_push Batches batch);
        owed = subst (λ (x : Option Due). IsOwed x (was.edge.size + length (joined Batches)) (batch ∷ [])) (sym some) (batch, refl, from ∙ so_far.grown);
        signed = signed;
        grown = omega (arith, longer, so_far.grown, length-append (joined Batches) batch, ap length (joined_push Batches batch));
        appends = subst (λ (es : List Bytes). AppendsThen key Batches es (along a b saw sees was is)) (same ∙ sym (joined_one batch)) then_put;
        shown = shown_on;
        heads = printed_on;
        ended = λ not none. absurd (cc (some, none));
      }

      -- whose entries are the lines that were read
      pub told_due : (Sized' : List (List Bytes) → Type 0) (batch : List Bytes) (due' : Option Due) (d : Due) → put ≡ batch → due' ≡ Some d → d.from ≡ now.edge.size
          → is.edge.size ≡ now.edge.size + length batch → IsSigned key is due' → Sized' (Batches ++ batch ∷ [])
          → (v : Uncut) (i : Passage) → TellsOf unread v i (all_entries (joined Batches ++ batch)) → IsTold Sized' key keeps false due' mark' (along a b saw sees was is) i (over r t j l) v
      unfolding batch_due
      told_due Sized' batch due' d same some from longer signed sized v i told = record {
        so_far = batch_due Sized' batch due' d same some from longer signed sized;
        lines = subst (λ (es : List Bytes). TellsOf unread v i (all_entries es)) (joined_push Batches batch) told;
      }

      -- and there are no more
      pub last_due : (size : ℕ) (batch : List Bytes) (due' : Option Due) (d : Due) → put ≡ batch → due' ≡ Some d → d.from ≡ now.edge.size
          → is.edge.size ≡ now.edge.size + length batch → IsSigned key is due' → AreBatches size (Batches ++ batch ∷ [])
          → (v : Uncut) (i : Passage) → TellsAll unread v i (all_entries (joined Batches ++ batch)) → LeavesLast key size keeps due' mark' (along a b saw sees was is) i (over r t j l)
      unfolding batch_due
      last_due size batch due' d same some from longer signed sized v i told = record {
        so_far = batch_due (AreBatches size) batch due' d same some from longer signed sized;
        now = v;
        lines = subst (λ (es : List Bytes). TellsAll unread v i (all_entries es)) (joined_push Batches batch) told;
      }

-- these are the first lines
pub first_of : (w : Uncut) (i : Passage) (entries : List Bytes) → TellsOf unread w i (all_entries entries) → AreFirst i (entries ++ [])
first_of w i entries told = are_first w i entries [] [] (inl refl) (subst (λ (es : List Bytes). TellsOf unread w i (all_entries es)) (sym (append-nil entries)) told)

-- there are no more lines
pub all_told : (size : ℕ) (key : LogKey) (keeps is_first : Bool) → is_first ≡ false → (due : Option Due) (mark : Option ℕ) (c : Course) (o : Passage)
    (so_far : IsSoFar (AreFull size) key keeps is_first due mark c o) (v : Uncut) (i : Passage) → TellsAll unread v i (all_entries (joined (so_far.batches ++ so_far.last))) → LeavesLast key size keeps due mark c i o
all_told size key keeps is_first later due mark c o so_far v i all = record {
  so_far = record {
    batches = so_far.batches;
    last = so_far.last;
    sized = are_batches size (so_far.batches ++ so_far.last) so_far.sized;
    some = λ not. so_far.some later;
    owed = so_far.owed;
    signed = so_far.signed;
    grown = so_far.grown;
    appends = so_far.appends;
    shown = so_far.shown;
    heads = so_far.heads;
    ended = λ not none. so_far.ended later none;
  };
  now = v;
  lines = all;
}

-- what was due was published, and nothing else done
module _ (Sized : List (List Bytes) → Type 0) (key : LogKey) (keeps : Bool) (mark mark' : Option ℕ) (a m b : Kept) (saw mid sees : List Kept) (was now : Ledger) (r s t : Option (List ℕ)) (j k l : Bool) (due : Option Due)
    (so_far : IsSoFar Sized key keeps false due mark (along a m saw mid was now) (over r s j k))
    (step : PublishesDue key due [] (along m b mid sees now now)) (shows : ShowsDue key keeps due mark' (along m b mid sees now now)) (printed : PrintsDue key due (along m b mid sees now now) (over s t k l))
    (same : due ≡ None → (b ≡ m) × (mark' ≡ mark)) where
  abbrev pub Whole : List (List Bytes)
  Whole = so_far.batches ++ so_far.last

  pub has_ended : HasEnded key keeps Whole mark' (along a b saw sees was now)
  has_ended = ends Sized key keeps mark mark' a m b saw mid sees was now (over r s j k) due so_far shows same

  all_put : AppendsThen key Whole [] (along a b saw sees was now)
  all_put = then_put Sized key keeps false mark a m b saw mid sees was now now r s t j k l due so_far [] step

  all_shown : WereThere key Whole (along a b saw sees was now)
  all_shown = shown_on Sized key keeps false mark a m b saw mid sees was now now r s t j k l due so_far [] step mark' shows printed

  all_printed : PrintsHeads key Whole (along a b saw sees was now) (over r t j l)
  all_printed = printed_on Sized key keeps false mark a m b saw mid sees was now now r s t j k l due so_far [] step mark' shows printed

  none_left : (due' : Option Due) → due' ≡ None → IsSoFar Sized key keeps false due' mark' (along a b saw sees was now) (over r t j l)
  none_left due' none = record {
    batches = Whole;
    last = [];
    sized = subst Sized (sym (append-nil Whole)) so_far.sized;
    some = λ not. subst (λ (bs : List (List Bytes)). 0 < length bs) (sym (append-nil Whole)) (so_far.some not);
    owed = subst (λ (x : Option Due). IsOwed x (was.edge.size + length (joined Whole)) []) (sym none) refl;
    signed = subst (IsSigned key now) (sym none) tt;
    grown = so_far.grown ∙ ap (λ (bs : List (List Bytes)). was.edge.size + length (joined bs)) (sym (append-nil Whole));
    appends = all_put;
    shown = all_shown;
    heads = all_printed;
    ended = λ not gone. has_ended;
  }

  pub none_left_told : (due' : Option Due) → due' ≡ None → (v : Uncut) (i : Passage) → TellsOf unread v i (all_entries (joined Whole)) → IsTold Sized key keeps false due' mark' (along a b saw sees was now) i (over r t j l) v
  unfolding none_left
  none_left_told due' none v i told = record {
    so_far = none_left due' none;
    lines = subst (λ (bs : List (List Bytes)). TellsOf unread v i (all_entries (joined bs))) (sym (append-nil Whole)) told;
  }

  pub finished : (size : ℕ) (v : Uncut) (i : Passage) → AreBatches size Whole → TellsAll unread v i (all_entries (joined Whole)) → AppendsLines key size keeps (along a b saw sees was now) i (over r t j l)
  finished size v i sized all = record {
    batches = Whole;
    sized = sized;
    some = so_far.some refl;
    last = v;
    appends = record {
      kept = λ h log was_kept. kept_as _ _ _ _ b now refl (append-nil (log ++ joined Whole)) (all_put.kept h log was_kept);
      safe = all_put.safe;
    };
    lines = all;
    shown = all_shown;
    there = has_ended.there;
    spent = has_ended.spent;
    heads = all_printed;
  }

-- all lines were put, so some were
pub all_left : (key : LogKey) (size : ℕ) (keeps : Bool) (due : Option Due) (mark : Option ℕ) (a m : Kept) (saw mid : List Kept) (was now : Ledger) (i o : Passage)
    → LeavesLast key size keeps due mark (along a m saw mid was now) i o → LeavesSome key due (along a m saw mid was now) i
all_left key size keeps due mark a m saw mid was now i o left =
    let so_far = left.so_far in record {
      batches = so_far.batches;
      rest = joined so_far.last;
      signed = so_far.signed;
      appends = so_far.appends;
      lines = inr (are_first left.now i (joined so_far.batches) (joined so_far.last) (joined so_far.last) (inr refl)
          (subst (λ (es : List Bytes). TellsOf unread left.now i (all_entries es)) (joined_on so_far.batches so_far.last) left.lines.lines));
    }

-- some lines were put, and what was due was published, or may be
pub some_left : (key : LogKey) (a m b : Kept) (saw mid sees : List Kept) (was now : Ledger) (i : Passage) (due : Option Due)
    → LeavesSome key due (along a m saw mid was now) i → PublishesDue key due [] (along m b mid sees now now) → AppendsSome key (along a b saw sees was now) i
some_left key a m b saw mid sees was now i None left step = record {
  batches = left.batches;
  rest = left.rest;
  appends = record {
    kept = λ h log was_kept.
        let front : List Prefix = h ++ published_after key log left.batches in
        let entries : List Bytes = (log ++ joined left.batches) ++ left.rest in
        kept_as _ _ _ _ b now (append-nil front) (append-nil entries) (step.kept front entries (left.appends.kept h log was_kept));
    safe = λ h log was_kept.
        let front : List Prefix = h ++ published_after key log left.batches in
        let entries : List Bytes = (log ++ joined left.batches) ++ left.rest in
        safe_as _ _ saw sees (append-nil front) (safe_on front [] saw mid sees (left.appends.safe h log was_kept) (step.safe front entries (left.appends.kept h log was_kept)));
  };
  lines = left.lines;
}
some_left key a m b saw mid sees was now i (Some last) left step =
    let whole : List (List Bytes) = left.batches ++ left.rest ∷ [] in
    let pushed : joined left.batches ++ left.rest ≡ joined whole ++ [] = joined_push left.batches left.rest ∙ sym (append-nil (joined whole)) in record {
      batches = whole;
      rest = [];
      appends = record {
        kept = λ h log was_kept.
            kept_as _ _ _ _ b now (history_on key left.batches (left.rest ∷ []) a m b saw mid sees was now now h log)
            (ap (λ (es : List Bytes). es ++ []) (append_assoc log (joined left.batches) left.rest ∙ ap (λ (es : List Bytes). log ++ es) (joined_push left.batches left.rest)))
            (step.kept (h ++ published_after key log left.batches) ((log ++ joined left.batches) ++ left.rest) (left.appends.kept h log was_kept));
        safe = λ h log was_kept.
            safe_as _ _ saw sees (history_on key left.batches (left.rest ∷ []) a m b saw mid sees was now now h log)
            (safe_on (h ++ published_after key log left.batches) _ saw mid sees (left.appends.safe h log was_kept)
            (step.safe (h ++ published_after key log left.batches) ((log ++ joined left.batches) ++ left.rest) (left.appends.kept h log was_kept)));
      };
      lines = subst (λ (es : List Bytes). HasFailed i ⊎ AreFirst i es) pushed left.lines;
    }
