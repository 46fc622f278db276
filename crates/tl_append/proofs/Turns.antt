-- Batches that are appended one after another.
use Rattle.std.proofs.Common.{inl, inr, ◌≡◌, ℕ, ◌+◌, Bool, List, [], ◌∷◌, ◌++◌, Option, Some, length, refl, sym, ap, subst, ◌∙◌, append_assoc}
use Rattle.std.specs.Prelude.{All}
use Rattle.std.specs.List.{flat_map}
use Rattle.std.proofs.KnownBytes.{Appends-trans}
use Rattle.std.proofs.lemmas.List.{append-nil}
use Rattle.std.proofs.lemmas.List.Elements.{All-append, All-nil, Contains-append_left, Contains-append_right}
use Rattle.std.proofs.lemmas.Grind.{flat_map-append}
use Rattle.sha2.specs.Sha256.{sha256}
use Rattle.tl_hash.specs.Bytes.{Bytes}
use Rattle.tl_hash.specs.Tree.{tree_hash}
use Rattle.tl_device.specs.Device.{WroteWhole}
use Rattle.tl_tile.specs.declared.resource.Resource.TheVariants as resource
use Rattle.tl_log.specs.Histories.{Prefix}
use Rattle.tl_archive.specs.Shelves.{Held, Kept}
use Rattle.tl_archive.specs.Complete.{IsComplete, IsSafe, KeptSafe}
use Rattle.tl_archive.proofs.Lists.{has_head}
use Rattle.tl_ledger.specs.Standing.{Ledger, IsStanding}
use Rattle.tl_ledger.specs.Keeping.{IsKeeping, published}
use Rattle.tl_ledger.specs.Spent.{IsShown, RemovesSpent}
use Rattle.tl_run.specs.Signing.{LogKey, checkpoint_note}
use Rattle.tl_append.specs.Appending.{Appends, AppendsAtMost, AppendsThen, Course, HasCheckpoint, PrintsHeads, joined, publication_line, published_after}
use Rattle.tl_append.specs.Inner.Turns.{HasShown}

-- a shelf and a ledger before and after
abbrev pub along : Kept → Kept → List Kept → List Kept → Ledger → Ledger → Course
along a b saw sees was is = record { before = a; after = b; saw = saw; sees = sees; was = was; is = is }

-- what is kept, for equal lists
pub kept_as : (h h' : List Prefix) (l l' : List Bytes) (k : Kept) (x : Ledger) → h ≡ h' → l ≡ l' → IsKeeping sha256 h l k x → IsKeeping sha256 h' l' k x
kept_as h h' l l' k x eh el is = subst (λ (t : List Prefix). IsKeeping sha256 t l' k x) eh (subst (λ (t : List Bytes). IsKeeping sha256 h t k x) el is)

pub safe_as : (h h' : List Prefix) (saw sees : List Kept) → h ≡ h' → KeptSafe sha256 h saw sees → KeptSafe sha256 h' saw sees
safe_as h h' saw sees eh is = subst (λ (t : List Prefix). KeptSafe sha256 t saw sees) eh is

-- what is safe stays so as the history grows
pub safe_wider : (h more : List Prefix) (k : Kept) → IsSafe sha256 h k → IsSafe sha256 (h ++ more) k
safe_wider h more k safe left may =
    elim (safe left may) as (λ _. IsComplete sha256 (h ++ more) left) [
      | inl none ↦ inl none
      | inr one ↦ inr (one.0, Contains-append_left h more one.0 one.1, one.2)
    ]

all_wider : (h more : List Prefix) (steps : List Kept) → All (IsSafe sha256 h) steps → All (IsSafe sha256 (h ++ more)) steps
all_wider h more steps all k d less = safe_wider h more _ (all k d less)

pub safe_on : (h more : List Prefix) (saw mid sees : List Kept) → KeptSafe sha256 h saw mid → KeptSafe sha256 (h ++ more) mid sees → KeptSafe sha256 (h ++ more) saw sees
safe_on h more saw mid sees first then = record {
  steps = first.steps ++ then.steps;
  trace = then.trace ∙ ap (λ (t : List Kept). t ++ then.steps) first.trace ∙ append_assoc saw first.steps then.steps;
  each = All-append (IsSafe sha256 (h ++ more)) first.steps then.steps (all_wider h more first.steps first.each) then.each;
}

-- ---- lists of batches

pub joined_on : (xs ys : List (List Bytes)) → joined (xs ++ ys) ≡ joined xs ++ joined ys
joined_on xs ys = flat_map-append (λ (batch : List Bytes). batch) xs ys

pub joined_one : (batch : List Bytes) → joined (batch ∷ []) ≡ batch
joined_one batch = append-nil batch

pub published_on : (key : LogKey) (log : List Bytes) (xs ys : List (List Bytes)) → published_after key log (xs ++ ys) ≡ published_after key log xs ++ published_after key (log ++ joined xs) ys
published_on key log [] ys = ap (λ (l : List Bytes). published_after key l ys) (sym (append-nil log))
published_on key log (x ∷ xs) ys =
    ap (λ (ps : List Prefix). published (log ++ x) (checkpoint_note key (log ++ x)) ∷ ps)
    (published_on key (log ++ x) xs ys ∙ ap (λ (l : List Bytes). published_after key (log ++ x) xs ++ published_after key l ys) (append_assoc log x (joined xs)))

-- ---- one turn after others

module _ (key : LogKey) (xs ys : List (List Bytes)) (a m b : Kept) (saw mid sees : List Kept) (was now is : Ledger) where
  pub history_on : (h : List Prefix) (log : List Bytes) → (h ++ published_after key log xs) ++ published_after key (log ++ joined xs) ys ≡ h ++ published_after key log (xs ++ ys)
  history_on h log = append_assoc h (published_after key log xs) (published_after key (log ++ joined xs) ys) ∙ ap (λ (ps : List Prefix). h ++ ps) (sym (published_on key log xs ys))

  pub log_on : (log : List Bytes) → (log ++ joined xs) ++ joined ys ≡ log ++ joined (xs ++ ys)
  log_on log = append_assoc log (joined xs) (joined ys) ∙ ap (λ (es : List Bytes). log ++ es) (sym (joined_on xs ys))

  module _ (first : Appends key xs (along a m saw mid was now)) where
    then_safe : ((h : List Prefix) (log : List Bytes) → IsKeeping sha256 h log m now → KeptSafe sha256 (h ++ published_after key log ys) mid sees)
        → (h : List Prefix) (log : List Bytes) → IsKeeping sha256 h log a was → KeptSafe sha256 (h ++ published_after key log (xs ++ ys)) saw sees
    then_safe safe h log keeps =
        safe_as _ _ saw sees (history_on h log)
        (safe_on (h ++ published_after key log xs) (published_after key (log ++ joined xs) ys) saw mid sees (first.safe h log keeps)
        (safe (h ++ published_after key log xs) (log ++ joined xs) (first.kept h log keeps)))

    pub appends_on : Appends key ys (along m b mid sees now is) → Appends key (xs ++ ys) (along a b saw sees was is)
    appends_on then = record {
      kept = λ h log keeps. kept_as _ _ _ _ b is (history_on h log) (log_on log) (then.kept (h ++ published_after key log xs) (log ++ joined xs) (first.kept h log keeps));
      safe = then_safe then.safe;
    }

    pub appends_then_on : (rest : List Bytes) → AppendsThen key ys rest (along m b mid sees now is) → AppendsThen key (xs ++ ys) rest (along a b saw sees was is)
    appends_then_on rest then = record {
      kept = λ h log keeps. kept_as _ _ _ _ b is (history_on h log) (ap (λ (l : List Bytes). l ++ rest) (log_on log))
          (then.kept (h ++ published_after key log xs) (log ++ joined xs) (first.kept h log keeps));
      safe = then_safe then.safe;
    }

    pub heads_on : (o p q : Option (List ℕ)) (f g i : Bool)
        → PrintsHeads key xs (along a m saw mid was now) (record { old = o; new = p; had_failed = f; has_failed = g })
        → PrintsHeads key ys (along m b mid sees now is) (record { old = p; new = q; had_failed = g; has_failed = i })
        → PrintsHeads key (xs ++ ys) (along a b saw sees was is) (record { old = o; new = q; had_failed = f; has_failed = i })
    heads_on o p q f g i before after = record {
      lines = λ h log keeps.
          let one = before.lines h log keeps in
          let two = after.lines (h ++ published_after key log xs) (log ++ joined xs) (first.kept h log keeps) in
          let same = sym (ap (flat_map publication_line) (published_on key log xs ys) ∙ flat_map-append publication_line (published_after key log xs) (published_after key (log ++ joined xs) ys)) in
          subst (λ (text : Bytes). WroteWhole (record { old = o; new = q; had_failed = f; has_failed = i }) text) same (record {
            appended = Appends-trans o p q (flat_map publication_line (published_after key log xs)) (flat_map publication_line (published_after key (log ++ joined xs) ys)) one.appended two.appended;
            steady = two.steady ∙ one.steady;
          });
    }

-- ---- nothing yet

pub none_appended : (key : LogKey) (a : Kept) (saw : List Kept) (was : Ledger) → Appends key [] (along a a saw saw was was)
none_appended key a saw was = record {
  kept = λ h log keeps. kept_as _ _ _ _ a was (sym (append-nil h)) (sym (append-nil log)) keeps;
  safe = λ h log keeps. record { steps = []; trace = sym (append-nil saw); each = All-nil (IsSafe sha256 (h ++ [])) };
}

pub nothing_then : (key : LogKey) (xs : List (List Bytes)) (a b : Kept) (saw sees : List Kept) (was is : Ledger) → Appends key xs (along a b saw sees was is) → AppendsThen key xs [] (along a b saw sees was is)
nothing_then key xs a b saw sees was is all = record {
  kept = λ h log keeps. kept_as _ _ _ _ b is refl (sym (append-nil (log ++ joined xs))) (all.kept h log keeps);
  safe = all.safe;
}

-- ---- one batch

-- a batch that was published satisfies `AppendsAtMost`
pub at_most : (key : LogKey) (batch : List Bytes) (a b : Kept) (saw sees : List Kept) (was is : Ledger) → is.edge.size ≡ was.edge.size + length batch
    → Appends key (batch ∷ []) (along a b saw sees was is) → AppendsAtMost key batch (along a b saw sees was is)
at_most key batch a b saw sees was is grown all = record {
  batches = batch ∷ [];
  rest = [];
  appends = nothing_then key (batch ∷ []) a b saw sees was is all;
  own = inr (append-nil (batch ++ []) ∙ append-nil batch, grown);
}

module _ (key : LogKey) (batch : List Bytes) (a m : Kept) (saw mid : List Kept) (was now : Ledger)
    (safe : (h : List Prefix) (log : List Bytes) → IsKeeping sha256 h log a was → KeptSafe sha256 h saw mid) where
  safe_none : (h : List Prefix) (log : List Bytes) → IsKeeping sha256 h log a was → KeptSafe sha256 (h ++ []) saw mid
  safe_none h log keeps = safe_as _ _ saw mid (sym (append-nil h)) (safe h log keeps)

  -- it was not put
  pub not_put : ((h : List Prefix) (log : List Bytes) → IsKeeping sha256 h log a was → IsKeeping sha256 h log m now) → now ≡ was → AppendsAtMost key batch (along a m saw mid was now)
  not_put stayed same = record {
    batches = [];
    rest = [];
    appends = record {
      kept = λ h log keeps. kept_as _ _ _ _ m now (sym (append-nil h)) (sym (append-nil (log ++ []) ∙ append-nil log)) (stayed h log keeps);
      safe = safe_none;
    };
    own = inl (refl, ap (λ (l : Ledger). l.edge.size) same);
  }

  module _ (put : (h : List Prefix) (log : List Bytes) → IsKeeping sha256 h log a was → IsKeeping sha256 h (log ++ batch) m now)
      (grown : now.edge.size ≡ was.edge.size + length batch) where
    -- its checkpoint was not signed
    pub not_signed : AppendsAtMost key batch (along a m saw mid was now)
    not_signed = record {
      batches = [];
      rest = batch;
      appends = record {
        kept = λ h log keeps. kept_as _ _ _ _ m now (sym (append-nil h)) (ap (λ (l : List Bytes). l ++ batch) (sym (append-nil log))) (put h log keeps);
        safe = safe_none;
      };
      own = inr (refl, grown);
    }

    -- its checkpoint was sealed, or may be
    module _ (b : Kept) (sees : List Kept) (size : ℕ) (root note sealed : Bytes)
        (sized : size ≡ now.edge.size)
        (rooted : (entries : List Bytes) → IsStanding sha256 entries now → root ≡ tree_hash sha256 entries)
        (signed : (entries : List Bytes) → length entries ≡ size → tree_hash sha256 entries ≡ root → note ≡ checkpoint_note key entries)
        (same : sealed ≡ note)
        (kept : (h : List Prefix) (log : List Bytes) → IsKeeping sha256 h log m now → IsKeeping sha256 (h ++ published log sealed ∷ []) log b now)
        (kept_safe : (h : List Prefix) (log : List Bytes) → IsKeeping sha256 h log m now → KeptSafe sha256 (h ++ published log sealed ∷ []) mid sees) where
      noted : (h : List Prefix) (log : List Bytes) → IsKeeping sha256 h log m now → h ++ published log sealed ∷ [] ≡ h ++ published log (checkpoint_note key log) ∷ []
      noted h log keeps = ap (λ (n : Bytes). h ++ published log n ∷ []) (same ∙ signed log (keeps.stands.at_edge.0 ∙ sym sized) (sym (rooted log keeps.stands)))

      pub one_appended : Appends key (batch ∷ []) (along a b saw sees was now)
      one_appended = record {
        kept = λ h log keeps.
            let after = put h log keeps in
            kept_as _ _ _ _ b now (noted h (log ++ batch) after) (ap (λ (es : List Bytes). log ++ es) (sym (joined_one batch))) (kept h (log ++ batch) after);
        safe = λ h log keeps.
            let after = put h log keeps in
            safe_on h _ saw mid sees (safe h log keeps) (safe_as _ _ mid sees (noted h (log ++ batch) after) (kept_safe h (log ++ batch) after));
      }

      -- its checkpoint is there
      pub one_shown : ((h : List Prefix) (log : List Bytes) → IsKeeping sha256 h log m now → b.held resource.Checkpoint ≡ Some sealed)
          → (h : List Prefix) (log : List Bytes) → IsKeeping sha256 h log a was → IsShown sha256 (h ++ published_after key log (batch ∷ [])) now.edge.size b.held
      one_shown there h log keeps =
          let after = put h log keeps in
          let own : Prefix = published (log ++ batch) (checkpoint_note key (log ++ batch)) in
          let is : sealed ≡ checkpoint_note key (log ++ batch) = same ∙ signed (log ++ batch) (after.stands.at_edge.0 ∙ sym sized) (sym (rooted (log ++ batch) after.stands)) in
          (own, Contains-append_right h (own ∷ []) own (has_head own []), after.stands.at_edge.0, record { note = there h (log ++ batch) after ∙ ap (λ (n : Bytes). Some n) is; all = (kept h (log ++ batch) after).whole })

      pub one_noted : ((h : List Prefix) (log : List Bytes) → IsKeeping sha256 h log m now → b.held resource.Checkpoint ≡ Some sealed) → HasCheckpoint key batch (along a b saw sees was now)
      one_noted there h log keeps =
          let after = put h log keeps in
          there h (log ++ batch) after ∙ ap (λ (n : Bytes). Some n) (same ∙ signed (log ++ batch) (after.stands.at_edge.0 ∙ sym sized) (sym (rooted (log ++ batch) after.stands)))

      pub not_sealed : AppendsAtMost key batch (along a b saw sees was now)
      not_sealed = at_most key batch a b saw sees was now grown one_appended

-- ---- what is spent was removed

pub safe_both : (h : List Prefix) (saw mid sees : List Kept) → KeptSafe sha256 h saw mid → KeptSafe sha256 h mid sees → KeptSafe sha256 h saw sees
safe_both h saw mid sees first then = record {
  steps = first.steps ++ then.steps;
  trace = then.trace ∙ ap (λ (t : List Kept). t ++ then.steps) first.trace ∙ append_assoc saw first.steps then.steps;
  each = All-append (IsSafe sha256 h) first.steps then.steps first.each then.each;
}

-- by a size that is the ledger's
pub shown_as : (h : List Prefix) (n size : ℕ) (held : Held) → n ≡ size → IsShown sha256 h size held → IsShown sha256 h n held
shown_as h n size held same shown = subst (λ (x : ℕ). IsShown sha256 h x held) (sym same) shown

pub spent_removed : (key : LogKey) (batch : List Bytes) (a m b : Kept) (saw mid sees : List Kept) (was is : Ledger) (n : ℕ) → n ≡ is.edge.size
    → Appends key (batch ∷ []) (along a m saw mid was is) → HasShown key batch (along a m saw mid was is)
    → ((h : List Prefix) (log : List Bytes) (x : Ledger) → IsKeeping sha256 h log m x → IsShown sha256 h n m.held → IsKeeping sha256 h log b x)
    → ((h : List Prefix) (log : List Bytes) (x : Ledger) → IsKeeping sha256 h log m x → IsShown sha256 h n m.held → KeptSafe sha256 h mid sees)
    → Appends key (batch ∷ []) (along a b saw sees was is)
spent_removed key batch a m b saw mid sees was is n same all shown kept safe = record {
  kept = λ h log keeps. kept _ _ is (all.kept h log keeps) (shown_as _ n is.edge.size m.held same (shown h log keeps));
  safe = λ h log keeps. safe_both _ saw mid sees (all.safe h log keeps) (safe _ _ is (all.kept h log keeps) (shown_as _ n is.edge.size m.held same (shown h log keeps)));
}

-- the checkpoint stays
pub checkpoint_stays : (size : ℕ) (m b : Kept) → RemovesSpent size m b → b.held resource.Checkpoint ≡ m.held resource.Checkpoint
checkpoint_stays size m b spent =
    elim (spent.others resource.Checkpoint) as (λ _. b.held resource.Checkpoint ≡ m.held resource.Checkpoint) [
      | inl same ↦ same
      | inr gone ↦ absurd gone.0
    ]

pub spent_noted : (key : LogKey) (batch : List Bytes) (a m b : Kept) (saw mid sees : List Kept) (was is : Ledger) (size : ℕ)
    → HasCheckpoint key batch (along a m saw mid was is) → RemovesSpent size m b → HasCheckpoint key batch (along a b saw sees was is)
spent_noted key batch a m b saw mid sees was is size there spent = λ h log keeps. checkpoint_stays size m b spent ∙ there h log keeps
