-- Turns that are appended and shown one after another.
use Rattle.std.proofs.Common.{◌≡◌, List, [], ◌∷◌, ◌++◌, sym, ap, subst, ◌∙◌, append_assoc}
use Rattle.std.specs.Prelude.{All}
use Rattle.std.proofs.lemmas.List.{append-nil}
use Rattle.std.proofs.lemmas.List.Elements.{All-append, All-nil}
use Rattle.std.proofs.lemmas.Grind.{flat_map-append}
use Rattle.sha2.specs.Sha256.{sha256}
use Rattle.tl_hash.specs.Bytes.{Bytes}
use Rattle.tl_note.specs.Key.{Key}
use Rattle.tl_log.specs.Histories.{Prefix}
use Rattle.tl_archive.specs.Shelves.{Kept}
use Rattle.tl_archive.specs.Complete.{IsSafe}
use Rattle.tl_ledger.specs.Standing.{Ledger}
use Rattle.tl_ledger.specs.Opening.{Found, Opens}
use Rattle.tl_run.specs.Signing.{LogKey}
use Rattle.tl_append.specs.Cosigning.{HasQuorum, Quorum, Shows, ShowsThen, Turn, entries_of, shown, shown_after}
use Rattle.tl_append.specs.Running.{OfFound}
use Rattle.tl_append.proofs.Runs.{between, of_found, resting}
use Rattle.tl_append.proofs.Turns.{along, kept_as, safe_as, safe_on}

-- each of these publications has its quorum
abbrev pub AreCosigned : Quorum → List Prefix → Type 0
AreCosigned q shown = All (λ p. HasQuorum q p.note) shown

cosigned_as : (q : Quorum) (ps qs : List Prefix) → ps ≡ qs → AreCosigned q ps → AreCosigned q qs
cosigned_as q ps qs same are = subst (AreCosigned q) same are

-- ---- lists of turns

pub entries_on : (xs ys : List Turn) → entries_of (xs ++ ys) ≡ entries_of xs ++ entries_of ys
entries_on xs ys = flat_map-append (λ (t : Turn). t.batch) xs ys

pub shown_on : (key : LogKey) (log : List Bytes) (xs ys : List Turn) → shown_after key log (xs ++ ys) ≡ shown_after key log xs ++ shown_after key (log ++ entries_of xs) ys
shown_on key log [] ys = ap (λ (l : List Bytes). shown_after key l ys) (sym (append-nil log))
shown_on key log (x ∷ xs) ys =
    ap (λ (ps : List Prefix). shown key (log ++ x.batch) x.lines ∷ ps)
    (shown_on key (log ++ x.batch) xs ys ∙ ap (λ (l : List Bytes). shown_after key (log ++ x.batch) xs ++ shown_after key l ys) (append_assoc log x.batch (entries_of xs)))

-- ---- nothing yet

pub none_shown : (key : LogKey) (q : Quorum) (a : Kept) (saw : List Kept) (was : Ledger) → ShowsThen key q [] [] (along a a saw saw was was)
none_shown key q a saw was = record {
  kept = λ h log keeps. kept_as _ _ _ _ a was (sym (append-nil h)) (sym (append-nil (log ++ []) ∙ append-nil log)) keeps;
  safe = λ h log keeps. record { steps = []; trace = sym (append-nil saw); each = All-nil (IsSafe sha256 (h ++ [])) };
  cosigned = λ h log keeps. All-nil (λ (p : Prefix). HasQuorum q p.note);
}

-- ---- behind entries that were put and not shown

-- these entries before those of a turn
abbrev pub wider : List Bytes → Turn → Turn
wider rest y = record { batch = rest ++ y.batch; lines = y.lines }

-- turns behind entries that were put have the publications of turns whose first has these entries too
first_wider : (key : LogKey) (log rest : List Bytes) (y : Turn) (ys : List Turn) → shown_after key (log ++ rest) (y ∷ ys) ≡ shown_after key log (wider rest y ∷ ys)
first_wider key log rest y ys = ap (λ (l : List Bytes). shown key l y.lines ∷ shown_after key l ys) (append_assoc log rest y.batch)

-- and the same entries in all
five : (j r y z m : List Bytes) → (j ++ ((r ++ y) ++ z)) ++ m ≡ (j ++ r) ++ ((y ++ z) ++ m)
five j r y z m =
    append_assoc j ((r ++ y) ++ z) m ∙ ap (λ (t : List Bytes). j ++ t) (append_assoc (r ++ y) z m ∙ append_assoc r y (z ++ m))
    ∙ sym (append_assoc j r ((y ++ z) ++ m) ∙ ap (λ (t : List Bytes). j ++ (r ++ t)) (append_assoc y z m))

pub same_entries : (xs : List Turn) (rest : List Bytes) (y : Turn) (ys : List Turn) (more : List Bytes)
    → entries_of (xs ++ wider rest y ∷ ys) ++ more ≡ (entries_of xs ++ rest) ++ (entries_of (y ∷ ys) ++ more)
same_entries xs rest y ys more =
    ap (λ (t : List Bytes). t ++ more) (entries_on xs (wider rest y ∷ ys)) ∙ five (entries_of xs) rest y.batch (entries_of ys) more

module _ (key : LogKey) (q : Quorum) (xs : List Turn) (rest : List Bytes) (a m b : Kept) (saw mid sees : List Kept) (was now is : Ledger)
    (first : ShowsThen key q xs rest (along a m saw mid was now)) where
  -- nothing more was shown
  pub then_put : (more : List Bytes) → ShowsThen key q [] more (along m b mid sees now is) → ShowsThen key q xs (rest ++ more) (along a b saw sees was is)
  then_put more then = record {
    kept = λ h log keeps.
        kept_as _ _ _ _ b is (append-nil (h ++ shown_after key log xs))
        (ap (λ (l : List Bytes). l ++ more) (append-nil ((log ++ entries_of xs) ++ rest)) ∙ append_assoc (log ++ entries_of xs) rest more)
        (then.kept (h ++ shown_after key log xs) ((log ++ entries_of xs) ++ rest) (first.kept h log keeps));
    safe = λ h log keeps.
        safe_as _ _ saw sees (append-nil (h ++ shown_after key log xs))
        (safe_on (h ++ shown_after key log xs) [] saw mid sees (first.safe h log keeps)
        (then.safe (h ++ shown_after key log xs) ((log ++ entries_of xs) ++ rest) (first.kept h log keeps)));
    cosigned = first.cosigned;
  }

  -- turns were shown, of which the first has what was put before
  module _ (y : Turn) (ys : List Turn) where
    wider_on : (log : List Bytes) → shown_after key log xs ++ shown_after key ((log ++ entries_of xs) ++ rest) (y ∷ ys) ≡ shown_after key log (xs ++ wider rest y ∷ ys)
    wider_on log =
        ap (λ (ps : List Prefix). shown_after key log xs ++ ps) (first_wider key (log ++ entries_of xs) rest y ys)
        ∙ sym (shown_on key log xs (wider rest y ∷ ys))

    wider_history : (h : List Prefix) (log : List Bytes)
        → (h ++ shown_after key log xs) ++ shown_after key ((log ++ entries_of xs) ++ rest) (y ∷ ys) ≡ h ++ shown_after key log (xs ++ wider rest y ∷ ys)
    wider_history h log =
        append_assoc h (shown_after key log xs) (shown_after key ((log ++ entries_of xs) ++ rest) (y ∷ ys))
        ∙ ap (λ (ps : List Prefix). h ++ ps) (wider_on log)

    wider_log : (log : List Bytes) → ((log ++ entries_of xs) ++ rest) ++ entries_of (y ∷ ys) ≡ log ++ entries_of (xs ++ wider rest y ∷ ys)
    wider_log log =
        append_assoc (log ++ entries_of xs) rest (y.batch ++ entries_of ys)
        ∙ ap (λ (t : List Bytes). (log ++ entries_of xs) ++ t) (sym (append_assoc rest y.batch (entries_of ys)))
        ∙ append_assoc log (entries_of xs) (entries_of (wider rest y ∷ ys))
        ∙ ap (λ (t : List Bytes). log ++ t) (sym (entries_on xs (wider rest y ∷ ys)))

    pub then_turns : (more : List Bytes) → ShowsThen key q (y ∷ ys) more (along m b mid sees now is) → ShowsThen key q (xs ++ wider rest y ∷ ys) more (along a b saw sees was is)
    then_turns more then = record {
      kept = λ h log keeps.
          kept_as _ _ _ _ b is (wider_history h log) (ap (λ (l : List Bytes). l ++ more) (wider_log log))
          (then.kept (h ++ shown_after key log xs) ((log ++ entries_of xs) ++ rest) (first.kept h log keeps));
      safe = λ h log keeps.
          safe_as _ _ saw sees (wider_history h log)
          (safe_on (h ++ shown_after key log xs) (shown_after key ((log ++ entries_of xs) ++ rest) (y ∷ ys)) saw mid sees (first.safe h log keeps)
          (then.safe (h ++ shown_after key log xs) ((log ++ entries_of xs) ++ rest) (first.kept h log keeps)));
      cosigned = λ h log keeps.
          cosigned_as q _ _ (wider_on log)
          (All-append (λ (p : Prefix). HasQuorum q p.note) (shown_after key log xs) (shown_after key ((log ++ entries_of xs) ++ rest) (y ∷ ys)) (first.cosigned h log keeps)
          (then.cosigned (h ++ shown_after key log xs) ((log ++ entries_of xs) ++ rest) (first.kept h log keeps)));
    }

-- ---- over the log on a shelf

-- turns that were shown, and what was put after them
pub shows_then : (key : LogKey) (q : Quorum) (keys : List Key) (found : Found) (a b : Kept) (saw sees : List Kept) (was is : Ledger) → Opens sha256 keys found was
    → (turns : List Turn) (rest : List Bytes) → ShowsThen key q turns rest (along a b saw sees was is) → OfFound found a (Shows key q turns rest (between a b saw sees))
shows_then key q keys found a b saw sees was is opens turns rest shows =
    of_found key keys found a b saw sees was is opens (Shows key q turns rest (between a b saw sees)) (λ h log keeps. record {
      rests = resting _ _ b is (shows.kept h log keeps);
      safe = shows.safe h log keeps;
      cosigned = shows.cosigned h log keeps;
    })
