-- A publication that is due, and one that ends.
use Rattle.std.proofs.Common.{◌≡◌, ℕ, Bool, false, List, [], ◌∷◌, ◌++◌, Option, None, Some, length, refl, sym, ap, subst, ◌∙◌}
use Rattle.std.specs.Prelude.{All, Contains, string_bytes}
use Rattle.std.proofs.KnownBytes.{Appends-nil}
use Rattle.std.proofs.lemmas.List.{append-nil}
use Rattle.std.proofs.lemmas.List.Elements.{All-cons, All-nil, Contains-append_left, Contains-append_right}
use Rattle.sha2.specs.Sha256.{sha256}
use Rattle.tl_hash.specs.Bytes.{Bytes}
use Rattle.tl_hash.specs.Tree.{tree_hash}
use Rattle.tl_device.specs.Device.{Passage, WroteWhole}
use Rattle.tl_tile.specs.declared.resource.Resource.TheVariants as resource
use Rattle.tl_log.specs.Histories.{Prefix}
use Rattle.tl_archive.specs.Shelves.{Kept}
use Rattle.tl_archive.specs.Complete.{IsFor, IsSafe, KeptSafe}
use Rattle.tl_archive.proofs.Lists.{has_head}
use Rattle.tl_ledger.specs.Standing.{Ledger, IsStanding}
use Rattle.tl_ledger.specs.Keeping.{IsKeeping, published}
use Rattle.tl_ledger.specs.Spent.{IsShown, LacksSpent}
use Rattle.tl_run.specs.Signing.{LogKey, checkpoint_note}
use Rattle.tl_append.specs.Appending.{Course, WasThere, head_line}
use Rattle.tl_append.specs.Inner.Due.{IsSigned, PrintsDue, PublishesDue, ShowsDue, due_of}
use Rattle.tl_append.specs.Inner.Shedding.{ShedsSpent}
use Rattle.tl_append.specs.declared.due.Due.{Due}
use Rattle.tl_append.proofs.Turns.{along, checkpoint_stays, kept_as, safe_as, safe_both}

-- ---- nothing is due

module _ (key : LogKey) (a b : Kept) (saw sees : List Kept) (was is : Ledger) where
  -- entries were put
  pub none_due : (put : List Bytes) → ((h : List Prefix) (log : List Bytes) → IsKeeping sha256 h log a was → IsKeeping sha256 h (log ++ put) b is)
      → ((h : List Prefix) (log : List Bytes) → IsKeeping sha256 h log a was → KeptSafe sha256 h saw sees) → PublishesDue key None put (along a b saw sees was is)
  none_due put kept safe = record {
    kept = λ h log keeps. kept_as h (h ++ []) _ _ b is (sym (append-nil h)) refl (kept h log keeps);
    safe = λ h log keeps. safe_as h (h ++ []) saw sees (sym (append-nil h)) (safe h log keeps);
  }

  -- no entries were put
  pub none_put : ((h : List Prefix) (log : List Bytes) → IsKeeping sha256 h log a was → IsKeeping sha256 h log b is)
      → ((h : List Prefix) (log : List Bytes) → IsKeeping sha256 h log a was → KeptSafe sha256 h saw sees) → PublishesDue key None [] (along a b saw sees was is)
  none_put kept safe = none_due [] (λ h log keeps. kept_as h h log (log ++ []) b is refl (sym (append-nil log)) (kept h log keeps)) safe

-- nothing was done
pub nothing_due : (key : LogKey) (a : Kept) (saw : List Kept) (was : Ledger) → PublishesDue key None [] (along a a saw saw was was)
nothing_due key a saw was =
    none_put key a a saw saw was was (λ h log keeps. keeps) (λ h log keeps. record { steps = []; trace = sym (append-nil saw); each = All-nil (IsSafe sha256 h) })

-- nothing was printed
pub none_printed : (key : LogKey) (c : Course) (y : Option (List ℕ)) (failed : Bool) → PrintsDue key None c (record { old = y; new = y; had_failed = failed; has_failed = failed })
none_printed key c y failed = λ h log keeps. record { appended = Appends-nil y; steady = refl }

-- nothing was shown
pub none_shown : (key : LogKey) (keeps : Bool) (mark : Option ℕ) (c : Course) → ShowsDue key keeps None mark c
none_shown key keeps mark c = record {
  seen = λ h log was_kept. All-nil (WasThere c.sees);
  there = λ h log was_kept. All-nil (λ (p : Prefix). c.after.held resource.Checkpoint ≡ Some p.note);
  marked = tt;
  gone = λ not. tt;
}

-- ---- what was there at some moment counts at any later one

pub seen_on : (h : List Prefix) (p : Prefix) (mid sees : List Kept) → KeptSafe sha256 h mid sees → WasThere mid p → WasThere sees p
seen_on h p mid sees later was = (was.0, subst (λ (ks : List Kept). Contains ks was.0) (sym later.trace) (Contains-append_left mid later.steps was.0 was.1), was.2)

pub all_seen_on : (h ps : List Prefix) (mid sees : List Kept) → KeptSafe sha256 h mid sees → All (WasThere mid) ps → All (WasThere sees) ps
all_seen_on h ps mid sees later all k d less = seen_on h _ mid sees later (all k d less)

-- ---- what is due is published

-- if no entries are put
pub none_behind : (a m : Kept) (was now : Ledger) (note : Bytes) → ((h : List Prefix) (log : List Bytes) → IsKeeping sha256 h log a was → IsKeeping sha256 (h ++ published log note ∷ []) log m now)
    → (h : List Prefix) (log : List Bytes) → IsKeeping sha256 h log a was → IsKeeping sha256 (h ++ published log note ∷ []) (log ++ []) m now
none_behind a m was now note kept h log was_kept = kept_as _ _ log (log ++ []) m now refl (sym (append-nil log)) (kept h log was_kept)

-- the note is put, or may be, and these entries are put
module _ (key : LogKey) (due : Option Due) (last : Due) (is : due ≡ Some last) (note : Bytes) (same : note ≡ string_bytes last.note) (a m : Kept) (saw mid : List Kept) (was now : Ledger) (put : List Bytes)
    (signed : IsSigned key was due)
    (kept : (h : List Prefix) (log : List Bytes) → IsKeeping sha256 h log a was → IsKeeping sha256 (h ++ published log note ∷ []) (log ++ put) m now)
    (safe : (h : List Prefix) (log : List Bytes) → IsKeeping sha256 h log a was → KeptSafe sha256 (h ++ published log note ∷ []) saw mid) where
  note_is : (h : List Prefix) (log : List Bytes) → IsKeeping sha256 h log a was → note ≡ checkpoint_note key log
  note_is h log was_kept = same ∙ (subst (IsSigned key was) is signed) log was_kept.stands

  noted : (h : List Prefix) (log : List Bytes) → IsKeeping sha256 h log a was → h ++ published log note ∷ [] ≡ h ++ due_of key log (Some last)
  noted h log was_kept = ap (λ (n : Bytes). h ++ published log n ∷ []) (note_is h log was_kept)

  one_due : PublishesDue key (Some last) put (along a m saw mid was now)
  one_due = record {
    kept = λ h log was_kept. kept_as _ _ _ _ m now (noted h log was_kept) refl (kept h log was_kept);
    safe = λ h log was_kept. safe_as _ _ saw mid (noted h log was_kept) (safe h log was_kept);
  }

  pub sealed_due : PublishesDue key due put (along a m saw mid was now)
  sealed_due = subst (λ (d : Option Due). PublishesDue key d put (along a m saw mid was now)) (sym is) one_due

  -- its checkpoint is there, of as many entries as the ledger had, and then what is spent is removed
  module _ (b : Kept) (sees : List Kept) (size : ℕ) (sized : size ≡ was.edge.size)
      (there : (h : List Prefix) (log : List Bytes) → IsKeeping sha256 h log a was → IsFor sha256 (published log note) m.held)
      (sheds : ShedsSpent size m b mid sees) where
    is_for : (h : List Prefix) (log : List Bytes) → IsKeeping sha256 h log a was → IsFor sha256 (published log (checkpoint_note key log)) m.held
    is_for h log was_kept = subst (λ (n : Bytes). IsFor sha256 (published log n) m.held) (note_is h log was_kept) (there h log was_kept)

    shown : (h : List Prefix) (log : List Bytes) → IsKeeping sha256 h log a was → IsShown sha256 (h ++ due_of key log (Some last)) size m.held
    shown h log was_kept =
        let own : Prefix = published log (checkpoint_note key log) in
        (own, Contains-append_right h (own ∷ []) own (has_head own []), was_kept.stands.at_edge.0 ∙ sym sized, is_for h log was_kept)

    shed_safe : (h : List Prefix) (log : List Bytes) → IsKeeping sha256 h log a was → KeptSafe sha256 (h ++ due_of key log (Some last)) mid sees
    shed_safe h log was_kept = sheds.safe _ _ now (one_due.kept h log was_kept) (shown h log was_kept)

    pub ended_due : PublishesDue key due put (along a b saw sees was now)
    ended_due = subst (λ (d : Option Due). PublishesDue key d put (along a b saw sees was now)) (sym is) (record {
      kept = λ h log was_kept. sheds.kept _ _ now (one_due.kept h log was_kept) (shown h log was_kept);
      safe = λ h log was_kept. safe_both _ saw mid sees (one_due.safe h log was_kept) (shed_safe h log was_kept);
    })

    pub ended_shows : (keeps : Bool) (mark : Option ℕ) → mark ≡ Some was.edge.size → Contains mid m → (keeps ≡ false → LacksSpent last.from size b.held)
        → ShowsDue key keeps due mark (along a b saw sees was now)
    ended_shows keeps mark marked seen lacks = subst (λ (d : Option Due). ShowsDue key keeps d mark (along a b saw sees was now)) (sym is) (record {
      seen = λ h log was_kept.
          let own : Prefix = published log (checkpoint_note key log) in
          All-cons (WasThere sees) own [] (seen_on _ own mid sees (shed_safe h log was_kept) (m, seen, is_for h log was_kept)) (All-nil (WasThere sees));
      there = λ h log was_kept.
          let own : Prefix = published log (checkpoint_note key log) in
          All-cons (λ (p : Prefix). b.held resource.Checkpoint ≡ Some p.note) own [] (checkpoint_stays size m b sheds.spent ∙ (is_for h log was_kept).note) (All-nil (λ (p : Prefix). b.held resource.Checkpoint ≡ Some p.note));
      marked = marked;
      gone = λ not. subst (λ (n : ℕ). LacksSpent last.from n b.held) sized (lacks not);
    })

-- its size and root are printed
pub due_printed : (key : LogKey) (last : Due) (a b : Kept) (saw sees : List Kept) (was is : Ledger) (size : ℕ) (root : Bytes) (o : Passage) → size ≡ was.edge.size
    → ((entries : List Bytes) → IsStanding sha256 entries was → root ≡ tree_hash sha256 entries) → WroteWhole o (head_line size root) → PrintsDue key (Some last) (along a b saw sees was is) o
due_printed key last a b saw sees was is size root o sized rooted wrote = λ h log keeps.
    let told : head_line size root ≡ head_line (length log) (tree_hash sha256 log) =
    ap (λ (n : ℕ). head_line n root) (sized ∙ sym keeps.stands.at_edge.0) ∙ ap (head_line (length log)) (rooted log keeps.stands) in
    subst (WroteWhole o) (told ∙ sym (append-nil (head_line (length log) (tree_hash sha256 log)))) wrote
