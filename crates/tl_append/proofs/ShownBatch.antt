-- One batch that is appended and shown with lines of witnesses.
use Rattle.std.proofs.Common.{inl, inr, ◌≡◌, ℕ, ◌+◌, List, [], ◌∷◌, ◌++◌, Some, length, refl, sym, ap, subst, ◌∙◌}
use Rattle.std.proofs.lemmas.List.{append-nil}
use Rattle.std.proofs.lemmas.List.Elements.{All-cons, All-nil, Contains-append_right}
use Rattle.sha2.specs.Sha256.{sha256}
use Rattle.tl_hash.specs.Bytes.{Bytes}
use Rattle.tl_hash.specs.Tree.{tree_hash}
use Rattle.tl_tile.specs.declared.resource.Resource.TheVariants as resource
use Rattle.tl_log.specs.Histories.{Prefix}
use Rattle.tl_archive.specs.Shelves.{Kept}
use Rattle.tl_archive.specs.Complete.{KeptSafe}
use Rattle.tl_archive.proofs.Lists.{has_head}
use Rattle.tl_ledger.specs.Standing.{Ledger, IsStanding}
use Rattle.tl_ledger.specs.Keeping.{IsKeeping, published}
use Rattle.tl_ledger.specs.Spent.{IsShown, RemovesSpent}
use Rattle.tl_run.specs.Signing.{LogKey, checkpoint_note}
use Rattle.tl_append.specs.Cosigning.{HasCosigned, HasQuorum, Quorum, ShowsAtMost, ShowsBatch, ShowsThen, shown}
use Rattle.tl_append.specs.Inner.Turns.{IsNoteOf, SealsBatch, turn}
use Rattle.tl_append.proofs.Showing.{AreCosigned}
use Rattle.tl_append.proofs.Turns.{along, checkpoint_stays, kept_as, safe_as, safe_both, safe_on, shown_as}

-- a note with some lines behind it is that of the log, if its size and root are the log's
pub is_note_of : (key : LogKey) (now : Ledger) (size : ℕ) (root note lines text : Bytes) → size ≡ now.edge.size
    → ((entries : List Bytes) → IsStanding sha256 entries now → root ≡ tree_hash sha256 entries)
    → ((entries : List Bytes) → length entries ≡ size → tree_hash sha256 entries ≡ root → note ≡ checkpoint_note key entries)
    → text ≡ note ++ lines → IsNoteOf key now text
is_note_of key now size root note lines text sized rooted signed lined = record {
  lines = lines;
  noted = λ log stands. lined ∙ ap (λ (n : Bytes). n ++ lines) (signed log (stands.at_edge.0 ∙ sym sized) (sym (rooted log stands)));
}

-- a batch that was shown satisfies `ShowsAtMost`
pub shown_at_most : (key : LogKey) (q : Quorum) (batch : List Bytes) (lines : Bytes) (a b : Kept) (saw sees : List Kept) (was is : Ledger)
    → is.edge.size ≡ was.edge.size + length batch → ShowsThen key q (turn batch lines ∷ []) [] (along a b saw sees was is) → ShowsAtMost key q batch (along a b saw sees was is)
shown_at_most key q batch lines a b saw sees was is grown all = record {
  turns = turn batch lines ∷ [];
  rest = [];
  shows = all;
  own = inr (append-nil (batch ++ []) ∙ append-nil batch, grown);
}

module _ (key : LogKey) (q : Quorum) (batch : List Bytes) (a m : Kept) (saw mid : List Kept) (was now : Ledger)
    (safe : (h : List Prefix) (log : List Bytes) → IsKeeping sha256 h log a was → KeptSafe sha256 h saw mid) where
  safe_none : (h : List Prefix) (log : List Bytes) → IsKeeping sha256 h log a was → KeptSafe sha256 (h ++ []) saw mid
  safe_none h log keeps = safe_as _ _ saw mid (sym (append-nil h)) (safe h log keeps)

  none_cosigned : (h : List Prefix) (log : List Bytes) → IsKeeping sha256 h log a was → AreCosigned q []
  none_cosigned h log keeps = All-nil (λ (p : Prefix). HasQuorum q p.note)

  -- it was not put
  pub not_put : ((h : List Prefix) (log : List Bytes) → IsKeeping sha256 h log a was → IsKeeping sha256 h log m now) → now ≡ was → ShowsAtMost key q batch (along a m saw mid was now)
  not_put stayed same = record {
    turns = [];
    rest = [];
    shows = record {
      kept = λ h log keeps. kept_as _ _ _ _ m now (sym (append-nil h)) (sym (append-nil (log ++ []) ∙ append-nil log)) (stayed h log keeps);
      safe = safe_none;
      cosigned = none_cosigned;
    };
    own = inl (refl, ap (λ (l : Ledger). l.edge.size) same);
  }

  module _ (put : (h : List Prefix) (log : List Bytes) → IsKeeping sha256 h log a was → IsKeeping sha256 h (log ++ batch) m now)
      (grown : now.edge.size ≡ was.edge.size + length batch) where
    -- its checkpoint was not signed, or too few cosigned it
    pub not_shown : ShowsAtMost key q batch (along a m saw mid was now)
    not_shown = record {
      turns = [];
      rest = batch;
      shows = record {
        kept = λ h log keeps. kept_as _ _ _ _ m now (sym (append-nil h)) (ap (λ (l : List Bytes). l ++ batch) (sym (append-nil log))) (put h log keeps);
        safe = safe_none;
        cosigned = none_cosigned;
      };
      own = inr (refl, grown);
    }

    -- its checkpoint was sealed with lines, or may be
    module _ (b : Kept) (sees : List Kept) (text sealed : Bytes)
        (own : IsNoteOf key now text)
        (cosigned : HasQuorum q text)
        (same : sealed ≡ text)
        (kept : (h : List Prefix) (log : List Bytes) → IsKeeping sha256 h log m now → IsKeeping sha256 (h ++ published log sealed ∷ []) log b now)
        (kept_safe : (h : List Prefix) (log : List Bytes) → IsKeeping sha256 h log m now → KeptSafe sha256 (h ++ published log sealed ∷ []) mid sees) where
      abbrev lines : Bytes
      lines = own.lines

      text_is : (h : List Prefix) (log : List Bytes) → IsKeeping sha256 h log m now → text ≡ checkpoint_note key log ++ lines
      text_is h log keeps = own.noted log keeps.stands

      noted : (h : List Prefix) (log : List Bytes) → IsKeeping sha256 h log m now → h ++ published log sealed ∷ [] ≡ h ++ shown key log lines ∷ []
      noted h log keeps = ap (λ (n : Bytes). h ++ published log n ∷ []) (same ∙ text_is h log keeps)

      whole : (log : List Bytes) → log ++ batch ≡ (log ++ (batch ++ [])) ++ []
      whole log = sym (append-nil (log ++ (batch ++ [])) ∙ ap (λ (es : List Bytes). log ++ es) (append-nil batch))

      pub one_shown : ShowsThen key q (turn batch lines ∷ []) [] (along a b saw sees was now)
      one_shown = record {
        kept = λ h log keeps.
            let after = put h log keeps in
            kept_as _ _ _ _ b now (noted h (log ++ batch) after) (whole log) (kept h (log ++ batch) after);
        safe = λ h log keeps.
            let after = put h log keeps in
            safe_on h _ saw mid sees (safe h log keeps) (safe_as _ _ mid sees (noted h (log ++ batch) after) (kept_safe h (log ++ batch) after));
        cosigned = λ h log keeps.
            All-cons (λ (p : Prefix). HasQuorum q p.note) (shown key (log ++ batch) lines) []
            (subst (HasQuorum q) (text_is h (log ++ batch) (put h log keeps)) cosigned) (All-nil (λ (p : Prefix). HasQuorum q p.note));
      }

      -- its checkpoint is there
      pub one_sealed : ((h : List Prefix) (log : List Bytes) → IsKeeping sha256 h log m now → b.held resource.Checkpoint ≡ Some sealed)
          → SealsBatch key q batch (along a b saw sees was now)
      one_sealed there = record {
        lines = lines;
        shows = one_shown;
        there = λ h log keeps.
            let after = put h log keeps in
            let new : Prefix = shown key (log ++ batch) lines in (
              new,
              Contains-append_right h (new ∷ []) new (has_head new []),
              after.stands.at_edge.0,
              record { note = there h (log ++ batch) after ∙ ap (λ (n : Bytes). Some n) (same ∙ text_is h (log ++ batch) after); all = (kept h (log ++ batch) after).whole },
            );
        cosigned = λ h log keeps.
            let after = put h log keeps in (
              lines,
              there h (log ++ batch) after ∙ ap (λ (n : Bytes). Some n) (same ∙ text_is h (log ++ batch) after),
              subst (HasQuorum q) (text_is h (log ++ batch) after) cosigned,
            );
      }

      pub not_sealed : ShowsAtMost key q batch (along a b saw sees was now)
      not_sealed = shown_at_most key q batch lines a b saw sees was now grown one_shown

-- what is spent was removed
module _ (key : LogKey) (q : Quorum) (batch : List Bytes) (a m b : Kept) (saw mid sees : List Kept) (was is : Ledger)
    (all : SealsBatch key q batch (along a m saw mid was is))
    (n : ℕ) (same : n ≡ is.edge.size)
    (kept : (h : List Prefix) (log : List Bytes) (x : Ledger) → IsKeeping sha256 h log m x → IsShown sha256 h n m.held → IsKeeping sha256 h log b x)
    (safe : (h : List Prefix) (log : List Bytes) (x : Ledger) → IsKeeping sha256 h log m x → IsShown sha256 h n m.held → KeptSafe sha256 h mid sees) where
  still_shown : ShowsThen key q (turn batch all.lines ∷ []) [] (along a b saw sees was is)
  still_shown = record {
    kept = λ h log keeps. kept _ _ is (all.shows.kept h log keeps) (shown_as _ n is.edge.size m.held same (all.there h log keeps));
    safe = λ h log keeps. safe_both _ saw mid sees (all.shows.safe h log keeps) (safe _ _ is (all.shows.kept h log keeps) (shown_as _ n is.edge.size m.held same (all.there h log keeps)));
    cosigned = all.shows.cosigned;
  }

  pub spent_shown : ShowsBatch key q batch (along a b saw sees was is)
  spent_shown = (all.lines, still_shown)

  pub spent_at_most : is.edge.size ≡ was.edge.size + length batch → ShowsAtMost key q batch (along a b saw sees was is)
  spent_at_most grown = shown_at_most key q batch all.lines a b saw sees was is grown still_shown

  pub spent_cosigned : (size : ℕ) → RemovesSpent size m b → HasCosigned key q batch (along a b saw sees was is)
  spent_cosigned size spent = λ h log keeps.
      let one = all.cosigned h log keeps in
      (one.0, checkpoint_stays size m b spent ∙ one.1, one.2)
