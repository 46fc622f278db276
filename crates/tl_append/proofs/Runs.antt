-- A run over the log on a shelf.
use Rattle.std.proofs.Common.{inl, inr, ◌≡◌, ◌⊎◌, ℕ, Bool, List, [], ◌++◌, Option, Some, length, refl, sym, ap, subst, ◌∙◌}
use Rattle.std.proofs.KnownBytes.{Keeps-refl}
use Rattle.std.proofs.lemmas.List.{append-nil}
use Rattle.sha2.specs.Sha256.{sha256}
use Rattle.tl_hash.specs.Bytes.{Bytes}
use Rattle.tl_note.specs.Key.{IsKeyName, Key}
use Rattle.tl_device.specs.Device.{Passage}
use Rattle.tl_lines.proofs.ReadingLemmas.{over}
use Rattle.tl_tile.specs.declared.resource.Resource.TheVariants as resource
use Rattle.tl_log.specs.Histories.{Prefix}
use Rattle.tl_archive.specs.Shelves.{Kept}
use Rattle.tl_ledger.specs.Standing.{Ledger, IsStanding}
use Rattle.tl_ledger.specs.Keeping.{IsKeeping}
use Rattle.tl_ledger.specs.Opening.{Found, FoundCollides, Opens}
use Rattle.tl_run.specs.Signing.{LogKey, checkpoint_note}
use Rattle.tl_run.specs.declared.keys.LogKey.{LogKey as GivenKey}
use Rattle.tl_run.specs.declared.keys.LogKey.TheVariants as given
use Rattle.tl_append.specs.Appending.{AppendsLines, AppendsSome, AppendsThen, AreBatches, joined, published_after}
use Rattle.tl_append.specs.Running.{GoesOnPart, GoesOnWhole, Grows, HadAll, HasLast, IsLogKey, IsResting, MarksLast, OfFound, Stays, Visit, WroteHeads}
use Rattle.tl_append.proofs.Turns.{along}

-- a shelf before and after
abbrev pub between : Kept → Kept → List Kept → List Kept → Visit
between a b saw sees = record { before = a; after = b; saw = saw; sees = sees }

-- what a ledger keeps is at rest, and a ledger that stands at what is at rest keeps it
pub resting : (h : List Prefix) (l : List Bytes) (k : Kept) (x : Ledger) → IsKeeping sha256 h l k x → IsResting sha256 h l k
resting h l k x keeps = record { begins = keeps.begins; rests = keeps.rests; safe = keeps.safe; whole = keeps.whole }

keeping : (h : List Prefix) (l : List Bytes) (k : Kept) (x : Ledger) → IsStanding sha256 l x → IsResting sha256 h l k → IsKeeping sha256 h l k x
keeping h l k x stands rests = record { stands = stands; begins = rests.begins; rests = rests.rests; safe = rests.safe; whole = rests.whole }

-- nothing was done
pub stayed : (a : Kept) (saw : List Kept) (x : Option (List ℕ)) (f : Bool) → Stays (between a a saw saw) (over x x f f)
stayed a saw x f = record { kept = refl; trace = refl; unread = (Keeps-refl x, refl) }

module _ (key : LogKey) (keys : List Key) (found : Found) (a b : Kept) (saw sees : List Kept) (was is : Ledger) (opens : Opens sha256 keys found was) where
  -- what comes of a log at which the ledger stands
  pub of_found : (Comes : List Prefix → List Bytes → Type 0) → ((h : List Prefix) (log : List Bytes) → IsKeeping sha256 h log a was → Comes h log) → OfFound found a Comes
  of_found Comes comes h log of rests =
      elim (opens.stands log of) as (λ _. FoundCollides sha256 found log ⊎ Comes h log) [
        | inl stands ↦ inr (comes h log (keeping h log a was stands rests))
        | inr collides ↦ inl collides
      ]

  pub whole_run : (i o : Passage) (size batch : ℕ) (keeps : Bool) → batch ≡ size
      → AppendsLines key batch keeps (along a b saw sees was is) i o → GoesOnWhole key size found (between a b saw sees) i o
  whole_run i o size batch keeps same all = record {
    batches = all.batches;
    sized = subst (λ (n : ℕ). AreBatches n all.batches) same all.sized;
    some = all.some;
    last = all.last;
    grows = of_found (Grows key all.batches [] (between a b saw sees)) (λ h log was_kept. record {
      rests = subst (λ (t : List Bytes). IsResting sha256 (h ++ published_after key log all.batches) t b) (sym (append-nil (log ++ joined all.batches))) (resting _ (log ++ joined all.batches) b is (all.appends.kept h log was_kept));
      safe = all.appends.safe h log was_kept;
    });
    lines = all.lines;
    shown = of_found (HadAll key all.batches (between a b saw sees)) (λ h log was_kept. all.shown h log was_kept);
    there = of_found (HasLast key all.batches (between a b saw sees)) (λ h log was_kept. all.there h log was_kept);
    heads = of_found (WroteHeads key all.batches o) (λ h log was_kept. all.heads.lines h log was_kept);
  }

  -- the last one is marked
  pub marks_last : (i o : Passage) (size : ℕ) (keeps : Bool) (mark : Option ℕ) → mark ≡ Some is.edge.size
      → AppendsLines key size keeps (along a b saw sees was is) i o → MarksLast key found (between a b saw sees) mark
  marks_last i o size keeps mark marked all =
      of_found (λ h log. (whole : List Bytes) × (b.held resource.Checkpoint ≡ Some (checkpoint_note key whole)) × (mark ≡ Some (length whole)))
      (λ h log was_kept. (log ++ joined all.batches, all.there h log was_kept, marked ∙ ap (λ (n : ℕ). Some n) (sym (all.appends.kept h log was_kept).stands.at_edge.0)))

  -- batches that were appended, and what was put after them
  pub grows_then : (batches : List (List Bytes)) (rest : List Bytes) → AppendsThen key batches rest (along a b saw sees was is)
      → OfFound found a (Grows key batches rest (between a b saw sees))
  grows_then batches rest appends = of_found (Grows key batches rest (between a b saw sees)) (λ h log keeps. record {
    rests = resting _ _ b is (appends.kept h log keeps);
    safe = appends.safe h log keeps;
  })

  pub part_run : (i : Passage) → AppendsSome key (along a b saw sees was is) i → GoesOnPart key found (between a b saw sees) i
  part_run i some = record {
    batches = some.batches;
    rest = some.rest;
    grows = grows_then some.batches some.rest some.appends;
    lines = some.lines;
  }

-- ---- the key

-- the name of the key that options name
pub key_named : (given : GivenKey) (name : Bytes) (key : LogKey) → IsLogKey given name key → key.name ≡ name
key_named (given.Secret secret) name key is = ap (λ (k : LogKey). k.name) is
key_named (given.File path) name key (bytes, k, file, named, is) = ap (λ (x : LogKey). x.name) is ∙ named

pub key_name : (given : GivenKey) (name : Bytes) (key : LogKey) → IsLogKey given name key → IsKeyName name → IsKeyName key.name
key_name given name key is lawful = subst IsKeyName (sym (key_named given name key is)) lawful

-- how a log goes on in part, under the key that is known
pub under_part : (given : GivenKey) (name own_name : Bytes) (key : LogKey) (found : Found) (v : Visit) (i : Passage) → name ≡ own_name → IsLogKey given name key
    → Stays v i ⊎ GoesOnPart key found v i → Stays v i ⊎ ((own : LogKey) × IsLogKey given own_name own × GoesOnPart own found v i)
under_part given name own_name key found v i same is (inl stays) = inl stays
under_part given name own_name key found v i same is (inr part) = inr (key, subst (λ (n : Bytes). IsLogKey given n key) same is, part)
