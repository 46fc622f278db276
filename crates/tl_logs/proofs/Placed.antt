-- A key is appended to those of its log, or begins a new log.
use Rattle.std.proofs.Common.{◌≡◌, ◌≢◌, ◌<◌, ℕ, List, [], ◌∷◌, ◌++◌, Some, inl, inr, refl, ap, ◌∙◌, map, length, slice_get, slice_index_or, Result, Ok, Err}
use Rattle.std.specs.Prelude.{OnOk, slice_set}
use Rattle.std.proofs.lemmas.List.{map-append, map-set}
use Rattle.tl_logs.specs.LogsFile.{GivesKey, Log, LogKey, log}
use Rattle.tl_logs.specs.declared.line.LineFault.{LineFault}
use Rattle.tl_logs.specs.declared.line.LineFault.TheVariants.{Malformed, Twice, OutOfMemory}
use Rattle.tl_logs.specs.Inner.ByOrigin.{Index, Indexes, log_origins}
use Rattle.tl_logs.specs.Inner.Lines.{ReadsLine}
use Rattle.tl_logs.specs.Inner.Placing.{AddsKey, PlacesKey, PutsKey, TakesLine}
use Rattle.tl_logs.proofs.IndexLaws.{indexed_known}
use Rattle.tl_logs.proofs.ListLaws.{named_at, shows_at}

-- the log that is read at a position of this origin is there
stands : {A : Type 0} (view : A → Log) (xs : List A) (place : ℕ) (origin : List ℕ) (old : A) → place < length xs → slice_get (map (λ x. (view x).origin) xs) place ≡ Some origin
    → old ≡ slice_index_or xs place old → slice_get (map view xs) place ≡ Some (log origin (view old).keys)
stands view xs place origin old room shows read =
    shows_at view xs (length xs) place old (log origin (view old).keys) refl room read (ap (λ (o : List ℕ). log o (view old).keys) (named_at (λ x. (view x).origin) xs place origin old shows read))

-- a key was added to the log at a position, or wasn't
pub placed_at : {A : Type 0} (view : A → Log) (xs : List A) (place : ℕ) (k : LogKey) (old new : A) (result : Result (Unit {0}) LineFault)
    → place < length xs → slice_get (map (λ x. (view x).origin) xs) place ≡ Some k.origin → old ≡ slice_index_or xs place old
    → AddsKey k.key (view old).origin (view old).keys (view new) result → PlacesKey k (map view xs) (map view (slice_set xs place new)) result
placed_at view xs place k old new (Ok done) room shows read (apart, added) =
    let named = named_at (λ x. (view x).origin) xs place k.origin old shows read in
    let put = map-set view xs place new ∙ ap (λ (c : Log). slice_set (map view xs) place c) (added ∙ ap (λ (o : List ℕ). log o ((view old).keys ++ k.key ∷ [])) named) in
    inl (place, (view old).keys, stands view xs place k.origin old room shows read, apart, put)
placed_at view xs place k old new (Err Malformed) room shows read none = none
placed_at view xs place k old new (Err Twice) room shows read is = (place, (view old).keys, stands view xs place k.origin old room shows read, is)
placed_at view xs place k old new (Err OutOfMemory) room shows read apart = tt

-- a log of one key is added at the end
pub placed_new : {A : Type 0} (view : A → Log) (xs : List A) (k : LogKey) (new : A) → ((place : ℕ) → slice_get (log_origins (map view xs)) place ≢ Some k.origin)
    → view new ≡ log k.origin (k.key ∷ []) → PutsKey k (map view xs) (map view (xs ++ new ∷ []))
placed_new view xs k new none made = inr (none, map-append view xs (new ∷ []) ∙ ap (λ (c : Log). map view xs ++ c ∷ []) made)

-- the index still fits after a key was added
pub indexed_after : (index : Index) (k : LogKey) (old new : List Log) (place : ℕ) (result : Result (Unit {0}) LineFault) → Indexes index (log_origins old) → Some place ≡ index k.origin
    → PlacesKey k old new result → OnOk result (Indexes index (log_origins new))
indexed_after index k old new place (Ok done) is found puts = indexed_known index k old new place is found puts
indexed_after index k old new place (Err fault) is found puts = tt

-- a line whose key was added
pub taken : (words : List ℕ) (k : LogKey) (old new : List Log) (result : Result (Unit {0}) LineFault) → GivesKey words k → PlacesKey k old new result → TakesLine words old new result
taken words k old new (Ok done) gives puts = inr (k, gives, puts)
taken words k old new (Err Malformed) gives none = absurd none
taken words k old new (Err Twice) gives has = (k, gives, has)
taken words k old new (Err OutOfMemory) gives out = (k, gives)

-- or wasn't read
pub untaken : (A : Type 0) (words : List ℕ) (old new : List Log) (fault : LineFault) → ReadsLine {A = A} words (Err fault) → TakesLine words old new (Err fault)
untaken A words old new Malformed none = none
untaken A words old new Twice none = absurd none
untaken A words old new OutOfMemory is = is
