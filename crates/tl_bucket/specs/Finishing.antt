-- Finishing commits: what they append is put and shown.
use Rattle.std.specs.Prelude.{◌≡◌, ◌⊎◌, ℕ, ◌+◌, ◌-◌, ◌<◌, ◌≤◌, ⊤, List, [], ◌∷◌, ◌++◌, length, Option, Some, Result, Ok, Err}
use Rattle.tl_append.specs.Appending.{Appends, AppendsThen, Course, course, joined}
use Rattle.tl_append.specs.Running.{AreLogKeys, Grows, OfFound, visit}
use Rattle.tl_archive.specs.Shelves.{Held}
use Rattle.tl_run.specs.Signing.{LogKey}
use Rattle.tl_run.specs.declared.fault.RunFault.{RunFault}
use Rattle.tl_run.specs.declared.keys.LogKey.{LogKey as GivenKey}
use Rattle.tl_folder.specs.Folders.{Reached}
use Rattle.tl_hash.specs.Bytes.{Bytes}
use Rattle.tl_ledger.specs.Opening.{Found, IsOfSigned, found_size}
use Rattle.tl_ledger.specs.Standing.{Ledger}
use Rattle.tl_note.specs.Key.{Key}
use Rattle.tl_s3.specs.Objects.{Place}
use Rattle.tl_bucket.specs.Buckets.{Bucketed, Shown, bucket_kept, bucket_trace}
use Rattle.tl_bucket.specs.Commits.{Commit}
use Rattle.tl_bucket.specs.Opened.{WasReadAs}
use Rattle.tl_bucket.specs.Operators.{TellsSize}

-- of the commits below `end`, as they were read, this is the first that comes after `size` or more entries: the one
-- before it, if there is one, comes after fewer
pub record IsFirstBehind (p : Place) (size end first : ℕ) : Type 0 where
  pub below : first ≤ end
  pub before : (first ≤ 1) ⊎ ((c : Commit) × WasReadAs p (first - 1) c × (c.start < size))
  pub behind : (n : ℕ) → first ≤ n → n < end → (c : Commit) × WasReadAs p n c × (size ≤ c.start)

-- the commit with this number was read: it comes after `start` entries and appends these
abbrev pub IsBatchOf : Place → ℕ → ℕ → List Bytes → Type 0
IsBatchOf p n start batch = (token : Bytes) × WasReadAs p n (record { start = start; token = token; entries = batch })

-- the commits from this number on were read: they append these batches, the first of them after `start` entries
abbrev pub WereCommitted : Place → ℕ → ℕ → List (List Bytes) → Type 0
WereCommitted p n start [] = ⊤
WereCommitted p n start (batch ∷ more) = IsBatchOf p n start batch × WereCommitted p (n + 1) (start + length batch) more

-- the commits from this number on, up to the last, were finished: their batches were appended and published, one
-- after another
pub record FinishesAll (key : LogKey) (p : Place) (end first : ℕ) (c : Course) : Type 0 where
  pub batches : List (List Bytes)
  pub committed : WereCommitted p first c.was.edge.size batches
  pub all : first + length batches ≡ end
  pub appends : Appends key batches c

-- some of them were finished before a fault: what was put is what the first of them append
pub record FinishesSome (key : LogKey) (p : Place) (first : ℕ) (c : Course) : Type 0 where
  pub done : List (List Bytes)
  pub committed : WereCommitted p first c.was.edge.size done
  pub batches : List (List Bytes)
  pub rest : List Bytes
  pub appends : AppendsThen key batches rest c
  pub own : joined batches ++ rest ≡ joined done

-- one commit was finished; or what was put before a fault is what it appends, or nothing
abbrev pub FinishesOne : {T E : Type 0} → LogKey → Place → ℕ → Course → Result T E → Type 0
FinishesOne key p n c (Ok done) = (batch : List Bytes) × IsBatchOf p n c.was.edge.size batch
    × Appends key (batch ∷ []) c × (c.is.edge.size ≡ c.was.edge.size + length batch)
FinishesOne key p n c (Err fault) = FinishesSome key p n c

-- the commits behind the log that was shown were finished, up to the last; or some of them were, before a fault
abbrev pub Finishes : {T E : Type 0} → LogKey → Place → ℕ → Course → Result T E → Type 0
Finishes key p end c (Ok done) = (first : ℕ) × IsFirstBehind p c.was.edge.size end first × FinishesAll key p end first c
Finishes key p end c (Err fault) = (first : ℕ) × FinishesSome key p first c

-- the checkpoint that is there states this size
abbrev pub ShowsSize : Option Shown → ℕ → Type 0
ShowsSize shown size = (there : Shown) × (shown ≡ Some there) × TellsSize there.note size

-- a log was opened at a checkpoint that the key of this name opens, and the commits behind it were finished under
-- that key, so that the log has all that commits append. What was appended came behind each log with the size and the
-- root that were found, at rest in the bucket, or inputs collide
pub record OpensAndFinishes (held : Held) (reached : Reached) (key : GivenKey) (name : Bytes) (before after : Bucketed) (result : Result (Unit {0}) RunFault) : Type 0 where
  pub own : LogKey
  pub opener : Key
  pub named : AreLogKeys key name own opener
  pub found : Found
  pub was : Ledger
  pub is : Ledger
  pub signed : IsOfSigned (opener ∷ []) found.head
  pub sized : was.edge.size ≡ found_size found.head
  pub finishes : Finishes own before.objects.at before.objects.claims.number
      (course (bucket_kept held reached) (bucket_trace held reached) before after was is) result
  pub even : result ≡ Ok tt → is.edge.size ≡ after.objects.claims.start
  pub grows : (batches : List (List Bytes)) (rest : List Bytes)
      → AppendsThen own batches rest (course (bucket_kept held reached) (bucket_trace held reached) before after was is)
      → OfFound found (bucket_kept held reached before)
      (Grows own batches rest (visit (bucket_kept held reached) (bucket_trace held reached) before after))

-- finishing the commits of a bucket: all are shown already, or the log can't be opened and nothing was put; or they
-- are finished
abbrev pub FinishesLog : Held → Reached → GivenKey → Bytes → Bucketed → Bucketed → Result (Unit {0}) RunFault → Type 0
FinishesLog held reached key name before after result =
    (ShowsSize before.objects.shown before.objects.claims.start × (after ≡ before) × (result ≡ Ok tt))
    ⊎ (((fault : RunFault) × (result ≡ Err fault)) × (after.events ≡ before.events))
    ⊎ OpensAndFinishes held reached key name before after result
