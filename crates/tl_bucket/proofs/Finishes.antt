-- Finishing commits, one after another.
use Rattle.std.proofs.Common.{◌≡◌, inl, inr, ℕ, ◌+◌, ◌-◌, ◌<◌, ◌≤◌, List, [], ◌∷◌, ◌++◌, length, sym, ap, subst, ◌∙◌, append_assoc, add-zero, arith}
use Rattle.std.proofs.Math.Nat.{eq-or-lt_of_le}
use Rattle.std.proofs.lemmas.List.{append-nil, length-append}
use Rattle.std.specs.Prelude.{Result, Ok, Err}
use Rattle.tl_archive.specs.Shelves.{Held}
use Rattle.tl_append.specs.Appending.{Appends, AppendsAtMost, AppendsThen, Course, course, joined}
use Rattle.tl_append.proofs.Turns.{along, appends_on, appends_then_on, joined_on, none_appended, nothing_then}
use Rattle.tl_run.specs.Signing.{LogKey}
use Rattle.tl_run.specs.declared.fault.RunFault.{RunFault}
use Rattle.tl_folder.specs.Events.{Event}
use Rattle.tl_folder.specs.Folders.{Reached, after_calls, after_each, at_first}
use Rattle.tl_hash.specs.Bytes.{Bytes}
use Rattle.tl_ledger.specs.Standing.{Ledger}
use Rattle.tl_s3.specs.Objects.{Place}
use Rattle.tl_bucket.specs.Buckets.{Bucketed, bucket_kept, bucket_trace}
use Rattle.tl_bucket.specs.Commits.{Commit}
use Rattle.tl_bucket.specs.Finishing.{Finishes, FinishesAll, FinishesOne, FinishesSome, IsBatchOf, IsFirstBehind, WereCommitted}
use Rattle.tl_bucket.specs.Opened.{WasReadAs}

-- ---- the first commit behind the log

-- the commits from this number on, below `end`, come after `size` or more entries
abbrev pub AreBehind : Place → ℕ → ℕ → ℕ → Type 0
AreBehind p size end first = (n : ℕ) → first ≤ n → n < end → (c : Commit) × WasReadAs p n c × (size ≤ c.start)

pub none_behind : (p : Place) (size end : ℕ) → AreBehind p size end end
none_behind p size end n above below = absurd (let no : ⊥ = omega (arith, above, below) in no)

-- and so does the commit before them, if it was read so
pub one_behind : (p : Place) (size end number less : ℕ) (c : Commit) → less ≡ number - 1 → 1 < number
    → WasReadAs p less c → size ≤ c.start → AreBehind p size end number → AreBehind p size end less
one_behind p size end number less c eq above read from rest n low high =
    elim (eq-or-lt_of_le low) as (λ _. (d : Commit) × WasReadAs p n d × (size ≤ d.start)) [
      | inl same ↦ (c, subst (λ (k : ℕ). WasReadAs p k c) same read, from)
      | inr more ↦ rest n (omega (arith, eq, above, more)) high
    ]

-- ---- commits that were read

pub is_batch : (p : Place) (n size : ℕ) (c : Commit) (batch : List Bytes) → WasReadAs p n c → c.start ≡ size → c.entries ≡ batch → IsBatchOf p n size batch
is_batch p n size c batch read starts own = (
  c.token,
  subst (λ (es : List Bytes). WasReadAs p n (record { start = size; token = c.token; entries = es })) own
      (subst (λ (k : ℕ). WasReadAs p n (record { start = k; token = c.token; entries = c.entries })) starts read),
)

-- some commits, and those after them
pub committed_on : (p : Place) (n m start end : ℕ) (xs ys : List (List Bytes)) → n + length xs ≡ m → start + length (joined xs) ≡ end
    → WereCommitted p n start xs → WereCommitted p m end ys → WereCommitted p n start (xs ++ ys)
committed_on p n m start end [] ys counted sized before behind =
    let number : m ≡ n = sym counted ∙ add-zero n in
    let size : end ≡ start = sym sized ∙ add-zero start in
    subst (λ (k : ℕ). WereCommitted p k start ys) number (subst (λ (k : ℕ). WereCommitted p m k ys) size behind)
committed_on p n m start end (x ∷ xs) ys counted sized before behind =
    let joins : length (joined (x ∷ xs)) ≡ length x + length (joined xs) = length-append x (joined xs) in
    (before.0, committed_on p (n + 1) m (start + length x) end xs ys (omega (arith, counted)) (omega (arith, sized, joins)) before.1 behind)

-- ---- what became of a bucket and a ledger

module _ (held : Held) (reached : Reached) where
  abbrev pub between : Bucketed → Bucketed → Ledger → Ledger → Course
  between a b was is = course (bucket_kept held reached) (bucket_trace held reached) a b was is

  -- the course of a bucket and a ledger, from the calls alone
  abbrev by_calls : List Event → List Event → Ledger → Ledger → Course
  by_calls xs ys was is =
      along (after_calls reached 0 xs (at_first held)) (after_calls reached 0 ys (at_first held)) (after_each reached 0 xs (at_first held)) (after_each reached 0 ys (at_first held)) was is

  -- a step that leaves a bucket's calls as they are can be left out
  pub from_same : (P : Course → Type 0) (a m b : Bucketed) (was is : Ledger) → m.events ≡ a.events → P (between m b was is) → P (between a b was is)
  from_same P a m b was is same holds = subst (λ (events : List Event). P (by_calls events b.events was is)) same holds

  pub to_same : (P : Course → Type 0) (a m b : Bucketed) (was is : Ledger) → b.events ≡ m.events → P (between a m was is) → P (between a b was is)
  to_same P a m b was is same holds = subst (λ (events : List Event). P (by_calls a.events events was is)) (sym same) holds

  module _ (key : LogKey) (p : Place) where
    -- commits from the first one on, below this number, were finished, and the log has their entries
    abbrev pub HasFinished : ℕ → ℕ → Course → Type 0
    HasFinished first number c =
        (all : FinishesAll key p number first c) × (c.is.edge.size ≡ c.was.edge.size + length (joined all.batches))

    pub none_finished : (first : ℕ) (a b : Bucketed) (l : Ledger) → b.events ≡ a.events → HasFinished first first (between a b l l)
    none_finished first a b l same = (
      record {
        batches = [];
        committed = tt;
        all = add-zero first;
        appends = to_same (Appends key []) a a b l l same (none_appended key (bucket_kept held reached a) (bucket_trace held reached a) l);
      },
      sym (add-zero l.edge.size),
    )

    -- all of them were, and nothing else was done before a fault
    pub as_some : (first number : ℕ) (a b : Bucketed) (was is : Ledger) → FinishesAll key p number first (between a b was is) → FinishesSome key p first (between a b was is)
    as_some first number a b was is all = record {
      done = all.batches;
      committed = all.committed;
      batches = all.batches;
      rest = [];
      appends = nothing_then key all.batches (bucket_kept held reached a) (bucket_kept held reached b) (bucket_trace held reached a) (bucket_trace held reached b) was is all.appends;
      own = append-nil (joined all.batches);
    }

    pub none_put : (first : ℕ) (a b : Bucketed) (l : Ledger) → b.events ≡ a.events → FinishesSome key p first (between a b l l)
    none_put first a b l same = as_some first first a b l l (none_finished first a b l same).0

    -- ---- one commit

    module _ (n : ℕ) (a m b : Bucketed) (was is : Ledger) (batch : List Bytes) (same : m.events ≡ a.events) (read : IsBatchOf p n was.edge.size batch) where
      pub one_done : (count : ℕ) → Appends key (batch ∷ []) (between m b was is) → is.edge.size ≡ was.edge.size + count → length batch ≡ count
          → FinishesOne {T = Unit {0}} {E = RunFault} key p n (between a b was is) (Ok tt)
      one_done count appends grown counts = (
        batch,
        read,
        from_same (Appends key (batch ∷ [])) a m b was is same appends,
        grown ∙ ap (λ (k : ℕ). was.edge.size + k) (sym counts),
      )

      pub one_failed : AppendsAtMost key batch (between m b was is) → FinishesSome key p n (between a b was is)
      one_failed most =
          let appends = from_same (AppendsThen key most.batches most.rest) a m b was is same most.appends in
          elim most.own as (λ _. FinishesSome key p n (between a b was is)) [
            | inl nothing ↦ record { done = []; committed = tt; batches = most.batches; rest = most.rest; appends = appends; own = nothing.0 }
            | inr whole ↦ record { done = batch ∷ []; committed = (read, tt); batches = most.batches; rest = most.rest; appends = appends; own = whole.0 ∙ sym (append-nil batch) }
          ]

    -- ---- one more

    module _ (first number : ℕ) (a m b : Bucketed) (was now is : Ledger) (before : HasFinished first number (between a m was now)) where
      pub one_more : FinishesOne {T = Unit {0}} {E = RunFault} key p number (between m b now is) (Ok tt) → HasFinished first (number + 1) (between a b was is)
      one_more one =
          let batches = before.0.batches ++ one.0 ∷ [] in
          let joins : joined batches ≡ joined before.0.batches ++ joined (one.0 ∷ []) = joined_on before.0.batches (one.0 ∷ []) in
          let sizes : length (joined batches) ≡ length (joined before.0.batches) + length one.0 =
          ap (λ (es : List Bytes). length es) (joins ∙ ap (λ (es : List Bytes). joined before.0.batches ++ es) (append-nil one.0)) ∙ length-append (joined before.0.batches) one.0 in
          let counts : length batches ≡ length before.0.batches + length (one.0 ∷ []) = length-append before.0.batches (one.0 ∷ []) in (
            record {
              batches = batches;
              committed = committed_on p first number was.edge.size now.edge.size before.0.batches (one.0 ∷ []) before.0.all (sym before.1) before.0.committed (one.1, tt);
              all = omega (arith, counts, before.0.all);
              appends = appends_on key before.0.batches (one.0 ∷ []) (bucket_kept held reached a) (bucket_kept held reached m) (bucket_kept held reached b)
                  (bucket_trace held reached a) (bucket_trace held reached m) (bucket_trace held reached b) was now is before.0.appends one.2;
            },
            omega (arith, sizes, before.1, one.3),
          )

      pub part_more : FinishesSome key p number (between m b now is) → FinishesSome key p first (between a b was is)
      part_more some = record {
        done = before.0.batches ++ some.done;
        committed = committed_on p first number was.edge.size now.edge.size before.0.batches some.done before.0.all (sym before.1) before.0.committed some.committed;
        batches = before.0.batches ++ some.batches;
        rest = some.rest;
        appends = appends_then_on key before.0.batches some.batches (bucket_kept held reached a) (bucket_kept held reached m) (bucket_kept held reached b)
            (bucket_trace held reached a) (bucket_trace held reached m) (bucket_trace held reached b) was now is before.0.appends some.rest some.appends;
        own = ap (λ (es : List Bytes). es ++ some.rest) (joined_on before.0.batches some.batches)
            ∙ append_assoc (joined before.0.batches) (joined some.batches) some.rest
            ∙ ap (λ (es : List Bytes). joined before.0.batches ++ es) some.own
            ∙ sym (joined_on before.0.batches some.done);
      }

    -- ---- the end

    pub ended : (size first number end : ℕ) (a m b : Bucketed) (was is : Ledger) (r : Result (Unit {0}) RunFault) → size ≡ was.edge.size → number ≡ end
        → IsFirstBehind p size end first → HasFinished first number (between a m was is) → b.events ≡ m.events → Finishes key p end (between a b was is) r
    ended size first number end a m b was is r sized last from all same =
        let begins = subst (λ (k : ℕ). IsFirstBehind p k end first) sized from in
        let whole = to_same (FinishesAll key p end first) a m b was is same (subst (λ (k : ℕ). FinishesAll key p k first (between a m was is)) last all.0) in
        elim r as (λ (r : Result (Unit {0}) RunFault). Finishes key p end (between a b was is) r) [
          | Ok done ↦ (first, begins, whole)
          | Err fault ↦ (first, as_some first end a b was is whole)
        ]
