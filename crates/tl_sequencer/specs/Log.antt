-- What a contract sees of a log, of a submitter and of an end. This follows no public standard.
use Rattle.std.specs.Prelude.{◌≡◌, ℕ, ◌≤◌, List, [], ◌++◌, length, map, Option, Some, None, slice_get, slice_index_or}
use denote.RawPtr.{Ptr}

-- the identity of a ring: its memory, its names and its allocator, a value of the type A
abbrev pub Ring : Type 0 → Type 0
Ring A = (Ptr × Ptr) × (ℕ × (ℕ × ℕ)) × A

pub record Lane (A : Type 0) : Type 0 where
  pub ring : Ring A
  pub given : List (List ℕ)  -- the entries that the ring gave out, in order
  pub sent : Option (List (List ℕ))  -- all entries that were sent, once the lane's end was taken in

pub record Log (A : Type 0) : Type 0 where
  pub base : List (List ℕ)  -- what the log began with
  pub taken : List (List ℕ)  -- what was taken from the lanes since, in order
  pub who : List ℕ  -- the lane of each
  pub limit : ℕ  -- the most entries that the log may have
  pub lanes : List (Lane A)

pub record Sender (A : Type 0) : Type 0 where
  pub ring : Ring A
  pub lane : ℕ
  pub sent : List (List ℕ)  -- what was sent so far, in order
  pub limit : ℕ  -- the most entries that it may send
  pub room : ℕ  -- at least this many more entries fit into the ring, even if none is taken from it

pub record End (A : Type 0) : Type 0 where
  pub ring : Ring A
  pub lane : ℕ
  pub sent : List (List ℕ)  -- what was sent in all, in order

module _ {A : Type 0} where
  -- all entries, in order
  abbrev pub entries_of : Log A → List (List ℕ)
  entries_of log = log.base ++ log.taken

  -- the ring of each lane, which no call changes
  abbrev pub rings_of : Log A → List (Ring A)
  rings_of log = map (λ l. l.ring) log.lanes

  -- the entries that each lane gave out
  abbrev pub given_of : Log A → List (List (List ℕ))
  given_of log = map (λ l. l.given) log.lanes

  -- all entries that were sent to each lane, once its end was taken in
  abbrev pub ends_of : Log A → List (Option (List (List ℕ)))
  ends_of log = map (λ l. l.sent) log.lanes

  -- the same for one lane, if the log has it
  abbrev pub given_at : Log A → ℕ → List (List ℕ)
  given_at log lane = slice_index_or (given_of log) lane []

  abbrev pub end_at : Log A → ℕ → Option (List (List ℕ))
  end_at log lane = slice_index_or (ends_of log) lane None

  -- the submitter is of this log: its ring is that of its lane
  abbrev pub IsSenderOf : Sender A → Log A → Type 0
  IsSenderOf sender log = slice_get (rings_of log) sender.lane ≡ Some sender.ring

  -- the end is of a submitter of this log
  abbrev pub IsEndOf : End A → Log A → Type 0
  IsEndOf end log = slice_get (rings_of log) end.lane ≡ Some end.ring

abbrev pub IsShort : List ℕ → Type 0
IsShort entry = length entry ≤ 65535
