-- What one call does to a log.
use Rattle.std.specs.Prelude.{◌≡◌, ℕ, ◌≤◌, ◌<◌, List, ◌++◌, [], map, length, replicate, slice_set, Some, None, IfSome, IsSome}
use Rattle.std.specs.List.{All}
use Rattle.std.specs.Option.{unwrap_or}
use Rattle.tl_sequencer.specs.Log.{Log, End, IsShort, entries_of, given_of, ends_of, given_at, end_at}
use Rattle.tl_sequencer.specs.Merge.{IsMergeBy}

-- what is true of every log: the entries of each lane are those that its ring gave out
pub record IsLog {A : Type 0} (log : Log A) : Type 0 where
  pub merged : IsMergeBy log.who log.taken (given_of log)
  pub ended : All (λ l. IfSome l.sent (λ sent. sent ≡ l.given)) log.lanes
  pub few : length log.lanes ≤ 64
  pub fits : length (entries_of log) ≤ log.limit
  pub short : All IsShort (entries_of log)

-- `count` more entries of the lane are appended to the log, and nothing else changes
pub record Takes {A : Type 0} (lane count : ℕ) (a b : Log A) : Type 0 where
  pub more : List (List ℕ)
  pub counted : length more ≡ count
  pub over : IsSome (end_at a lane) → count ≡ 0
  pub fits : length (entries_of b) ≤ b.limit
  pub base : b.base ≡ a.base
  pub taken : b.taken ≡ a.taken ++ more
  pub who : b.who ≡ a.who ++ replicate count lane
  pub limit : b.limit ≡ a.limit
  pub given : given_of b ≡ slice_set (given_of a) lane (given_at a lane ++ more)
  pub ends : ends_of b ≡ ends_of a

-- all that was left of what the end's submitter sent is appended, and the lane has ended
pub record Closes {A : Type 0} (end : End A) (count : ℕ) (a b : Log A) : Type 0 where
  pub more : List (List ℕ)
  pub counted : length more ≡ count
  pub rest : given_at a end.lane ++ more ≡ end.sent
  pub fits : length (entries_of b) ≤ b.limit
  pub base : b.base ≡ a.base
  pub taken : b.taken ≡ a.taken ++ more
  pub who : b.who ≡ a.who ++ replicate count end.lane
  pub limit : b.limit ≡ a.limit
  pub given : given_of b ≡ slice_set (given_of a) end.lane end.sent
  pub ends : ends_of b ≡ slice_set (ends_of a) end.lane (Some end.sent)

-- the entries that were sent to each lane, as its end says
abbrev pub sent_of : {A : Type 0} → Log A → List (List (List ℕ))
sent_of log = map (λ l. unwrap_or l.sent []) log.lanes

-- each lane's end was taken in, and all that was sent was taken
abbrev pub IsComplete : {A : Type 0} → Log A → Type 0
IsComplete log = All (λ l. l.sent ≡ Some l.given) log.lanes

-- the lowest lane whose end wasn't taken in
abbrev pub IsFirstOpen : {A : Type 0} → Log A → ℕ → Type 0
IsFirstOpen log lane =
    (lane < length log.lanes) × (end_at log lane ≡ None) × ((k : ℕ) → k < lane → IsSome (end_at log k))
