-- When a call fails, and with which fault: the first whose case is true.
use Rattle.std.specs.Prelude.{◌≡◌, ℕ, ◌+◌, ◌≤◌, ◌<◌, ◌⊎◌, List, length, None}
use Rattle.tl_sequencer.specs.Log.{Sender, End, Log, entries_of, given_at, end_at}
use Rattle.tl_sequencer.specs.declared.fault.OpenFault.{OpenFault}
use Rattle.tl_sequencer.specs.declared.fault.OpenFault.TheVariants.{LaneCount, Capacity, Limit, OutOfMemory}
use Rattle.tl_sequencer.specs.declared.fault.Why.{Why}
use Rattle.tl_sequencer.specs.declared.fault.Why.TheVariants.{TooLong, NumbersUsed, Full}
use Rattle.tl_sequencer.specs.declared.fault.TakeFault.{TakeFault}
use Rattle.tl_sequencer.specs.declared.fault.TakeFault.TheVariants as take

abbrev pub Within : ℕ → ℕ → Type 0
Within most n = (1 ≤ n) × (n ≤ most)

abbrev pub Outside : ℕ → ℕ → Type 0
Outside most n = (n < 1) ⊎ (most < n)

-- a log with this many lanes, room in each ring and entries in all can be opened
abbrev pub MayOpen : ℕ → ℕ → ℕ → Type 0
MayOpen lanes capacity limit = Within 64 lanes × Within 65536 capacity × Within 4294967295 limit

abbrev pub OpenRefuses : ℕ → ℕ → ℕ → OpenFault → Type 0
OpenRefuses lanes capacity limit LaneCount = Outside 64 lanes
OpenRefuses lanes capacity limit Capacity = Within 64 lanes × Outside 65536 capacity
OpenRefuses lanes capacity limit Limit = Within 64 lanes × Within 65536 capacity × Outside 4294967295 limit
OpenRefuses lanes capacity limit OutOfMemory = MayOpen lanes capacity limit

abbrev pub SubmitRefuses : {A : Type 0} → Sender A → List ℕ → Why → Type 0
SubmitRefuses s entry TooLong = 65535 < length entry
SubmitRefuses s entry NumbersUsed = (length entry ≤ 65535) × (s.limit ≤ length s.sent)
SubmitRefuses s entry Full = (length entry ≤ 65535) × (length s.sent < s.limit) × (s.room ≡ 0)

-- the lane is there, and the log has room or nothing is asked for
abbrev pub MayTake : {A : Type 0} → Log A → ℕ → ℕ → Type 0
MayTake log lane most =
    (lane < length log.lanes) × ((most ≡ 0) ⊎ (length (entries_of log) < log.limit))

abbrev pub TakeRefuses : {A : Type 0} → Log A → ℕ → ℕ → TakeFault → Type 0
TakeRefuses log lane most take.NoLane = length log.lanes ≤ lane
TakeRefuses log lane most take.LogFull = (lane < length log.lanes) × (length (entries_of log) ≡ log.limit) × (0 < most)
TakeRefuses log lane most take.OutOfMemory = MayTake log lane most × (0 < most) × (end_at log lane ≡ None)

-- what is left of the lane fits: the log and all that was sent to the lane have at most as many entries as the limit
-- and what the lane gave out
abbrev pub RestFits : {A : Type 0} → Log A → End A → Type 0
RestFits log end = length (entries_of log) + length end.sent ≤ log.limit + length (given_at log end.lane)

-- `NoLane` never occurs, since the log has the lane of an end
abbrev pub EndRefuses : {A : Type 0} → Log A → End A → TakeFault → Type 0
EndRefuses log end take.NoLane = ⊥
EndRefuses log end take.LogFull = log.limit + length (given_at log end.lane) < length (entries_of log) + length end.sent
EndRefuses log end take.OutOfMemory = RestFits log end × (length (given_at log end.lane) < length end.sent)
