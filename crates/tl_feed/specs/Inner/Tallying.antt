-- The lines that witnesses gave in a round, and the events of a ballot.
use Rattle.std.specs.Prelude.{◌≡◌, ◌⊎◌, ◌≢◌, ◌≤◌, ◌<◌, ◌+◌, ◌%◌, ◌^◌, ℕ, List, [], ◌∷◌, All, Option, Some, None, String, length, option_map, slice_get, string_bytes}
use Rattle.std.specs.Global.{Global}
use Rattle.std.specs.List.{filter_map, flat_map}
use Rattle.tl_hash.specs.Bytes.{Bytes}
use Rattle.tl_feed.specs.declared.tally.Round.{Round}
use Rattle.tl_feed.specs.declared.tally.Tally.{Tally}
use Rattle.tl_feed.specs.declared.tally.BallotEvent.{BallotEvent}
use Rattle.tl_feed.specs.declared.tally.BallotEvent.TheVariants.{Enough, Ended, Unasked}
use Rattle.tl_feed.specs.declared.unasked.Unasked.{Unasked as Why}

-- the lines of the witnesses that gave one, in the order of the witnesses
abbrev pub given : List (Option (String Global)) → List Bytes
given lines = filter_map (λ line. option_map string_bytes line) lines

-- these lines, one after another
abbrev pub joined : List (Option (String Global)) → Bytes
joined lines = flat_map (λ line. line) (given lines)

-- the open round has this number
abbrev pub IsOpen : Tally → ℕ → Type 0
IsOpen tally number = option_map (λ round. round.number) tally.round ≡ Some number

-- the number of the round after the one with this number (0: no round yet), one more in 64 bits
abbrev pub number_after : ℕ → ℕ
number_after opened = (opened + 1) % 2 ^ 64

-- a line of the witness at this place counts in the round with this number: the round is open, and the witness gave
-- no line in it
abbrev pub Counts : Tally → ℕ → ℕ → Type 0
Counts tally place number = IsOpen tally number × (slice_get tally.lines.items place ≡ Some None)

-- the line of the witness at this place is recorded, and nothing else changes
pub record Adds (place : ℕ) (line : String Global) (old new : Tally) : Type 0 where
  pub own : slice_get new.lines.items place ≡ Some (Some line)
  pub others : (other : ℕ) → other ≢ place → slice_get new.lines.items other ≡ slice_get old.lines.items other
  pub count : length new.lines.items ≡ length old.lines.items
  pub round : new.round ≡ old.round
  pub opened : new.opened ≡ old.opened
  pub unasked : new.unasked ≡ old.unasked
  pub ended : new.has_ended ≡ old.has_ended

-- a line is recorded if it counts; else nothing changes
abbrev pub Puts : ℕ → ℕ → String Global → Tally → Tally → Type 0
Puts place number line old new =
    (Counts old place number × Adds place line old new) ⊎ ((Counts old place number → ⊥) × (new ≡ old))

-- the round that this witness is to be asked about: it is open, its number isn't below `after`, and the witness gave
-- no line in it
abbrev pub IsFor : Tally → ℕ → ℕ → Round → Type 0
IsFor tally place after round =
    (tally.round ≡ Some round) × (after ≤ round.number) × (slice_get tally.lines.items place ≡ Some None)

-- the open round is closed, and its lines are forgotten
pub record Closes (old new : Tally) : Type 0 where
  pub round : new.round ≡ None
  pub none : All (λ line. line ≡ None) new.lines.items
  pub count : length new.lines.items ≡ length old.lines.items
  pub unasked : new.unasked ≡ old.unasked
  pub opened : new.opened ≡ old.opened
  pub ended : new.has_ended ≡ old.has_ended

-- the first fault that wasn't reported is reported, and nothing else changes
pub record HandsOut (place : ℕ) (why : Why) (old new : Tally) : Type 0 where
  pub first : old.unasked.items ≡ record { place = place; why = why } ∷ new.unasked.items
  pub lines : new.lines ≡ old.lines
  pub round : new.round ≡ old.round
  pub opened : new.opened ≡ old.opened
  pub ended : new.has_ended ≡ old.has_ended

-- the next event, the first that applies: the first fault that wasn't reported; all lines once there are `need`, with
-- which the round is closed; or that the ballot has ended
abbrev pub Tells : ℕ → Tally → Tally → BallotEvent → Type 0
Tells need old new (Unasked place why) = HandsOut place why old new
Tells need old new (Enough text) =
    (old.unasked.items ≡ []) × (need ≤ length (given old.lines.items)) × (string_bytes text ≡ joined old.lines.items) × Closes old new
Tells need old new Ended = (old.unasked.items ≡ []) × (length (given old.lines.items) < need) × (new ≡ old)
