-- What one lane gives, and the lanes of a new log.
use Rattle.std.specs.Prelude.{◌≡◌, ℕ, ◌+◌, ◌≤◌, ◌<◌, List, map, length, [], Some, None, slice_get, slice_index_or, ◌++◌, vec_items, replicate, IsSome}
use Rattle.std.specs.List.{All, range_with_len}
use Rattle.tl_sequencer.specs.declared.fault.TakeFault.{TakeFault}
use Rattle.tl_sequencer.specs.declared.fault.TakeFault.TheVariants.{NoLane, LogFull, OutOfMemory}
use Rattle.tl_sequencer.specs.Log.{Lane, Sender, IsShort, End as Ended}
use Rattle.std.specs.declared.vec.Vec.{Vec}

module _ {E A : Type 0} where
  -- a lane gives `count` entries, which are appended
  pub record Gives (count lane : ℕ) (l l' : Lane A) (entries entries' : List (Vec ℕ E)) (who who' : List ℕ) : Type 0 where
    pub popped : List (Vec ℕ E)
    pub counted : length popped ≡ count
    pub over : IsSome l.sent → popped ≡ []
    pub after : l' ≡ record l { given = l.given ++ map vec_items popped }
    pub put : entries' ≡ entries ++ popped
    pub by : who' ≡ who ++ replicate count lane
    pub short : All (λ v. IsShort v.items) popped

  -- a lane gives all that is left of what was sent, and has ended
  pub record Ends (end : Ended A) (count lane : ℕ) (l l' : Lane A) (entries entries' : List (Vec ℕ E)) (who who' : List ℕ) : Type 0 where
    pub popped : List (Vec ℕ E)
    pub counted : length popped ≡ count
    pub rest : l.given ++ map vec_items popped ≡ end.sent
    pub after : l' ≡ record { ring = l.ring; given = end.sent; sent = Some end.sent }
    pub put : entries' ≡ entries ++ popped
    pub by : who' ≡ who ++ replicate count lane
    pub short : All (λ v. IsShort v.items) popped

-- what is left of the lane doesn't fit into the room; or it fits, isn't empty, and memory ran out
abbrev pub LaneRefuses : ℕ → List (List ℕ) → List (List ℕ) → TakeFault → Type 0
LaneRefuses room given sent NoLane = ⊥
LaneRefuses room given sent LogFull = length given + room < length sent
LaneRefuses room given sent OutOfMemory = (length sent ≤ length given + room) × (length given < length sent)

-- the lowest of these lanes whose end wasn't taken in
abbrev pub IsFirstOpenOf : {A : Type 0} → List (Lane A) → ℕ → Type 0
IsFirstOpenOf lanes lane =
    let ends = map (λ l. l.sent) lanes in
    (lane < length lanes) × (slice_index_or ends lane None ≡ None) × ((k : ℕ) → k < lane → IsSome (slice_index_or ends k None))

-- the two ends of one new ring
abbrev pub IsNewLane : {A : Type 0} → ℕ → ℕ → ℕ → Lane A → Sender A → Type 0
IsNewLane capacity limit lane l s =
    (l ≡ record { ring = s.ring; given = []; sent = None }) × (s ≡ record { ring = s.ring; lane = lane; sent = []; limit = limit; room = capacity })

-- `count` new lanes, each with its submitter, in the order of the lanes
pub record AreLanes {A : Type 0} (count capacity limit : ℕ) (lanes : List (Lane A)) (submitters : List (Sender A)) : Type 0 where
  pub counted : length lanes ≡ count
  pub fresh : All (λ l. (l.given ≡ []) × (l.sent ≡ None)) lanes
  pub as_many : length submitters ≡ count
  pub order : map (λ s. s.lane) submitters ≡ range_with_len 0 count
  pub own : All (λ s. slice_get (map (λ l. l.ring) lanes) s.lane ≡ Some s.ring) submitters
  pub unsent : All (λ s. (s.sent ≡ []) × (s.limit ≡ limit) × (s.room ≡ capacity)) submitters
