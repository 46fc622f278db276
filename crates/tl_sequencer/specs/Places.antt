-- The places that are kept for each lane, for private functions only: no public contract cites them.
use Rattle.std.specs.Prelude.{◌≡◌, ℕ, ◌+◌, ◌==◌, if◌then◌else◌, List, [], ◌∷◌, length, map, vec_items, slice_index_or}
use Rattle.std.specs.declared.vec.Vec.{Vec}
use Rattle.tl_sequencer.specs.Log.{Lane}
use Rattle.tl_sequencer.specs.Rings.{log_of}
use Rattle.tl_sequencer.specs.Steps.{IsLog}

-- the places of the lane in `who`, counted from `first`
abbrev pub places_of : ℕ → ℕ → List ℕ → List ℕ
places_of lane first [] = []
places_of lane first (w ∷ who) =
    if w == lane then (first ∷ places_of lane (first + 1) who) else places_of lane (first + 1) who

-- the places of each lane in `who`; a lane past the last one has none
abbrev pub ArePlaces : List (List ℕ) → List ℕ → Type 0
ArePlaces places who = (lane : ℕ) → places_of lane 0 who ≡ slice_index_or places lane []

-- what the fields of a sequencer hold
pub record IsKept {E A : Type 0} (base taken : List (Vec ℕ E)) (who : List ℕ) (places : List (Vec ℕ A)) (limit : ℕ) (lanes : List (Lane A)) : Type 0 where
  pub log : IsLog (log_of base taken who limit lanes)
  pub counted : length places ≡ length lanes
  pub placed : ArePlaces (map vec_items places) who
