-- The fields of an intake: a history of all that was taken, and what of it waits.
use Rattle.std.specs.Prelude.{◌≡◌, ℕ, ◌-◌, List, [], ◌++◌, length, map, take, vec_items}
use Rattle.std.specs.declared.vec.Vec.{Vec}
use Rattle.tl_sequencer.specs.Log.{Lane}
use Rattle.tl_sequencer.specs.Rings.{log_of}
use Rattle.tl_sequencer.specs.Steps.{IsLog}
use Rattle.tl_sequencer.specs.Intake.{Intake}

module _ {E : Type 0} where
  -- the entries of a history
  abbrev pub taken_of : List (Vec ℕ E × ℕ) → List (Vec ℕ E)
  taken_of history = map (λ p. p.0) history

  -- the lane of each
  abbrev pub who_of : List (Vec ℕ E × ℕ) → List ℕ
  who_of history = map (λ p. p.1) history

  -- all that was taken, without what waits
  abbrev pub drained_of : List (Vec ℕ E) → List (Vec ℕ E) → List (Vec ℕ E)
  drained_of taken waiting = take (length taken - length waiting) taken

  -- whatever was drained: if it and what waited was all that was taken, then it and what waits now is all that is
  -- taken now
  abbrev pub SameDrained : List (Vec ℕ E) → List (Vec ℕ E) → List (Vec ℕ E) → List (Vec ℕ E) → Type 0
  SameDrained taken taken' waiting waiting' =
      (drained : List (Vec ℕ E)) → taken ≡ drained ++ waiting → taken' ≡ drained ++ waiting'

module _ {E A : Type 0} where
  -- the intake of these lists
  abbrev pub intake_of : List (Vec ℕ E × ℕ) → List (Vec ℕ E) → ℕ → List (Lane A) → Intake A
  intake_of history waiting limit lanes = record {
    log = log_of [] (taken_of history) (who_of history) limit lanes;
    drained = map vec_items (drained_of (taken_of history) waiting);
    waiting = map vec_items waiting;
  }

  -- what the fields of an intake hold
  pub record IsHeld (history : List (Vec ℕ E × ℕ)) (waiting : List (Vec ℕ E)) (count limit : ℕ) (lanes : List (Lane A)) : Type 0 where
    pub log : IsLog (log_of [] (taken_of history) (who_of history) limit lanes)
    pub counted : count ≡ length history
    pub parts : taken_of history ≡ drained_of (taken_of history) waiting ++ waiting
