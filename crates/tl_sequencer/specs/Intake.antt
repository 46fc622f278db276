-- What a contract sees of an intake: a log that grows from its lanes and is stored elsewhere.
use Rattle.std.specs.Prelude.{ℕ, List}
use Rattle.tl_sequencer.specs.Log.{Log}

pub record Intake (A : Type 0) : Type 0 where
  pub log : Log A  -- all that was taken since it was opened
  pub drained : List (List ℕ)  -- what of it was drained, in order
  pub waiting : List (List ℕ)  -- what of it waits, in order
