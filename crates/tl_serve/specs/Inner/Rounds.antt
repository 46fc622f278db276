-- Calls that take entries in, one after another.
use Rattle.std.specs.Prelude.{◌≡◌, ◌⊎◌, ℕ, ◌+◌, ◌-◌, ◌^◌, min, List, [], ◌∷◌, Result, Ok, Err}
use Rattle.std.specs.List.{range_with_len}
use Rattle.tl_run.specs.declared.fault.RunFault.{RunFault}
use Rattle.tl_sequencer.specs.Log.{End, Log}
use Rattle.tl_serve.specs.Inner.Live.{TakesIn, TakesRest}

-- for each of these in turn, a call did this to a log and returned a count: of all, and this is the sum of the
-- counts; or up to the first that failed, with its fault
abbrev pub InTurn : {A X : Type 0} → (X → Log A → Log A → Result ℕ RunFault → Type 0) → List X → Log A → Log A → Result ℕ RunFault → Type 0
InTurn Does [] a b (Ok sum) = (b ≡ a) × (sum ≡ 0)
InTurn Does [] a b (Err fault) = ⊥
InTurn {A} Does (x ∷ more) a c (Ok sum) = (b : Log A) × (n : ℕ) × (rest : ℕ) × Does x a b (Ok n) × InTurn Does more b c (Ok rest) × (sum ≡ n + rest)
InTurn {A} Does (x ∷ more) a c (Err fault) = Does x a c (Err fault) ⊎ ((b : Log A) × (n : ℕ) × Does x a b (Ok n) × InTurn Does more b c (Err fault))

-- the same, if a sum above 2^64 - 1 is reported as that
abbrev pub AllInTurn : {A X : Type 0} → (X → Log A → Log A → Result ℕ RunFault → Type 0) → List X → Log A → Log A → Result ℕ RunFault → Type 0
AllInTurn Does xs a b (Ok count) = (sum : ℕ) × InTurn Does xs a b (Ok sum) × (count ≡ min sum (2 ^ 64 - 1))
AllInTurn Does xs a b (Err fault) = InTurn Does xs a b (Err fault)

-- a round: at most this many entries were taken from each of this many lanes, in the order of their numbers
abbrev pub TakesRound : {A : Type 0} → ℕ → ℕ → Log A → Log A → Result ℕ RunFault → Type 0
TakesRound lanes most a b result = AllInTurn (λ lane. TakesIn lane most) (range_with_len 0 lanes) a b result

-- all that was left of the lane of each end was taken, in this order
abbrev pub TakesEnds : {A : Type 0} → List (End A) → Log A → Log A → Result ℕ RunFault → Type 0
TakesEnds ends a b result = AllInTurn TakesRest ends a b result
