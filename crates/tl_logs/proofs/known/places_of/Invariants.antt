use Rattle.std.proofs.Common.{◌≡◌, List, ℕ, take}
use Rattle.std.specs.Prelude.{is_some}
use Rattle.tl_logs.specs.ReadLogs.{is_origin_of, logs_shown}
use Rattle.tl_logs.specs.Inner.ByOrigin.{index_of}
use Rattle.tl_logs.proofs.known.places_of.Given as goal

-- the origins so far have places, and no others
abbrev pub invariant-loop-i : goal.invariant-loop-i
invariant-loop-i g l = (o : List ℕ) → is_some (index_of l.places o) ≡ is_origin_of (logs_shown (take l.i l.logs)) o
