use Rattle.std.proofs.Common.{ℕ, ◌<◌}
use Rattle.tl_http.specs.Inner.Closing.{NamesCloseAt}
use Rattle.tl_http.proofs.persistence.names_close.Given as goal

-- the option stands at no place so far
abbrev pub invariant-loop-start : goal.invariant-loop-start
invariant-loop-start l = (k : ℕ) → k < l.start → ¬ (NamesCloseAt l.value k)
