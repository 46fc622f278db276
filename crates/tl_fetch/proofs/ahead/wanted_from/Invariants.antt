use Rattle.std.proofs.Common.{All}
use Rattle.tl_fetch.specs.Inner.Ahead.{IsOfLog}
use Rattle.tl_fetch.proofs.ahead.wanted_from.Given as goal

-- all that is wanted so far is of the log
abbrev pub invariant-loop-bundle : goal.invariant-loop-bundle
invariant-loop-bundle g l = All (IsOfLog l.size) l.resources.items
