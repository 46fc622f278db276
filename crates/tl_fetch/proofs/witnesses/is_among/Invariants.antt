use Rattle.std.proofs.Common.{take}
use Rattle.std.specs.Prelude.{Contains}
use Rattle.tl_fetch.proofs.witnesses.is_among.Given as goal

-- none so far is the key
abbrev pub invariant-loop-one : goal.invariant-loop-one
invariant-loop-one l = Contains (take l.one-index l.known) l.key → ⊥
