use Rattle.std.proofs.Common.{All, take}
use Rattle.tl_serve.specs.Asking.{AreApart}
use Rattle.tl_serve.proofs.asked.has_alike.Given as goal

-- none of the keys so far is alike
abbrev pub invariant-loop-key : goal.invariant-loop-key
invariant-loop-key l = All (λ key. AreApart key l.other) (take l.key-index l.keys)
