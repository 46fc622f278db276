use Rattle.std.proofs.Common.{map, take}
use Rattle.std.specs.List.{AllPairs}
use Rattle.tl_serve.specs.Asking.{AreApart, AreKeysOf}
use Rattle.tl_serve.proofs.AskedKeys.{text_of}
use Rattle.tl_serve.proofs.asked.keys_of_asked.Given as goal

-- the keys so far are those of the texts so far, each with a name and a public key of its own
abbrev pub invariant-loop-witness : goal.invariant-loop-witness
invariant-loop-witness l = AreKeysOf (map text_of (take l.witness-index l.fn.asked)) l.keys.items × AllPairs AreApart l.keys.items
