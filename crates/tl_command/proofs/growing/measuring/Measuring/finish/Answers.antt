use Rattle.std.proofs.Common.{◌<◌, ◌++◌, ◌∷◌, [], List, ℕ, length, sym, subst, arith}
use Rattle.tl_command.specs.Inner.BundleLengths.{AreBundleLengths}
use Rattle.std.specs.Prelude.{IfOk}
use Rattle.tl_command.proofs.GrowingLemmas.{same_entries}
use Rattle.tl_command.proofs.growing.measuring.Measuring.finish.Goals as goal

pub returns : goal.returns
returns g c = λ input was.
    let some : 0 < length was.last = omega (arith, was.begun, c.if-self-eq0.false) in
    let same = same_entries was.lines was.last input was.plain was.last_plain was.whole some in
    subst (λ (es : List (List ℕ)). IfOk c.rest-2.result (λ lengths. AreBundleLengths lengths.items es)) (sym same) (c.rest-2.ensures (input ++ 10 ∷ []) (c.in_ok-end_line.ensures.measures input was))
