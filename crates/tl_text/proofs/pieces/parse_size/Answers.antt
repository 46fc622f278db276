use Rattle.std.proofs.Common.{◌≡◌, ℕ, Bool, true, List, sym, ap, ◌∙◌, arith, Ok}
use Rattle.std.specs.Prelude.{◌≢◌, not, bytes_eq}
use Rattle.std.proofs.lemmas.Fmt.{parse-decimal}
use Rattle.std.proofs.lemmas.Slice.Eq.{bytes_eq-Decides}
use Rattle.tl_text.specs.Text.{number_text}
use Rattle.tl_text.proofs.pieces.parse_size.Goals as goal

true_not : {b : Bool} → b ≡ true → true ≡ not b → ⊥
true_not {b} is e = absurd cc

not_same : (xs ys zs : List ℕ) → true ≡ not (bytes_eq xs ys) → ys ≡ zs → xs ≢ zs
not_same xs ys zs e is same = let equal : bytes_eq xs ys ≡ true = (bytes_eq-Decides xs ys).1 (same ∙ sym is) in absurd (true_not equal e)

pub returns-in_default : goal.returns-in_default
returns-in_default c = λ n small e.
    let read : c.parse.result ≡ Ok n = parse-decimal 64 n c.args.text.now c.parse.result (omega arith) (omega arith) e c.parse.ensures.value.0 in
    let bad = sym c.in_default.is ∙ read in
    cc

pub returns-then-size : goal.returns-then-size
returns-then-size c = λ n small e.
    let read : c.parse.result ≡ Ok n = parse-decimal 64 n c.args.text.now c.parse.result (omega arith) (omega arith) e c.parse.ensures.value.0 in
    let same : c.in-Ok.size ≡ n = cc in
    absurd (omega arith)

pub returns-then-ne : goal.returns-then-ne
returns-then-ne c = λ n small e.
    let read : c.parse.result ≡ Ok n = parse-decimal 64 n c.args.text.now c.parse.result (omega arith) (omega arith) e c.parse.ensures.value.0 in
    let same : c.in-Ok.size ≡ n = cc in
    not_same c.args.text.now c.format.result.now (number_text n) c.if-ne.ensures (c.format.ensures.text ∙ ap number_text same) e
