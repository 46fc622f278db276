use Rattle.std.proofs.Common.{◌≤◌, All, List, ℕ, arith, refl, subst}
use Rattle.std.proofs.lemmas.Bool.Decides.{nat_tests}
use Rattle.std.proofs.lemmas.List.{take_all}
use Rattle.tl_http.proofs.NumberLemmas.{passes_more}
use Rattle.tl_http.proofs.target.is_visible.Goals as goal

pub loop-byte-preserved : goal.loop-byte-preserved
loop-byte-preserved c =
    passes_more (λ b. (33 ≤ b) × (b ≤ 126)) c.args.text.now c.loop-byte.byte-index 0 c.loop-byte-test.true c.loop-byte.invariant c.if-not-is_ascii_graphic.ensures.cases

pub returns : goal.returns
returns c = (
  λ is. record {
    some = grind (arith, nat_tests, c.is_empty.ensures, c.if-is_empty.false);
    visible = subst (λ (l : List ℕ). All (λ b. (33 ≤ b) × (b ≤ 126)) l) (take_all c.loop-byte.byte-index c.args.text.now c.loop-byte-test.false) c.loop-byte.invariant;
  },
  λ is. refl,
)
