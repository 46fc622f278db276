use Rattle.std.proofs.Common.{◌≡◌, ◌-◌, ◌∷◌, ℕ, List, length, drop, sym, ap, ◌∙◌, lit<, arith}
use Rattle.std.proofs.lemmas.Grind.{common_steps}
use Rattle.std.proofs.lemmas.Str.Pattern.{drop_at_char}
use Rattle.tl_witness.proofs.ProofLines.{counts_none, counts_more, too_many, no_next, proof_of}
use Rattle.tl_witness.proofs.request.cut_proof.Goals as goal

pub loop-left-init : goal.loop-left-init
loop-left-init c = counts_none c.args.text.now c.utf8.text

pub returns-then-count-eq-MOST_HASHES : goal.returns-then-count-eq-MOST_HASHES
unfolding lib.Utf8.encode
returns-then-count-eq-MOST_HASHES c =
    let has = c.loop-left.invariant in
    let full : length has.done ≡ 63 = omega (arith, has.counted) in
    too_many c.args.text.now c.loop-left.left.now has.done has.read full c.loop-left-test.ensures.cases

pub returns-in_default : goal.returns-in_default
unfolding lib.Utf8.encode
returns-in_default c =
    let has = c.loop-left.invariant in
    let few = has.read.few in
    no_next c.args.text.now c.loop-left.left.now has.done (63 - length has.done) has.read (omega arith) c.loop-left-test.ensures.cases (rw c.in_default.is at c.next_hash.ensures)

pub loop-left-preserved : goal.loop-left-preserved
loop-left-preserved c =
    let hash = c.in-Some.ensures in
    counts_more c.args.text.now c.loop-left.left.now c.in-Some.rest.now c.in-Some.field-0-0 c.loop-left.count c.loop-left.invariant (omega arith) hash.0 hash.1 hash.2

pub returns : goal.returns
unfolding lib.Utf8.encode
returns c =
    let left = c.loop-left.left.now in
    let starts = c.loop-left-test.ensures.cases in
    let newline : left ≡ 10 ∷ drop starts.0 left = drop_at_char 10 left 0 starts.0 starts.1 (lit< tt) in
    let one : starts.0 ≡ 1 = starts.1.ends in
    let empty : left ≡ 10 ∷ c.range_from.result.now = newline ∙ ap (λ (n : ℕ). 10 ∷ drop n left) one ∙ ap (λ (t : List ℕ). 10 ∷ t) (sym c.range_from.ensures.value) in
    proof_of c.args.text.now left c.range_from.result.now c.loop-left.count c.loop-left.invariant empty c.range_from.utf8

pub loop-left-smaller : goal.loop-left-smaller
loop-left-smaller c = grind (arith, common_steps)
