use Rattle.std.proofs.Common.{◌≡◌, ◌∷◌, ◌+◌, ℕ, List, drop, take, refl, sym, ap, subst, ◌∙◌, lit<, arith}
use Rattle.std.proofs.lemmas.Str.Pattern.{drop_at_char}
use Rattle.tl_offline.specs.Inner.Cutting.{HasRead}
use Rattle.tl_offline.proofs.CutLemmas.{found_few, found_more, found_none, stops, too_many}
use Rattle.tl_offline.proofs.parsing.cut_hashes.Goals as goal

pub loop-left-init : goal.loop-left-init
loop-left-init c = found_none c.args.text.now _ refl c.utf8.text

pub returns-in-Err : goal.returns-in-Err
unfolding lib.Utf8.encode
returns-in-Err c =
    let has = c.loop-left.invariant in
    let few = has.few in
    let left = c.loop-left.left.now in
    let done : List (List ℕ) = take c.loop-left.count c.loop-left.found in
    let counted = found_few c.args.text.now left c.loop-left.found c.loop-left.count has in
    stops c.args.text.now left done c.args.first (c.args.first + c.loop-left.count) c.in-Err.fault (omega (arith, counted)) (ap (λ (n : ℕ). c.args.first + n) (sym counted)) has.read c.loop-left-test.ensures.cases c.in-Err.ensures

pub returns-then-count-eq-MOST_HASHES : goal.returns-then-count-eq-MOST_HASHES
returns-then-count-eq-MOST_HASHES c =
    let has = c.loop-left.invariant in
    let left = c.loop-left.left.now in
    let done : List (List ℕ) = take c.loop-left.count c.loop-left.found in
    let counted = found_few c.args.text.now left c.loop-left.found c.loop-left.count has in
    let hash = c.in-Ok.ensures in
    too_many c.args.text.now left c.in-Ok.read.1.now c.in-Ok.read.0 done c.args.first (c.args.first + c.loop-left.count) (omega (arith, counted)) (omega arith) has.read hash.0 hash.1

pub loop-left-preserved : goal.loop-left-preserved
loop-left-preserved c =
    let hash = c.in-Ok.ensures in
    found_more c.args.text.now c.loop-left.left.now c.in-Ok.read.1.now c.in-Ok.read.0 c.loop-left.found c.loop-left.count c.loop-left.invariant c.if-count-eq-MOST_HASHES.false hash.0 hash.1 hash.2

pub returns : goal.returns
unfolding lib.Utf8.encode
returns c =
    let has = c.loop-left.invariant in
    let left = c.loop-left.left.now in
    let starts = c.loop-left-test.ensures.cases in
    let newline : left ≡ 10 ∷ drop starts.0 left = drop_at_char 10 left 0 starts.0 starts.1 (lit< tt) in
    let one : starts.0 ≡ 1 = starts.1.ends in
    let empty : left ≡ 10 ∷ c.range_from.result.now = newline ∙ ap (λ (n : ℕ). 10 ∷ drop n left) one ∙ ap (λ (t : List ℕ). 10 ∷ t) (sym c.range_from.ensures.value) in
    record {
      few = has.few;
      utf8 = c.range_from.utf8;
      read = subst (HasRead c.args.text.now (take c.loop-left.count c.loop-left.found)) empty has.read;
    }
