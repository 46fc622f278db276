use Rattle.std.proofs.Common.{◌≡◌, ◌∙◌, [], sym, arith}
use Rattle.std.proofs.lemmas.Grind.{common_steps}
use Rattle.tl_device.proofs.OutcomeLemmas.{on_ok, on_err, unless_ok}
use Rattle.tl_device.proofs.SendingLemmas.{part_after, put_both}
use Rattle.tl_device.proofs.pieces.put.Goals as goal

pub returns-clause-some : goal.returns-clause-some
returns-clause-some g c =
    let kept = unless_ok _ (sym c.is_ok.ensures.value ∙ c.if-is_ok.false) c.try_extend_from_slice.ensures.err in
    let first = rw (c.as_slice.ensures.value, kept) at c.in_ok-write_whole.ensures.whole.appended in
    let unkept = unless_ok _ (sym c.is_ok-2.ensures.value ∙ c.if-is_ok-2.false) c.try_extend_from_slice-2.ensures.err in
    let none : c.try_extend_from_slice-2.new.self.items ≡ [] = rw unkept c.clear.ensures in
    on_ok c.write_whole-2.result (λ whole. put_both _ _ _ _ _ _ _ _ _ none first c.in_ok-write_whole.ensures.whole.steady whole) c.write_whole-2.ensures.whole

pub returns-clause-part : goal.returns-clause-part
returns-clause-part g c =
    let kept = unless_ok _ (sym c.is_ok.ensures.value ∙ c.if-is_ok.false) c.try_extend_from_slice.ensures.err in
    let first = rw (c.as_slice.ensures.value, kept) at c.in_ok-write_whole.ensures.whole.appended in
    on_err c.write_whole-2.result (λ part. part_after _ _ _ _ _ _ _ _ first part) c.write_whole-2.ensures.part

pub returns-in_err-write_whole-clause-part : goal.returns-in_err-write_whole-clause-part
returns-in_err-write_whole-clause-part g c = grind (arith, common_steps)

pub returns-then-is_ok-2-clause-some : goal.returns-then-is_ok-2-clause-some
returns-then-is_ok-2-clause-some g c = grind (arith, common_steps)
