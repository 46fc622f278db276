use Rattle.std.proofs.Common.{vec_items, ◌∙◌, sym}
use Rattle.std.proofs.lemmas.Bool.{both_ways}
use Rattle.tl_proof.proofs.ForkedLists.{IsPrefix-all, DifferAt-place, same-more}
use Rattle.tl_proof.proofs.audit.list_walk.first_difference.Goals as goal

pub returns-then-not-same_bytes : goal.returns-then-not-same_bytes
returns-then-not-same_bytes g c =
    DifferAt-place vec_items c.args.old.now c.args.new.now c.loop-i.i c.index-old-i.result c.index-new-i.result c.loop-i-test.true c.requires c.index-old-i.is c.index-new-i.is
    (λ same. both_ways c.same_bytes.result c.if-not-same_bytes.true (c.same_bytes.ensures.1 (c.as_slice.ensures.value ∙ same ∙ sym c.as_slice-in-loop-i.ensures.value)))

pub loop-i-preserved : goal.loop-i-preserved
loop-i-preserved g c =
    same-more vec_items c.args.old.now c.args.new.now c.loop-i.i c.index-old-i.result c.index-new-i.result c.loop-i-test.true c.requires c.index-old-i.is c.index-new-i.is
    (sym c.as_slice.ensures.value ∙ c.same_bytes.ensures.0 c.if-not-same_bytes.false ∙ c.as_slice-in-loop-i.ensures.value) c.loop-i.invariant

pub returns : goal.returns
returns g c = IsPrefix-all vec_items c.args.old.now c.args.new.now c.loop-i.i c.loop-i-test.false c.loop-i.auto.i-end c.loop-i.invariant
