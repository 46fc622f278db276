use Rattle.std.proofs.Common.{◌<◌, length, map, vec_items, arith}
use Rattle.std.proofs.lemmas.Grind.{common_steps}
use Rattle.std.proofs.lemmas.List.{length-map}
use Rattle.tl_proof.proofs.AuditAnswers.{audits-of}
use Rattle.tl_proof.proofs.ForkedLists.{entry_at-value}
use Rattle.tl_proof.proofs.audit.show_collision.Goals as goal

pub returns : goal.returns
returns g c = λ steps accepted found.
    let old = map vec_items c.args.old.now in
    let new = map vec_items c.args.new.now in
    let within : c.args.place < length new =
    omega (arith, c.requires.differ.0, c.requires.most, length-map c.args.old.now vec_items, length-map c.args.new.now vec_items) in
    audits-of g.T.TreeHash.digest_of old new steps c.fork_or_lists-fork.result c.args.place c.as_slice.result.now c.as_slice-2.result.now c.collision_of.result
    accepted c.requires.differ (c.fork_or_lists-fork.ensures steps found)
    (entry_at-value vec_items c.args.old.now c.args.place c.index-old-place.result c.as_slice.result.now c.requires.differ.0 c.index-old-place.is c.as_slice.ensures.value)
    (entry_at-value vec_items c.args.new.now c.args.place c.index-new-place.result c.as_slice-2.result.now within c.index-new-place.is c.as_slice-2.ensures.value)
    c.collision_of.ensures

pub bounds-new-place : goal.bounds-new-place
bounds-new-place g c = grind (arith, common_steps)

pub bounds-old-place : goal.bounds-old-place
bounds-old-place g c = grind (arith, common_steps)

pub fork_or_lists-fork-requires-clause-differ : goal.fork_or_lists-fork-requires-clause-differ
fork_or_lists-fork-requires-clause-differ g c = grind (arith, common_steps)

pub offset_bounds-new-place : goal.offset_bounds-new-place
offset_bounds-new-place g c = grind (arith, common_steps)

pub offset_bounds-old-place : goal.offset_bounds-old-place
offset_bounds-old-place g c = grind (arith, common_steps)
