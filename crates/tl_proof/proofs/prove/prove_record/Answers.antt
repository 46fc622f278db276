use Rattle.std.proofs.Common.{◌++◌, All, map, sym, ap, subst, ◌∙◌, arith}
use Rattle.std.proofs.lemmas.Grind.{common_steps}
use Rattle.std.proofs.lemmas.Result.{err_from_is_err_and}
use Rattle.tl_store.proofs.Covering.{aligned-all}
use Rattle.tl_proof.specs.Needs.{inclusion_needs}
use Rattle.tl_proof.specs.ProveFaults.{IsIndex}
use Rattle.tl_proof.specs.Inner.Segments.{IsSegment, IsNeeded, segment_root}
use Rattle.tl_proof.proofs.Plans.{path-all}
use Rattle.tl_proof.proofs.ProveFaultLemmas.{read_fault}
use Rattle.tl_proof.proofs.prove.prove_record.Goals as goal

pub read_segments-requires-clause-parts : goal.read_segments-requires-clause-parts
read_segments-requires-clause-parts g c = subst (All IsSegment) (sym c.deref.ensures.value) (c.in_ok-segments.ensures.plan.parts (aligned-all c.args.size (c.is_index.ensures.0 c.if-not-is_index.false).1))

pub returns-in_err-read_segments-clause-faults : goal.returns-in_err-read_segments-clause-faults
returns-in_err-read_segments-clause-faults g c =
    let p = err_from_is_err_and c.from_residual-in_err-read_segments.result c.from_residual-in_err-read_segments.ensures.1 in
    let need : IsNeeded 0 (inclusion_needs c.args.size c.args.index) c.deref.result.now =
    subst (IsNeeded 0 (inclusion_needs c.args.size c.args.index)) (sym c.deref.ensures.value) c.in_ok-segments.ensures.plan.needed in
    rw (p.1, p.2)
    (read_fault (IsIndex c.args.size c.args.index) (g.R.HashReader.size c.args.reader.now) (g.R.HashReader.may_fail c.args.reader.now) (inclusion_needs c.args.size c.args.index) c.in_err-read_segments.field-0.0
    (c.is_index.ensures.0 c.if-not-is_index.false) (c.in_err-read_segments.ensures.faults (inclusion_needs c.args.size c.args.index) need))

pub returns-clause-path : goal.returns-clause-path
returns-clause-path g c entries more stands within =
    c.in_ok-read_segments.ensures.hashes entries more stands
    ∙ ap (map (segment_root g.T.TreeHash.digest_of (entries ++ more))) c.deref.ensures.value
    ∙ path-all g.T.TreeHash.digest_of c.args.index c.args.size c.in_ok-segments.segments.items (entries ++ more) c.in_ok-segments.ensures.plan within

pub returns-clause-in_range : goal.returns-clause-in_range
returns-clause-in_range g c =
    let need : IsNeeded 0 (inclusion_needs c.args.size c.args.index) c.deref.result.now =
    subst (IsNeeded 0 (inclusion_needs c.args.size c.args.index)) (sym c.deref.ensures.value) c.in_ok-segments.ensures.plan.needed in
    ((c.is_index.ensures.0 c.if-not-is_index.false), c.in_ok-read_segments.ensures.in_range (inclusion_needs c.args.size c.args.index) need)

pub read_segments-requires-clause-small : goal.read_segments-requires-clause-small
read_segments-requires-clause-small g c = grind (arith, common_steps)
