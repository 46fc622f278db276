use Rattle.std.proofs.Common.{◌++◌, take, All, map, sym, ap, subst, ◌∙◌, arith}
use Rattle.std.proofs.lemmas.Grind.{common_steps}
use Rattle.std.proofs.lemmas.Result.{err_from_is_err_and}
use Rattle.tl_store.proofs.Covering.{aligned-all}
use Rattle.tl_proof.specs.Needs.{consistency_needs}
use Rattle.tl_proof.specs.ProveFaults.{IsOldSize}
use Rattle.tl_proof.specs.Inner.Segments.{IsSegment, IsNeeded, segment_root}
use Rattle.tl_proof.proofs.Plans.{proof-all, proof_of_none, proof_of_same, needed-proof}
use Rattle.tl_proof.proofs.ProveFaultLemmas.{read_fault}
use Rattle.tl_proof.proofs.prove.prove_tree.Goals as goal
use Rattle.tl_proof.proofs.prove.prove_tree.Goals.{then-old-eq0-via-then-old-eq0, then-old-eq0-via-else-old-eq0+then-old-size-2}

pub read_segments-requires-clause-parts : goal.read_segments-requires-clause-parts
read_segments-requires-clause-parts g c = subst (All IsSegment) (sym c.deref.ensures.value) (c.in_ok-segments.ensures.parts (aligned-all c.args.size c.if-size.false))

pub returns-in_err-read_segments-clause-faults : goal.returns-in_err-read_segments-clause-faults
returns-in_err-read_segments-clause-faults g c =
    let p = err_from_is_err_and c.from_residual-in_err-read_segments.result c.from_residual-in_err-read_segments.ensures.1 in
    let need : IsNeeded 0 (consistency_needs c.args.size c.args.old) c.deref.result.now =
    subst (IsNeeded 0 (consistency_needs c.args.size c.args.old)) (sym c.deref.ensures.value) (needed-proof c.args.old c.args.size c.in_ok-segments.segments.items (omega (arith, c.if-old-eq0.false)) (omega (arith, c.if-old-size.false, c.if-old-size-2.false)) c.in_ok-segments.ensures) in
    rw (p.1, p.2)
    (read_fault (IsOldSize c.args.size c.args.old) (g.R.HashReader.size c.args.reader.now) (g.R.HashReader.may_fail c.args.reader.now) (consistency_needs c.args.size c.args.old) c.in_err-read_segments.field-0.0
    (c.if-old-size.false, c.if-size.false) (c.in_err-read_segments.ensures.faults (consistency_needs c.args.size c.args.old) need))

pub returns-then-old-eq0-clause-proof : goal.returns-then-old-eq0-clause-proof
returns-then-old-eq0-clause-proof g c entries more stands within =
    elim c.then-old-eq0.branch [
      | then-old-eq0-via-then-old-eq0 w ↦ c.new.ensures.items ∙ sym (proof_of_none g.T.TreeHash.digest_of c.args.old (take c.args.size (entries ++ more)) w.if-old-eq0.true)
      | then-old-eq0-via-else-old-eq0+then-old-size-2 w ↦
          c.new.ensures.items ∙ sym (proof_of_same g.T.TreeHash.digest_of c.args.old c.args.size (entries ++ more) (omega (arith, w.if-old-eq0.false)) w.if-old-size-2.true within)
    ]

pub returns-clause-proof : goal.returns-clause-proof
returns-clause-proof g c entries more stands within =
    c.in_ok-read_segments.ensures.hashes entries more stands
    ∙ ap (map (segment_root g.T.TreeHash.digest_of (entries ++ more))) c.deref.ensures.value
    ∙ proof-all g.T.TreeHash.digest_of c.args.old c.args.size c.in_ok-segments.segments.items (entries ++ more) (omega (arith, c.if-old-eq0.false)) c.in_ok-segments.ensures within

pub returns-clause-in_range : goal.returns-clause-in_range
returns-clause-in_range g c =
    let need : IsNeeded 0 (consistency_needs c.args.size c.args.old) c.deref.result.now =
    subst (IsNeeded 0 (consistency_needs c.args.size c.args.old)) (sym c.deref.ensures.value) (needed-proof c.args.old c.args.size c.in_ok-segments.segments.items (omega (arith, c.if-old-eq0.false)) (omega (arith, c.if-old-size.false, c.if-old-size-2.false)) c.in_ok-segments.ensures) in
    ((c.if-old-size.false, c.if-size.false), c.in_ok-read_segments.ensures.in_range (consistency_needs c.args.size c.args.old) need)

pub read_segments-requires-clause-small : goal.read_segments-requires-clause-small
read_segments-requires-clause-small g c = grind (arith, common_steps)
