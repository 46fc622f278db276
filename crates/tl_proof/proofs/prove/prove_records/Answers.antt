use Rattle.std.proofs.Common.{◌<◌, ◌≤◌, ◌^◌, ◌++◌, ◌∙◌, All, length, map, take, vec_items, sym, ap, subst, arith}
use Rattle.std.proofs.lemmas.Grind.{common_steps}
use Rattle.std.specs.List.{sum}
use Rattle.std.proofs.lemmas.Bool.{both_ways, eqb-true}
use Rattle.std.proofs.lemmas.Bool.Decides.{nat_tests}
use Rattle.std.proofs.lemmas.List.Elements.{All-nil}
use Rattle.std.proofs.lemmas.Result.{err_from_is_err_and}
use Rattle.tl_store.specs.Reader.{readable_size}
use Rattle.tl_proof.specs.Proofs.{inclusion_proof}
use Rattle.tl_proof.specs.Needs.{records_need}
use Rattle.tl_proof.specs.ProveFaults.{IsIndex}
use Rattle.tl_proof.specs.Inner.Segments.{IsNeeded, IsSegment, segment_root}
use Rattle.tl_proof.specs.Inner.ManyPaths.{cut_into}
use Rattle.tl_proof.specs.declared.plan.Segment.{Segment}
use Rattle.tl_proof.proofs.ManyPathLemmas.{none-asked, paths-small, paths-proofs}
use Rattle.tl_proof.proofs.ProveFaultLemmas.{read_proofs_fault}
use Rattle.tl_proof.proofs.prove.prove_records.Goals as goal

pub returns-then-is_empty-clause-paths : goal.returns-then-is_empty-clause-paths
returns-then-is_empty-clause-paths g c entries more stands within =
    let none = none-asked c.args.indexes.now (eqb-true (length c.args.indexes.now) 0 (sym c.is_empty.ensures ∙ c.if-is_empty.true)) in
    ap (map vec_items) c.new.ensures.items ∙ ap (map (λ index. inclusion_proof g.T.TreeHash.digest_of index (take c.args.size (entries ++ more)))) (sym none)

pub returns-then-is_empty-clause-count : goal.returns-then-is_empty-clause-count
returns-then-is_empty-clause-count g c = ap length c.new.ensures.items ∙ sym (eqb-true (length c.args.indexes.now) 0 (sym c.is_empty.ensures ∙ c.if-is_empty.true))

pub returns-then-is_empty-clause-in_range : goal.returns-then-is_empty-clause-in_range
returns-then-is_empty-clause-in_range g c =
    let none = none-asked c.args.indexes.now (eqb-true (length c.args.indexes.now) 0 (sym c.is_empty.ensures ∙ c.if-is_empty.true)) in
    subst (λ indexes. All (IsIndex c.args.size) indexes × (records_need c.args.size indexes ≤ readable_size (g.R.HashReader.size c.args.reader.now))) (sym none)
    (All-nil (IsIndex c.args.size), omega arith)

pub returns-then-not-are_indexes-clause-faults : goal.returns-then-not-are_indexes-clause-faults
returns-then-not-are_indexes-clause-faults g c = λ all. both_ways c.are_indexes.result c.if-not-are_indexes.true (c.are_indexes.ensures.1 all)

pub returns-in_err-plan-clause-faults : goal.returns-in_err-plan-clause-faults
returns-in_err-plan-clause-faults g c =
    let all = c.are_indexes.ensures.0 c.if-not-are_indexes.false in
    let p = err_from_is_err_and c.from_residual.result c.from_residual.ensures.1 in
    let some : 0 < length c.args.indexes.now = grind (arith, nat_tests, c.is_empty.ensures, c.if-is_empty.false) in
    rw (p.1, p.2) (all, some)

pub read_segments-requires-clause-parts : goal.read_segments-requires-clause-parts
read_segments-requires-clause-parts g c = subst (All IsSegment) (sym c.deref.ensures.value) c.in_ok-plan.ensures.parts

pub read_segments-requires-clause-small : goal.read_segments-requires-clause-small
read_segments-requires-clause-small g c =
    let all = c.are_indexes.ensures.0 c.if-not-are_indexes.false in
    subst (All (λ (s : Segment). s.end ≤ 2 ^ 62)) (sym c.deref.ensures.value) (paths-small c.args.size c.args.indexes.now _ _ all c.in_ok-plan.ensures)

pub returns-in_err-hashes-clause-faults : goal.returns-in_err-hashes-clause-faults
returns-in_err-hashes-clause-faults g c =
    let all = c.are_indexes.ensures.0 c.if-not-are_indexes.false in
    let needed = records_need c.args.size c.args.indexes.now in
    let p = err_from_is_err_and c.from_residual-in_err-hashes.result c.from_residual-in_err-hashes.ensures.1 in
    let need : IsNeeded 0 needed c.deref.result.now = subst (IsNeeded 0 needed) (sym c.deref.ensures.value) c.in_ok-plan.ensures.needed in
    let some : 0 < length c.args.indexes.now = grind (arith, nat_tests, c.is_empty.ensures, c.if-is_empty.false) in
    rw (p.1, p.2)
    (read_proofs_fault (All (IsIndex c.args.size) c.args.indexes.now) (length c.args.indexes.now) (g.R.HashReader.size c.args.reader.now) (g.R.HashReader.may_fail c.args.reader.now) needed c.in_err-hashes.field-0.0
    all some (c.in_err-hashes.ensures.faults needed need))

pub cut_hashes-requires : goal.cut_hashes-requires
cut_hashes-requires g c =
    omega (arith, ap sum c.deref-2.ensures.value, ap length c.deref-3.ensures.value, c.in_ok-plan.ensures.total, c.in_ok-hashes.ensures.count, ap length c.deref.ensures.value)

pub returns-in_err-cut_hashes-clause-faults : goal.returns-in_err-cut_hashes-clause-faults
returns-in_err-cut_hashes-clause-faults g c =
    let all = c.are_indexes.ensures.0 c.if-not-are_indexes.false in
    let p = err_from_is_err_and c.from_residual-in_err-cut_hashes.result c.from_residual-in_err-cut_hashes.ensures.1 in
    let some : 0 < length c.args.indexes.now = grind (arith, nat_tests, c.is_empty.ensures, c.if-is_empty.false) in
    rw (p.1, p.2) (all, some)

pub returns-clause-paths : goal.returns-clause-paths
returns-clause-paths g c entries more stands within =
    let H = g.T.TreeHash.digest_of in
    let hashes = c.in_ok-hashes.ensures.hashes entries more stands ∙ ap (map (segment_root H (entries ++ more))) c.deref.ensures.value in
    let lists = c.in_ok-cut_hashes.ensures.lists ∙ (λ i. cut_into (c.deref-2.ensures.value i) (c.deref-3.ensures.value i)) in
    paths-proofs H (entries ++ more) c.args.size c.args.indexes.now _ _ _ _ within c.in_ok-plan.ensures hashes lists

pub returns-clause-count : goal.returns-clause-count
returns-clause-count g c = c.in_ok-cut_hashes.ensures.count ∙ ap length c.deref-2.ensures.value ∙ c.in_ok-plan.ensures.count

pub returns-clause-in_range : goal.returns-clause-in_range
returns-clause-in_range g c =
    let needed = records_need c.args.size c.args.indexes.now in
    let need : IsNeeded 0 needed c.deref.result.now = subst (IsNeeded 0 needed) (sym c.deref.ensures.value) c.in_ok-plan.ensures.needed in
    (c.are_indexes.ensures.0 c.if-not-are_indexes.false, c.in_ok-hashes.ensures.in_range needed need)

pub returns-clause-faults : goal.returns-clause-faults
returns-clause-faults g c = grind (arith, common_steps)
