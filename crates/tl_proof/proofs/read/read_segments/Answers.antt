use Rattle.std.proofs.Common.{◌^◌, length, ap, ◌∙◌, arith}
use Rattle.std.proofs.lemmas.Grind.{common_steps}
use Rattle.std.proofs.lemmas.Result.{err_from_is_err_and}
use Rattle.tl_store.specs.Reader.{readable_size}
use Rattle.tl_proof.proofs.SegmentReads.{needed-within, needed-small, needed-some, segments_fault, groups-count, groups-within, readable-all}
use Rattle.tl_proof.proofs.read.read_segments.Goals as goal

pub returns-in_err-hashes-clause-faults : goal.returns-in_err-hashes-clause-faults
returns-in_err-hashes-clause-faults g c needed need =
    let p = err_from_is_err_and c.from_residual-in_err-hashes.result c.from_residual-in_err-hashes.ensures.1 in
    rw (p.1, p.2)
    (segments_fault (g.R.HashReader.size c.args.reader.now) (g.R.HashReader.may_fail c.args.reader.now) needed c.args.segments.now c.in_ok-indexes.indexes.items c.in_err-hashes.field-0.0
    need (needed-small needed (2 ^ 62) c.args.segments.now need c.requires.small) c.in_ok-indexes.ensures.groups c.requires.parts (rw c.deref.ensures.value at c.in_err-hashes.ensures.faults))

pub group_hashes-requires-clause-count : goal.group_hashes-requires-clause-count
group_hashes-requires-clause-count g c =
    ap length c.deref-2.ensures.value ∙ c.in_ok-hashes.ensures.count ∙ ap length c.deref.ensures.value ∙ groups-count c.args.segments.now c.in_ok-indexes.indexes.items c.in_ok-indexes.ensures.groups

pub returns-clause-hashes : goal.returns-clause-hashes
returns-clause-hashes g c entries more stands =
    let within = groups-within (readable_size (g.R.HashReader.size c.args.reader.now)) c.args.segments.now c.in_ok-indexes.indexes.items c.in_ok-indexes.ensures.groups c.requires.parts (rw c.deref.ensures.value at c.in_ok-hashes.ensures.in_range) in
    let all = readable-all (g.R.HashReader.size c.args.reader.now) entries c.args.segments.now (g.met.R.HashReader.stands_size c.args.reader.now g.T.TreeHash.digest_of entries stands) within in
    let hashes = rw c.deref.ensures.value at c.in_ok-hashes.ensures.hashes g.T.TreeHash.digest_of entries stands in
    c.in_ok-group_hashes.ensures.hashes entries more c.in_ok-indexes.indexes.items c.in_ok-indexes.ensures.groups all (c.deref-2.ensures.value ∙ hashes)

pub returns-clause-in_range : goal.returns-clause-in_range
returns-clause-in_range g c needed need =
    needed-within needed (readable_size (g.R.HashReader.size c.args.reader.now)) c.args.segments.now c.in_ok-indexes.indexes.items need c.in_ok-indexes.ensures.groups c.requires.parts (rw c.deref.ensures.value at c.in_ok-hashes.ensures.in_range)

pub returns-in_err-indexes-clause-faults : goal.returns-in_err-indexes-clause-faults
returns-in_err-indexes-clause-faults g c needed need =
    let p = err_from_is_err_and c.from_residual.result c.from_residual.ensures.1 in
    rw (p.1, p.2) (needed-some needed c.args.segments.now need c.requires.parts c.in_err-indexes.ensures.some, needed-small needed (2 ^ 62) c.args.segments.now need c.requires.small)

pub returns-in_err-group_hashes-clause-faults : goal.returns-in_err-group_hashes-clause-faults
returns-in_err-group_hashes-clause-faults g c needed need =
    let p = err_from_is_err_and c.from_residual-in_err-group_hashes.result c.from_residual-in_err-group_hashes.ensures.1 in
    rw (p.1, p.2) (needed-some needed c.args.segments.now need c.requires.parts c.in_err-group_hashes.ensures.some, needed-small needed (2 ^ 62) c.args.segments.now need c.requires.small)

pub returns-clause-count : goal.returns-clause-count
returns-clause-count g c = grind (arith, common_steps)
