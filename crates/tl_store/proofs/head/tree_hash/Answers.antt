use Rattle.std.proofs.Common.{◌∙◌, arith}
use Rattle.tl_store.specs.Reader.{readable_size}
use Rattle.tl_store.proofs.Covering.{aligned-all, covering-within, head_fault, root_is, root_of_none, size_within}
use Rattle.std.proofs.lemmas.Result.{err_from_is_err_and}
use Rattle.tl_store.proofs.head.tree_hash.Goals as goal

pub returns-then-size-eq0-clause-root : goal.returns-then-size-eq0-clause-root
returns-then-size-eq0-clause-root g c entries stands = root_of_none g.T.TreeHash.digest_of entries c.args.size c.empty_hash.result c.if-size-eq0.true c.empty_hash.ensures

pub returns-in_err-hashes-clause-faults : goal.returns-in_err-hashes-clause-faults
returns-in_err-hashes-clause-faults g c =
    let p = err_from_is_err_and c.from_residual-in_err-hashes.result c.from_residual-in_err-hashes.ensures.1 in
    rw (p.1, p.2)
    (head_fault (g.R.HashReader.size c.args.reader.now) (g.R.HashReader.may_fail c.args.reader.now) c.args.size c.in_ok-indexes.indexes.items c.in_err-hashes.field-0.0
    (omega (arith, c.if-size-eq0.false)) c.if-size.false c.in_ok-indexes.ensures.covering (rw c.deref.ensures.value at c.in_err-hashes.ensures.faults))

pub returns-clause-root : goal.returns-clause-root
returns-clause-root g c entries stands =
    let within = covering-within 0 c.args.size c.in_ok-indexes.indexes.items (readable_size (g.R.HashReader.size c.args.reader.now)) c.in_ok-indexes.ensures.covering (omega (arith, c.if-size-eq0.false)) (rw c.deref.ensures.value at c.in_ok-hashes.ensures.in_range) in
    let hashes = rw c.deref.ensures.value at c.in_ok-hashes.ensures.hashes g.T.TreeHash.digest_of entries stands in
    root_is g.T.TreeHash.digest_of entries c.args.size c.in_ok-indexes.indexes.items c.deref-2.result.now c.cover_hash.result c.in_ok-indexes.ensures.covering
    (size_within (g.R.HashReader.size c.args.reader.now) c.args.size entries (g.met.R.HashReader.stands_size c.args.reader.now g.T.TreeHash.digest_of entries stands) within)
    (c.deref-2.ensures.value ∙ hashes) c.cover_hash.ensures

pub returns-clause-in_range : goal.returns-clause-in_range
returns-clause-in_range g c =
    covering-within 0 c.args.size c.in_ok-indexes.indexes.items (readable_size (g.R.HashReader.size c.args.reader.now)) c.in_ok-indexes.ensures.covering (omega (arith, c.if-size-eq0.false))
    (rw c.deref.ensures.value at c.in_ok-hashes.ensures.in_range)

pub segment_indexes-requires-clause-aligned : goal.segment_indexes-requires-clause-aligned
segment_indexes-requires-clause-aligned g c = aligned-all c.args.size (omega arith)
