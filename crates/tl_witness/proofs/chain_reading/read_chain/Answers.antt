use Rattle.tl_proof.specs.Acceptance.{step_of}
use Rattle.tl_witness.specs.ReadChain.{chains_shown}
use Rattle.tl_witness.specs.ByOrigin.{index_of}
use Rattle.tl_witness.proofs.ByOriginLaws.{indexes_none}
use Rattle.tl_witness.proofs.LineText.{no_text_line, no_such_words}
use Rattle.tl_witness.proofs.SavedLines.{read_none, read_more, malformed, begins, reads_refused, all_read, less_left}
use Rattle.tl_witness.proofs.chain_reading.read_chain.Goals as goal

pub loop-left-init : goal.loop-left-init
loop-left-init g c = rw c.new-chains.ensures.items (read_none c.args.bytes.now, indexes_none (index_of c.new-index.result) c.new-index.ensures)

pub returns-in_default : goal.returns-in_default
returns-in_default g c =
    malformed c.args.bytes.now (chains_shown c.loop-left.chains.items) c.loop-left.line c.loop-left.left.now c.loop-left.invariant.0 c.loop-left-test.ensures
    (no_text_line c.loop-left.left.now c.in_default.ensures)

pub returns-in_default-cut_fields : goal.returns-in_default-cut_fields
returns-in_default-cut_fields g c =
    malformed c.args.bytes.now (chains_shown c.loop-left.chains.items) c.loop-left.line c.loop-left.left.now c.loop-left.invariant.0 c.loop-left-test.ensures
    (no_such_words c.loop-left.left.now c.in-Some.words.now c.in-Some.rest.now c.in-Some.ensures.0 c.in-Some.ensures.1 (rw c.in_default-cut_fields.is at c.cut_fields.ensures))

pub returns-in_err-link : goal.returns-in_err-link
returns-in_err-link g c =
    let shows = c.in-Some-cut_fields.ensures in
    reads_refused c.args.bytes.now c.from_residual.result c.from_residual.ensures.1
    (begins c.args.bytes.now (chains_shown c.loop-left.chains.items) c.loop-left.line c.loop-left.left.now c.in-Some.words.now c.in-Some.rest.now _ _ c.loop-left.invariant.0 c.in-Some.ensures.1 shows.line)

pub put_link-requires : goal.put_link-requires
put_link-requires g c = c.loop-left.invariant.1

pub returns-in_err-put_link : goal.returns-in_err-put_link
returns-in_err-put_link g c =
    let shows = c.in-Some-cut_fields.ensures in
    reads_refused c.args.bytes.now c.from_residual-in_err-put_link.result c.from_residual-in_err-put_link.ensures.1
    (begins c.args.bytes.now (chains_shown c.loop-left.chains.items) c.loop-left.line c.loop-left.left.now c.in-Some.words.now c.in-Some.rest.now _ _ c.loop-left.invariant.0 c.in-Some.ensures.1 shows.line)

pub loop-left-preserved : goal.loop-left-preserved
loop-left-preserved g c =
    let is = c.in_ok-link.ensures c.in-Some.words.now c.in-Some-cut_fields.ensures in
    let read = read_more c.args.bytes.now (chains_shown c.loop-left.chains.items) (chains_shown c.put_link.new.chains.items) c.loop-left.line c.loop-left.left.now
    c.in-Some.words.now c.in-Some.rest.now (record { origin = c.in-Some-cut_fields.fields.origin.now; step = step_of c.in_ok-link.link }) c.loop-left.invariant.0
    c.in-Some.ensures.1 is.spelled is.lawful c.in_ok-put_link.ensures.put in
    (read, c.in_ok-put_link.ensures.indexed)

pub loop-left-smaller : goal.loop-left-smaller
loop-left-smaller g c = less_left c.loop-left.left.now c.in-Some.words.now c.in-Some.rest.now c.in-Some.ensures.1

pub returns : goal.returns
returns g c =
    all_read c.args.bytes.now (chains_shown c.loop-left.chains.items) c.loop-left.line c.loop-left.left.now c.loop-left.invariant.0 c.loop-left-test.ensures
