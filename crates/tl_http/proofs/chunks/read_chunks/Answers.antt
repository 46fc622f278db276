use Rattle.std.proofs.Common.{◌++◌, ◌+◌, ◌<◌, ◌≤◌, arith, inl, inr, length, refl, vec_items}
use Rattle.std.proofs.lemmas.Grind.{common_steps}
use Rattle.tl_http.specs.Response.{ChunksDecide}
use Rattle.tl_http.proofs.ChunkLemmas.{came_none, no_line, line_decides, no_data, one_more}
use Rattle.tl_http.proofs.Failing.{no_outcome}
use Rattle.tl_http.proofs.chunks.read_chunks.Goals as goal

pub loop-body-init : goal.loop-body-init
loop-body-init g c = rw c.new-window.ensures (came_none _ _ _ _ _ c.new-body.ensures.items)

pub returns-in_err-size : goal.returns-in_err-size
returns-in_err-size g c =
    no_outcome (λ rest r. ChunksDecide c.args.limit (c.args.begun.now ++ rest) r) _ c.from_residual.result _ c.from_residual.ensures.1
    (no_line c.args.limit _ _ _ _ _ _ _ c.args.begun.now c.loop-body.window (vec_items c.loop-body.body) c.loop-body.invariant c.in_err-size.ensures)

pub returns-then-size-eq0 : goal.returns-then-size-eq0
returns-then-size-eq0 g c =
    line_decides c.args.limit c.in_ok-size.size _ _ _ _ _ _ _ c.args.begun.now c.loop-body.window _ (vec_items c.loop-body.body) c.loop-body.invariant c.in_ok-size.ensures
    (λ rest. inl (refl, c.if-size-eq0.true))

pub returns-then-size-limit : goal.returns-then-size-limit
returns-then-size-limit g c =
    let past : c.args.limit < length (vec_items c.loop-body.body) + c.in_ok-size.size =
    omega (arith, c.loop-body.body.ok.0, c.len.ensures, c.if-size-limit.true) in
    line_decides c.args.limit c.in_ok-size.size _ _ _ _ _ _ _ c.args.begun.now c.loop-body.window _ (vec_items c.loop-body.body) c.loop-body.invariant c.in_ok-size.ensures
    (λ rest. inr (inl (refl, past)))

pub loop-body-preserved : goal.loop-body-preserved
loop-body-preserved g c =
    let room = c.loop-body.invariant.fits in
    let some : 0 < c.in_ok-size.size = omega (arith, c.if-size-eq0.false) in
    let fits : length (vec_items c.loop-body.body) + c.in_ok-size.size ≤ c.args.limit =
    omega (arith, c.loop-body.body.ok.0, c.len.ensures, c.if-size-limit.false, room) in
    one_more c.args.limit c.in_ok-size.size _ _ _ _ _ _ _ _ c.args.begun.now c.loop-body.window _ _ (vec_items c.loop-body.body) _ c.loop-body.invariant c.in_ok-size.ensures
    some fits c.in_ok-read_chunk.ensures

pub returns-in_err-read_chunk : goal.returns-in_err-read_chunk
returns-in_err-read_chunk g c =
    let room = c.loop-body.invariant.fits in
    let some : 0 < c.in_ok-size.size = omega (arith, c.if-size-eq0.false) in
    let fits : length (vec_items c.loop-body.body) + c.in_ok-size.size ≤ c.args.limit =
    omega (arith, c.loop-body.body.ok.0, c.len.ensures, c.if-size-limit.false, room) in
    no_outcome (λ rest r. ChunksDecide c.args.limit (c.args.begun.now ++ rest) r) _ c.from_residual-in_err-read_chunk.result _ c.from_residual-in_err-read_chunk.ensures.1
    (no_data c.args.limit c.in_ok-size.size _ _ _ _ _ _ _ _ _ c.args.begun.now c.loop-body.window _ (vec_items c.loop-body.body) c.loop-body.invariant c.in_ok-size.ensures
    some fits c.in_err-read_chunk.ensures)

pub loop-body-smaller : goal.loop-body-smaller
loop-body-smaller g c = grind (arith, common_steps)
