use Rattle.std.proofs.Common.{◌++◌, arith, drop, length, length-take, min, take}
use Rattle.std.proofs.lemmas.Grind.{common_steps}
use Rattle.tl_http.proofs.BodyLemmas.{begun_kept, begun_unkept, ended_short, grown_full, more_kept, some_more}
use Rattle.tl_http.proofs.body.read_up_to.Goals as goal

pub returns-in_default : goal.returns-in_default
returns-in_default g c =
    let reader = c.args.reader.now in
    begun_unkept (g.I.Read.remaining reader.device) reader.failed c.args.begun.now c.args.most c.min.result c.min.ensures c.in_default.ensures.refused

pub loop-alloc-init : goal.loop-alloc-init
loop-alloc-init g c =
    let reader = c.args.reader.now in
    record {
      fits = omega (arith, c.in-Ok.ensures.len, c.new-body.ensures.len, length-take c.min.result c.args.begun.now, c.min.ensures);
      grown = begun_kept (g.I.Read.remaining reader.device) reader.failed c.args.begun.now c.new-body.result.items c.append.new.body.items c.args.most c.min.result
          c.new-body.ensures.items c.min.ensures c.in-Ok.ensures.appended;
    }

pub returns-then-n-eq0 : goal.returns-then-n-eq0
returns-then-n-eq0 g c =
    let old = c.args.reader.now in
    let mid = c.loop-alloc.reader in
    let new = c.read_some.new.self in
    ended_short (g.I.Read.remaining old.device) (g.I.Read.remaining mid.device) (g.I.Read.remaining new.device) old.failed mid.failed new.failed
    c.args.begun.now c.loop-alloc.body.items c.read_some.new.buf c.args.most c.in-Some.n c.loop-alloc.invariant.grown c.if-n-eq0.true c.in-Some.ensures.consumed
    (c.in-Some.ensures.ended c.if-n-eq0.true (omega (arith, c.read_some.auto.buf, c.min-room.ensures, c.len-in-loop-alloc.ensures, c.loop-alloc-test.true, length-take c.min-room.result c.loop-alloc.block))) c.in-Some.ensures.steady (omega (arith, c.loop-alloc.body.ok.0, c.loop-alloc-test.true, c.len.ensures))

pub loop-alloc-preserved : goal.loop-alloc-preserved
loop-alloc-preserved g c =
    let old = c.args.reader.now in
    let mid = c.loop-alloc.reader in
    let new = c.read_some.new.self in
    let block = c.read_some.new.buf in
    record {
      fits = omega (arith, c.in-Ok-append.ensures.len, c.in-Some.ensures.bound, c.read_some.auto.buf, c.min-room.ensures, c.len-in-loop-alloc.ensures, c.loop-alloc-test.true, length-take c.min-room.result c.loop-alloc.block, length-take c.in-Some.n (block ++ drop c.min-room.result c.loop-alloc.block));
      grown = more_kept (g.I.Read.remaining old.device) (g.I.Read.remaining mid.device) (g.I.Read.remaining new.device) old.failed mid.failed new.failed
          (take (min (length c.args.begun.now) c.args.most) c.args.begun.now) c.loop-alloc.body.items block (drop c.min-room.result c.loop-alloc.block)
          c.append-in-loop-alloc.new.body.items c.in-Some.n
          c.loop-alloc.invariant.grown c.in-Some.ensures.bound c.in-Some.ensures.consumed c.in-Some.ensures.steady c.in-Ok-append.ensures.appended;
    }

pub returns : goal.returns
returns g c =
    let old = c.args.reader.now in
    let new = c.loop-alloc.reader in
    grown_full (g.I.Read.remaining old.device) (g.I.Read.remaining new.device) old.failed new.failed c.args.begun.now c.loop-alloc.body.items c.args.most
    c.loop-alloc.invariant.grown (omega (arith, c.loop-alloc.body.ok.0, c.loop-alloc-test.false, c.len.ensures, c.loop-alloc.invariant.fits))

pub returns-in_default-append : goal.returns-in_default-append
returns-in_default-append g c =
    let old = c.args.reader.now in
    let mid = c.loop-alloc.reader in
    let new = c.read_some.new.self in
    some_more (g.I.Read.remaining old.device) (g.I.Read.remaining mid.device) (g.I.Read.remaining new.device) old.failed mid.failed new.failed c.args.begun.now
    (take (min (length c.args.begun.now) c.args.most) c.args.begun.now) c.loop-alloc.body.items
    c.read_some.new.buf c.args.most c.in-Some.n c.loop-alloc.invariant.grown c.in-Some.ensures.bound c.in-Some.ensures.consumed c.in-Some.ensures.steady
    (omega (arith, c.if-n-eq0.false)) (omega (arith, c.loop-alloc-test.true))

pub append-requires-in-loop-alloc : goal.append-requires-in-loop-alloc
append-requires-in-loop-alloc g c = grind (arith, common_steps)

pub loop-alloc-smaller : goal.loop-alloc-smaller
loop-alloc-smaller g c = grind (arith, common_steps)

pub slice_bounds-append-end-in-loop-alloc : goal.slice_bounds-append-end-in-loop-alloc
slice_bounds-append-end-in-loop-alloc g c = grind (arith, common_steps)

pub slice_bounds-block-end-in-loop-alloc : goal.slice_bounds-block-end-in-loop-alloc
slice_bounds-block-end-in-loop-alloc g c = grind (arith, common_steps)

pub slice_bounds-read_some-end : goal.slice_bounds-read_some-end
slice_bounds-read_some-end g c = grind (arith, common_steps)
