use Rattle.std.proofs.Common.{◌≡◌, ◌≤◌, arith, length, take}
use Rattle.std.proofs.lemmas.List.{length-take-le}
use Rattle.tl_http.proofs.WindowLemmas.{filled, has_room, read_end, read_more, unfilled}
use Rattle.tl_http.proofs.window.Window.fill.Goals as goal

pub returns-then-n-eq0 : goal.returns-then-n-eq0
returns-then-n-eq0 g c =
    let w = c.self.inside in
    let whole : length w.block ≡ 16384 = omega (arith, c.self.told) in
    let within : w.end ≤ length w.block = omega (arith, whole, c.self.invariant) in
    let same = c.copy_within.ensures.len in
    let room = has_room w.block c.copy_within.new.self c.read_some.new.buf c.args.self.now w.start w.end 16384 c.self.invariant.0
    within same whole c.self.view_is c.requires c.read_some.auto.buf in (
      read_end _ _ _ _ c.read_some.new.buf c.in-Some.n c.if-n-eq0.true c.in-Some.ensures.consumed (c.in-Some.ensures.ended c.if-n-eq0.true room) c.in-Some.ensures.steady,
      unfilled w.block c.copy_within.new.self c.read_some.new.buf c.args.self.now w.start w.end _ c.self.invariant.0 within same c.copy_within.ensures.after c.self.view_is,
    )

pub returns-else-n-eq0 : goal.returns-else-n-eq0
returns-else-n-eq0 g c =
    let block = c.self.told in
    let bound = c.in-Some.ensures.bound in (
      take c.in-Some.n c.read_some.new.buf,
      omega (arith, length-take-le c.in-Some.n c.read_some.new.buf bound, c.if-n-eq0.false),
      read_more _ _ _ _ c.read_some.new.buf c.in-Some.n c.in-Some.ensures.consumed c.in-Some.ensures.steady,
      filled c.self.inside.block c.copy_within.new.self c.read_some.new.buf _ c.self.inside.start c.self.inside.end _ c.in-Some.n c.self.invariant.0
          (omega (arith, block, c.self.invariant)) c.copy_within.ensures.len c.copy_within.ensures.after c.self.view_is bound,
    )
