use Rattle.std.proofs.Common.{◌++◌, ◌∙◌, take, vec_items, arith}
use Rattle.std.proofs.lemmas.Grind.{common_steps}
use Rattle.std.proofs.KnownBytes.{Consumes-trans}
use Rattle.std.proofs.lemmas.List.{length-append, length-take-le}
use Rattle.tl_device.proofs.counted.read_whole.Goals as goal

pub returns-then-is_err : goal.returns-then-is_err
returns-then-is_err g c =
    let chunk = take c.in-Some.n c.read_some.new.buf in (
      c.in-Some.ensures.steady ∙ c.loop-buf.invariant.steady,
      (
        vec_items c.loop-buf.input ++ chunk,
        Consumes-trans _ _ _ (vec_items c.loop-buf.input) chunk c.loop-buf.invariant.consumed c.in-Some.ensures.consumed,
        omega (arith, length-append (vec_items c.loop-buf.input) chunk, length-take-le c.in-Some.n c.read_some.new.buf c.in-Some.ensures.bound, c.in-Some.n-test),
      ),
    )

pub loop-buf-preserved : goal.loop-buf-preserved
loop-buf-preserved g c = grind (arith, common_steps)

pub loop-buf-smaller : goal.loop-buf-smaller
loop-buf-smaller g c = grind (arith, common_steps)

pub returns : goal.returns
returns g c = grind (arith, common_steps)
