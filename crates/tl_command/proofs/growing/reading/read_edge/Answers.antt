use Rattle.std.proofs.Common.{◌≡◌, ◌++◌, ◌∙◌, [], List, ℕ, length, take, refl, ap, subst, arith}
use Rattle.std.proofs.lemmas.Grind.{common_steps}
use Rattle.std.proofs.KnownBytes.{Consumes-nil, Consumes-trans}
use Rattle.std.proofs.lemmas.List.{length-append, length-take-le}
use Rattle.tl_command.specs.Inner.Growing.{IsGrowing}
use Rattle.tl_command.proofs.Filling.{written}
use Rattle.tl_command.proofs.GrowingLemmas.{reads_edge}
use Rattle.tl_command.proofs.growing.reading.read_edge.Goals as goal

pub loop-total-init : goal.loop-total-init
loop-total-init g c = record {
  so_far = record { input = []; count = refl; consumed = Consumes-nil _; growing = c.new-growing.ensures.grows };
  steady = refl;
  size = omega (arith, c.new-growing.ensures.size);
  room = c.in_ok-block.ensures;
}

pub loop-total-preserved : goal.loop-total-preserved
loop-total-preserved g c =
    let so_far = c.loop-total.invariant.so_far in
    let read = c.in-Some.ensures in
    let piece = take c.in-Some.n c.fill.new.buf in
    let count = length-take-le c.in-Some.n c.fill.new.buf read.bound in
    let whole : length c.fill.new.buf ≡ c.loop-total.block.len = read.length ∙ c.deref_mut.ensures.len in
    let block : c.deref.result.now ≡ c.fill.new.buf = c.deref.ensures.value ∙ written c.loop-total.block.len c.fill.new.buf _ whole in
    let taken = subst (λ (t : List ℕ). IsGrowing c.take_block.new.self (so_far.input ++ take c.in-Some.n t)) block (c.in_ok-take_block.ensures.grows so_far.input so_far.growing) in
    record {
      so_far = record {
        input = so_far.input ++ piece;
        count = omega (arith, length-append so_far.input piece, count, so_far.count);
        consumed = Consumes-trans _ _ _ so_far.input piece so_far.consumed read.consumed;
        growing = taken;
      };
      steady = read.steady ∙ c.loop-total.invariant.steady;
      size = omega (arith, c.in_ok-take_block.ensures.size, c.loop-total.invariant.size, count, ap (λ (t : List ℕ). length (take c.in-Some.n t)) block);
      room = c.loop-total.invariant.room;
    }

pub returns-then-total-le-MOST_INPUT : goal.returns-then-total-le-MOST_INPUT
returns-then-total-le-MOST_INPUT g c =
    let so_far = c.loop-total.invariant.so_far in
    let read = c.in-Some.ensures in
    let piece = take c.in-Some.n c.fill.new.buf in
    let input = so_far.input ++ piece in
    let count = length-take-le c.in-Some.n c.fill.new.buf read.bound in
    let whole : length c.fill.new.buf ≡ c.loop-total.block.len = read.length ∙ c.deref_mut.ensures.len in
    let block : c.deref.result.now ≡ c.fill.new.buf = c.deref.ensures.value ∙ written c.loop-total.block.len c.fill.new.buf _ whole in
    let taken = subst (λ (t : List ℕ). IsGrowing c.take_block.new.self (so_far.input ++ take c.in-Some.n t)) block (c.in_ok-take_block.ensures.grows so_far.input so_far.growing) in
    reads_edge _ input c.finish.result
    (record {
      consumed = Consumes-trans _ _ _ so_far.input piece so_far.consumed read.consumed;
      ended = read.ended (omega (arith, c.if-n-len.true, c.len.ensures, read.length, c.deref_mut.ensures.len));
      fits = omega (arith, length-append so_far.input piece, count, so_far.count, c.if-total-le-MOST_INPUT.true);
      steady = read.steady ∙ c.loop-total.invariant.steady;
    })
    (c.finish.ensures input taken)

pub finish-requires : goal.finish-requires
finish-requires g c = grind (arith, common_steps)

pub overflow_add-total : goal.overflow_add-total
overflow_add-total g c = grind (arith, common_steps)

pub returns-in_default : goal.returns-in_default
returns-in_default g c = grind (arith, common_steps)

pub slice_bounds-take_block-end : goal.slice_bounds-take_block-end
slice_bounds-take_block-end g c = grind (arith, common_steps)

pub take_block-requires-after_bounds : goal.take_block-requires-after_bounds
take_block-requires-after_bounds g c = grind (arith, common_steps)
