use Rattle.std.proofs.Common.{◌≡◌, ◌++◌, ◌∙◌, [], List, ℕ, length, take, refl, ap, subst, arith}
use Rattle.std.proofs.lemmas.Grind.{common_steps}
use Rattle.std.specs.Prelude.{Err}
use Rattle.std.proofs.KnownBytes.{Consumes-nil, Consumes-trans}
use Rattle.std.proofs.lemmas.List.{length-append, length-take-le}
use Rattle.tl_command.specs.Inner.Growing.{IsGrowing}
use Rattle.tl_command.specs.Inner.Measuring.{IsMeasuring}
use Rattle.tl_command.proofs.Filling.{written}
use Rattle.tl_command.proofs.GrowingLemmas.{reads_edge}
use Rattle.tl_command.proofs.growing.reading.read_measured.Goals as goal

pub loop-total-init : goal.loop-total-init
loop-total-init g c = record {
  so_far = record { input = []; count = refl; consumed = Consumes-nil _; growing = c.new-growing.ensures.grows; measuring = c.new-measuring.ensures.measures };
  steady = refl;
  size = omega (arith, c.new-growing.ensures.size);
  bytes = omega (arith, c.new-measuring.ensures.size);
  few = c.new-measuring.ensures.few;
  room = c.in_ok-block.ensures;
}

pub loop-total-preserved : goal.loop-total-preserved
loop-total-preserved g c =
    let so_far = c.loop-total.invariant.so_far in
    let read = c.in-Some.ensures in
    let piece = take c.in-Some.n c.fill.new.buf in
    let count = length-take-le c.in-Some.n c.fill.new.buf read.bound in
    let whole : length c.fill.new.buf ≡ c.loop-total.block.len = read.length ∙ c.deref_mut.ensures.len in
    let block : c.deref.result.now ≡ c.fill.new.buf = c.deref.ensures.value ∙ written c.loop-total.block.len c.fill.new.buf _ whole in
    let taken = subst (λ (t : List ℕ). IsGrowing c.take_block.new.self (so_far.input ++ take c.in-Some.n t)) block (c.in_ok-take_block.ensures.grows so_far.input so_far.growing) in
    let measured = subst (λ (t : List ℕ). IsMeasuring c.take.new.self (so_far.input ++ take c.in-Some.n t)) block (c.in_ok-take.ensures.measures so_far.input so_far.measuring) in
    record {
      so_far = record {
        input = so_far.input ++ piece;
        count = omega (arith, length-append so_far.input piece, count, so_far.count);
        consumed = Consumes-trans _ _ _ so_far.input piece so_far.consumed read.consumed;
        growing = taken;
        measuring = measured;
      };
      steady = read.steady ∙ c.loop-total.invariant.steady;
      size = omega (arith, c.in_ok-take_block.ensures.size, c.loop-total.invariant.size, count, ap (λ (t : List ℕ). length (take c.in-Some.n t)) block);
      bytes = omega (arith, c.in_ok-take.ensures.size, c.loop-total.invariant.bytes, count, ap (λ (t : List ℕ). length (take c.in-Some.n t)) block);
      few = c.in_ok-take.ensures.few;
      room = c.loop-total.invariant.room;
    }

pub returns-in-Ok : goal.returns-in-Ok
returns-in-Ok g c =
    let so_far = c.loop-total.invariant.so_far in
    let read = c.in-Some.ensures in
    let piece = take c.in-Some.n c.fill.new.buf in
    let count = length-take-le c.in-Some.n c.fill.new.buf read.bound in
    let whole : length c.fill.new.buf ≡ c.loop-total.block.len = read.length ∙ c.deref_mut.ensures.len in
    let block : c.deref.result.now ≡ c.fill.new.buf = c.deref.ensures.value ∙ written c.loop-total.block.len c.fill.new.buf _ whole in
    let taken = subst (λ (t : List ℕ). IsGrowing c.take_block.new.self (so_far.input ++ take c.in-Some.n t)) block (c.in_ok-take_block.ensures.grows so_far.input so_far.growing) in
    let measured = subst (λ (t : List ℕ). IsMeasuring c.take.new.self (so_far.input ++ take c.in-Some.n t)) block (c.in_ok-take.ensures.measures so_far.input so_far.measuring) in
    let input : List ℕ = so_far.input ++ piece in
    let outcome = c.in-Ok.ensures input taken in
    record {
      input = input;
      whole = record {
        consumed = Consumes-trans _ _ _ so_far.input piece so_far.consumed read.consumed;
        ended = read.ended (omega (arith, c.if-n-len.true, c.len.ensures, read.length, c.deref_mut.ensures.len));
        fits = omega (arith, length-append so_far.input piece, count, so_far.count, c.if-total-le-MOST_INPUT.true);
        steady = read.steady ∙ c.loop-total.invariant.steady;
      };
      short = outcome.0;
      stands = outcome.1;
      lengths = c.in_ok-lengths.ensures input measured;
    }

pub returns-in-Err : goal.returns-in-Err
returns-in-Err g c =
    let so_far = c.loop-total.invariant.so_far in
    let read = c.in-Some.ensures in
    let piece = take c.in-Some.n c.fill.new.buf in
    let count = length-take-le c.in-Some.n c.fill.new.buf read.bound in
    let whole : length c.fill.new.buf ≡ c.loop-total.block.len = read.length ∙ c.deref_mut.ensures.len in
    let block : c.deref.result.now ≡ c.fill.new.buf = c.deref.ensures.value ∙ written c.loop-total.block.len c.fill.new.buf _ whole in
    let taken = subst (λ (t : List ℕ). IsGrowing c.take_block.new.self (so_far.input ++ take c.in-Some.n t)) block (c.in_ok-take_block.ensures.grows so_far.input so_far.growing) in
    let measured = subst (λ (t : List ℕ). IsMeasuring c.take.new.self (so_far.input ++ take c.in-Some.n t)) block (c.in_ok-take.ensures.measures so_far.input so_far.measuring) in
    let input : List ℕ = so_far.input ++ piece in
    reads_edge _ input (Err c.in-Err.fault)
    (record {
      consumed = Consumes-trans _ _ _ so_far.input piece so_far.consumed read.consumed;
      ended = read.ended (omega (arith, c.if-n-len.true, c.len.ensures, read.length, c.deref_mut.ensures.len));
      fits = omega (arith, length-append so_far.input piece, count, so_far.count, c.if-total-le-MOST_INPUT.true);
      steady = read.steady ∙ c.loop-total.invariant.steady;
    })
    (c.in-Err.ensures input taken)

pub finish-requires-clause-few : goal.finish-requires-clause-few
finish-requires-clause-few g c = grind (arith, common_steps)

pub finish-requires-clause-room : goal.finish-requires-clause-room
finish-requires-clause-room g c = grind (arith, common_steps)

pub finish-requires-then-total-le-MOST_INPUT : goal.finish-requires-then-total-le-MOST_INPUT
finish-requires-then-total-le-MOST_INPUT g c = grind (arith, common_steps)

pub overflow_add-total : goal.overflow_add-total
overflow_add-total g c = grind (arith, common_steps)

pub returns-in_default : goal.returns-in_default
returns-in_default g c = grind (arith, common_steps)

pub slice_bounds-piece-end : goal.slice_bounds-piece-end
slice_bounds-piece-end g c = grind (arith, common_steps)

pub take-requires-clause-room : goal.take-requires-clause-room
take-requires-clause-room g c = grind (arith, common_steps)

pub take_block-requires-after_bounds : goal.take_block-requires-after_bounds
take_block-requires-after_bounds g c = grind (arith, common_steps)
