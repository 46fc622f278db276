use Rattle.std.proofs.Common.{◌≡◌, [], ◌∷◌, ◌++◌, length, arith, ap}
use Rattle.std.proofs.lemmas.Grind.{common_steps}
use Rattle.tl_sequencer.specs.Inner.Held.{taken_of, who_of}
use Rattle.tl_sequencer.proofs.Rings.{Pours-more}
use Rattle.tl_sequencer.proofs.Held.{taken_of-more, who_of-more, SameDrained-more}
use Rattle.tl_sequencer.proofs.lane.pour_noted.Goals as goal

pub loop-preserved : goal.loop-preserved
loop-preserved g c =
    let i = c.loop.invariant in
    let popped = c.pop_known-entry in
    let history = c.loop.history.items in
    let history' = c.and.result.items in
    let taken : taken_of history' ≡ taken_of history ++ popped.result ∷ [] = taken_of-more history history' popped.result c.args.lane c.and.ensures in
    let who : who_of history' ≡ who_of history ++ c.args.lane ∷ [] = who_of-more history history' popped.result c.args.lane c.and.ensures in
    let k = ap length popped.ensures.received.1 in record {
      poured = Pours-more c.loop.counter c.args.lane c.args.ring.now c.loop.ring popped.new.self (taken_of c.args.history.now.items) (taken_of history) (taken_of history') (who_of c.args.history.now.items) (who_of history) (who_of history') popped.result i.poured popped.ensures.ring popped.ensures.received.0 popped.ensures.received.1 taken who popped.ensures.allowed;
      drained = rw c.push_reserved.ensures.items (SameDrained-more (taken_of c.args.history.now.items) c.args.waiting.now.items c.loop.waiting.items (taken_of history) (taken_of history') popped.result i.drained taken);
      known = omega arith;
      room = omega arith;
    }

pub loop-init : goal.loop-init
loop-init g c = grind (arith, common_steps)

pub returns-clause-poured : goal.returns-clause-poured
returns-clause-poured g c = grind (arith, common_steps)
