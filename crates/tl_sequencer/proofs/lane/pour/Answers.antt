use Rattle.std.proofs.Common.{arith, ap, length}
use Rattle.std.proofs.lemmas.Grind.{common_steps}
use Rattle.std.proofs.lemmas.List.{length-append}
use Rattle.tl_sequencer.proofs.Rings.{Pours-more, placed-more}
use Rattle.tl_sequencer.proofs.lane.pour.Goals as goal

pub loop-preserved : goal.loop-preserved
loop-preserved g c =
    let i = c.loop.invariant in
    let p = i.poured in
    let k = ap length c.pop_known.ensures.received.1 in
    let put = ap length p.put in record {
      poured = Pours-more c.loop.counter c.args.lane c.args.ring.now c.loop.ring c.pop_known.new.self c.args.entries.now.items c.loop.entries.items c.push_reserved-in-loop.new.self.items c.args.who.now.items c.loop.who.items c.push_reserved-in-loop-2.new.self.items c.pop_known.result p c.pop_known.ensures.ring c.pop_known.ensures.received.0 c.pop_known.ensures.received.1 c.push_reserved-in-loop.ensures.items c.push_reserved-in-loop-2.ensures.items c.pop_known.ensures.allowed;
      placed = placed-more _ _ _ _ _ _ i.placed c.push_reserved.ensures.items (omega (arith, c.loop.entries.ok.0, p.counted, length-append c.args.entries.now.items p.popped));
      known = omega arith;
      entries = omega arith;
      who = omega arith;
      places = omega arith;
    }

pub loop-init : goal.loop-init
loop-init g c = grind (arith, common_steps)

pub returns-clause-poured : goal.returns-clause-poured
returns-clause-poured g c = grind (arith, common_steps)
