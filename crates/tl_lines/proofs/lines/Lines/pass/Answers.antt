use Rattle.std.proofs.Common.{◌≡◌, ◌+◌, ◌-◌, ◌≤◌, ap, length, take, drop, arith}
use Rattle.std.proofs.lemmas.Grind.{common_steps}
use Rattle.tl_lines.specs.Lines.{Uncut}
use Rattle.tl_lines.proofs.CuttingLemmas.{made, waiting_after, waiting_length}
use Rattle.tl_lines.proofs.lines.Lines.pass.Goals as goal

pub returns : goal.returns
returns g c =
    let s = c.self.inside in
    let here = waiting_length s.start s.end s.block.items c.self.invariant.from c.self.invariant.within in
    let shown : take (s.end - s.start) (drop s.start s.block.items) ≡ c.args.self.now.waiting = ap (λ (u : Uncut). u.waiting) c.self.view_is in
    let within : s.start + c.args.count ≤ s.end = omega (arith, c.requires, ap length shown, here, c.self.invariant.from) in
    rw (← c.self.view_is) (ap (λ w. made s.number s.entries s.line.items w s.skips) (waiting_after s.start s.end c.args.count s.block.items within))

pub invariant_of-self : goal.invariant_of-self
invariant_of-self g c = grind (arith, common_steps)

pub overflow_add-self : goal.overflow_add-self
overflow_add-self g c = grind (arith, common_steps)
