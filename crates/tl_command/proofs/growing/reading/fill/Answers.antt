use Rattle.std.proofs.Common.{◌-◌, length, sym, subst, rules, ◌∙◌, arith}
use Rattle.std.proofs.lemmas.Grind.{common_steps}
use Rattle.std.proofs.KnownBytes.{Consumes-trans}
use Rattle.std.specs.Io.KnownBytes.{Consumes}
use Rattle.tl_command.proofs.Filling.{filled}
use Rattle.tl_command.proofs.growing.reading.fill.Goals as goal

pub loop-at-preserved : goal.loop-at-preserved
loop-at-preserved g c =
    let so_far = c.loop-at.invariant in
    let read = c.in-Some.ensures in
    let at = c.loop-at.at in
    let buf = c.loop-at.buf in
    let part = c.read_some.new.buf in
    record {
      same = search rules;
      within = search rules;
      consumed = subst (Consumes _ _) (sym (filled at (length buf - at) c.in-Some.n buf part so_far.within read.bound))
          (Consumes-trans _ _ _ _ _ so_far.consumed read.consumed);
      steady = read.steady ∙ so_far.steady;
    }

pub returns-in-Some-eq0-clause-consumed : goal.returns-in-Some-eq0-clause-consumed
returns-in-Some-eq0-clause-consumed g c = grind (arith, common_steps)

pub returns-in-Some-eq0-clause-ended : goal.returns-in-Some-eq0-clause-ended
returns-in-Some-eq0-clause-ended g c = grind (arith, common_steps)
