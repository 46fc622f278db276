use Rattle.std.proofs.Common.{refl, ap, map, ◌∙◌, arith}
use Rattle.std.proofs.lemmas.Grind.{common_steps}
use Rattle.std.specs.Global.{Global}
use Rattle.tl_publisher.specs.Running.{Running}
use Rattle.tl_publisher.proofs.Operations.{operating_new}
use Rattle.tl_publisher.proofs.opening.begin.Goals as goal

pub returns-clause-operating : goal.returns-clause-operating
returns-clause-operating g c =
    operating_new c.args.origin.now (map (λ b. (goal.Signer-dyn g (b.vtable, b.value)).signing_key b.value) c.args.signers.items) _
    (record {
      origin = c.in_ok-origin.ensures.ok;
      signers = refl;
      free = ap (λ ws. record { witnesses = map (λ b. (goal.Verifier-dyn g (b.vtable, b.value)).key b.value) ws; need = 0 }) c.new.ensures.items;
      unproposed = refl;
      unpublished = ap (λ (r : Running Global). r.past.log) c.readers_of.ensures.same ∙ c.in_ok-run.ensures.1;
    })
    c.requires.origin c.requires.signers

pub returns-clause-log : goal.returns-clause-log
returns-clause-log g c = grind (arith, common_steps)

pub returns-clause-readers : goal.returns-clause-readers
returns-clause-readers g c = grind (arith, common_steps)

pub returns-clause-refused : goal.returns-clause-refused
returns-clause-refused g c = grind (arith, common_steps)

pub returns-in_err-all-clause-begun : goal.returns-in_err-all-clause-begun
returns-in_err-all-clause-begun g c = grind (arith, common_steps)

pub returns-in_err-all-clause-log : goal.returns-in_err-all-clause-log
returns-in_err-all-clause-log g c = grind (arith, common_steps)

pub returns-in_err-all-clause-operating : goal.returns-in_err-all-clause-operating
returns-in_err-all-clause-operating g c = grind (arith, common_steps)

pub returns-in_err-all-clause-readers : goal.returns-in_err-all-clause-readers
returns-in_err-all-clause-readers g c = grind (arith, common_steps)

pub returns-in_err-all-clause-refused : goal.returns-in_err-all-clause-refused
returns-in_err-all-clause-refused g c = grind (arith, common_steps)

pub returns-in_err-run-clause-log : goal.returns-in_err-run-clause-log
returns-in_err-run-clause-log g c = grind (arith, common_steps)

pub returns-in_err-run-clause-operating : goal.returns-in_err-run-clause-operating
returns-in_err-run-clause-operating g c = grind (arith, common_steps)

pub returns-in_err-run-clause-readers : goal.returns-in_err-run-clause-readers
returns-in_err-run-clause-readers g c = grind (arith, common_steps)

pub returns-in_err-run-clause-refused : goal.returns-in_err-run-clause-refused
returns-in_err-run-clause-refused g c = grind (arith, common_steps)
