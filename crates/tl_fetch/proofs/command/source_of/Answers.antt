use Rattle.std.proofs.Common.{codes, refl, arith}
use Rattle.std.proofs.lemmas.Grind.{common_steps}
use Rattle.std.proofs.lemmas.Bool.{both_ways}
use Rattle.std.proofs.lemmas.Str.Pattern.{contains_text}
use Rattle.tl_fetch.proofs.command.source_of.Goals as goal

pub returns-then-not-contains-clause-found : goal.returns-then-not-contains-clause-found
returns-then-not-contains-clause-found g c =
    let tells = contains_text c.contains.result (codes "://") c.args.from.now c.contains.ensures.cases in (
      c.new.ensures,
      λ has. both_ways c.contains.result c.if-not-contains.true (tells.1 has),
    )

pub returns-in_default-clause-refused : goal.returns-in_default-clause-refused
returns-in_default-clause-refused g c =
    let tells = contains_text c.contains.result (codes "://") c.args.from.now c.contains.ensures.cases in (
      refl,
      tells.0 c.if-not-contains.false,
      c.in_default.ensures,
    )

pub returns-clause-found : goal.returns-clause-found
returns-clause-found g c = grind (arith, common_steps)
