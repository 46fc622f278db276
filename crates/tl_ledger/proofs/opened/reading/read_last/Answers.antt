use Rattle.std.proofs.Common.{◌/◌, ◌%◌, refl, sym, subst, arith}
use Rattle.std.proofs.lemmas.Grind.{common_steps}
use Rattle.std.specs.Prelude.{Contains}
use Rattle.tl_tile.specs.declared.resource.Resource.{Resource}
use Rattle.tl_tile.specs.declared.resource.Resource.TheVariants as resource
use Rattle.tl_tile.specs.Needed.{needed_resources}
use Rattle.tl_ledger.proofs.Reopening.{partial_needed}
use Rattle.tl_ledger.proofs.opened.reading.read_last.Goals as goal

pub read_one-requires-clause-needed : goal.read_one-requires-clause-needed
read_one-requires-clause-needed g c =
    subst (λ (r : Resource). Contains (needed_resources c.args.size) r) (sym c.last_bundle.ensures)
    (partial_needed c.args.size (resource.Entries (c.args.size / 256) (c.args.size % 256)) (refl, refl, omega (arith, c.if-size-eq0.false)))

pub returns-clause-has : goal.returns-clause-has
returns-clause-has g c = grind (arith, common_steps)
