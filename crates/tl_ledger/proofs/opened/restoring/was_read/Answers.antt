use Rattle.std.proofs.Common.{◌/◌, ◌%◌, refl, sym, subst}
use Rattle.std.specs.Prelude.{Contains}
use Rattle.tl_tile.specs.declared.resource.Resource.{Resource}
use Rattle.tl_tile.specs.declared.resource.Resource.TheVariants as resource
use Rattle.tl_ledger.proofs.opened.restoring.was_read.Goals as goal

pub unreachable-requires : goal.unreachable-requires
unreachable-requires g c =
    let there = c.requires.all (resource.Entries (c.args.size / 256) (c.args.size % 256)) (refl, refl, c.requires.part) in
    c.in-None.ensures there.0 (subst (λ (r : Resource). Contains c.args.source.now (r, there.0)) (sym c.last_bundle.ensures) there.1)
