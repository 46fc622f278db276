use Rattle.std.proofs.Common.{ap, sym, subst, ◌∙◌, map, vec_items, arith}
use Rattle.std.proofs.lemmas.Grind.{common_steps}
use Rattle.tl_tile.specs.Bundle.{bundle_text, AreShortEntries}
use Rattle.tl_command.proofs.Bundles.{short_fault}
use Rattle.tl_command.proofs.commands.build.resource_bytes.bundle_of.Goals as goal

pub only_memory-requires : goal.only_memory-requires
only_memory-requires g c =
    let same = ap (map vec_items) c.as_slice.ensures.value ∙ c.in_ok-entries.ensures.entries in
    short_fault g.row.A.Denot _ c.in-Err.fault (subst AreShortEntries (sym same) c.in_ok-entries.ensures.short) c.in-Err.ensures

pub returns-in-Ok-clause-text : goal.returns-in-Ok-clause-text
returns-in-Ok-clause-text g c =
    c.in-Ok.ensures.1 ∙ ap bundle_text (ap (map vec_items) c.as_slice.ensures.value ∙ c.in_ok-entries.ensures.entries ∙ c.bundled.ensures)

pub write_bundle-requires-clause-at_most_256 : goal.write_bundle-requires-clause-at_most_256
write_bundle-requires-clause-at_most_256 g c = grind (arith, common_steps)

pub write_bundle-requires-clause-some : goal.write_bundle-requires-clause-some
write_bundle-requires-clause-some g c = grind (arith, common_steps)
