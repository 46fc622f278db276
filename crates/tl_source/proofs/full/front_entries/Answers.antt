use Rattle.std.proofs.Common.{inl, map, take, vec_items, ap, sym, ◌∙◌, arith}
use Rattle.std.proofs.lemmas.Grind.{common_steps}
use Rattle.std.proofs.lemmas.List.{take-map}
use Rattle.tl_tile.specs.Bundle.{bundle_text}
use Rattle.tl_source.proofs.full.front_entries.Goals as goal

pub returns-in-Ok-write_bundle : goal.returns-in-Ok-write_bundle
returns-in-Ok-write_bundle c =
    let entries = c.in-Ok.entries.items in
    let width = c.args.width in
    inl (
      map vec_items entries,
      c.in-Ok.ensures.0,
      c.in-Ok.ensures.1,
      c.in-Ok-write_bundle.ensures.1 ∙ ap (λ xs. bundle_text (map vec_items (take width xs))) c.deref.ensures.value ∙ ap bundle_text (sym (take-map vec_items width entries)),
    )

pub write_bundle-requires-clause-at_most_256 : goal.write_bundle-requires-clause-at_most_256
write_bundle-requires-clause-at_most_256 c = grind (arith, common_steps)
