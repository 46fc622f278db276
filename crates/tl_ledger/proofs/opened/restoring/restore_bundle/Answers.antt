use Rattle.std.proofs.Common.{◌∙◌, ap, map, arith}
use Rattle.std.proofs.lemmas.Grind.{common_steps}
use Rattle.std.specs.Prelude.{vec_items}
use Rattle.tl_tile.specs.Bundle.{bundle_text}
use Rattle.tl_ledger.proofs.Reopening.{checked_bundle}
use Rattle.tl_ledger.proofs.opened.restoring.restore_bundle.Goals as goal

pub returns-clause-bundle : goal.returns-clause-bundle
returns-clause-bundle g c =
    checked_bundle c.args.head.now (map vec_items c.in-Ok.checked.items) c.restore_entries.new.fetched c.in_ok-bundle.bundle.items c.in-Ok.ensures.checked
    (c.in_ok-bundle.ensures ∙ ap (λ xs. bundle_text (map vec_items xs)) c.deref.ensures.value)

pub bundle_of-bundle-requires-clause-most : goal.bundle_of-bundle-requires-clause-most
bundle_of-bundle-requires-clause-most g c = grind (arith, common_steps)

pub bundle_of-bundle-requires-clause-short : goal.bundle_of-bundle-requires-clause-short
bundle_of-bundle-requires-clause-short g c = grind (arith, common_steps)

pub bundle_of-bundle-requires-clause-some : goal.bundle_of-bundle-requires-clause-some
bundle_of-bundle-requires-clause-some g c = grind (arith, common_steps)

pub returns-clause-read : goal.returns-clause-read
returns-clause-read g c = grind (arith, common_steps)

pub returns-then-not-was_read-clause-refused : goal.returns-then-not-was_read-clause-refused
returns-then-not-was_read-clause-refused g c = grind (arith, common_steps)

pub returns-then-size-eq0-clause-bundle : goal.returns-then-size-eq0-clause-bundle
returns-then-size-eq0-clause-bundle g c = grind (arith, common_steps)
