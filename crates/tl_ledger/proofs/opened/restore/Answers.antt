use Rattle.std.proofs.Common.{map}
use Rattle.std.specs.Prelude.{vec_items}
use Rattle.tl_ledger.proofs.Reopening.{restored, whole_ledger}
use Rattle.tl_ledger.proofs.opened.restore.Goals as goal

pub returns-in-Err-clause-refused : goal.returns-in-Err-clause-refused
returns-in-Err-clause-refused g c = c.in-Err.ensures.refused c.found.inside.entry_tiles

pub returns-in-Err-bundle-clause-refused : goal.returns-in-Err-bundle-clause-refused
returns-in-Err-bundle-clause-refused g c = c.in-Err-bundle.ensures.refused c.restore_edge-edge.new.fetched

pub returns-clause-restores : goal.returns-clause-restores
returns-clause-restores g c =
    restored c.args.head.now c.restore_edge-edge.new.fetched c.restore_bundle-bundle.new.fetched (map vec_items c.restore_bundle-bundle.new.entries.items) c.in-Ok.edge c.in-Ok-bundle.bundle.items c.of.result c.of.ensures
    c.in-Ok.ensures.size c.in-Ok.ensures.edge c.in-Ok-bundle.ensures.bundle

pub returns-clause-honest : goal.returns-clause-honest
returns-clause-honest g c =
    whole_ledger c.args.source.now c.args.head.now.size c.restore_edge-edge.new.fetched c.in-Ok.edge c.in-Ok-bundle.bundle.items c.of.result c.of.ensures c.requires.small c.in-Ok.ensures.honest c.in-Ok.ensures.answers
    c.in-Ok-bundle.ensures.read
