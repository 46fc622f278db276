use Rattle.std.proofs.Common.{◌∙◌, ap, ◌++◌, subst, sym, arith}
use Rattle.std.proofs.lemmas.Grind.{common_steps}
use Rattle.tl_tile.specs.Bundle.{bundled_entry, IsShortEntry}
use Rattle.tl_tile.proofs.BundleLemmas.{written_more, short_at}
use Rattle.tl_tile.proofs.bundle.join_entries.Goals as goal

pub push_entry-requires : goal.push_entry-requires
push_entry-requires g c = subst IsShortEntry (sym c.deref.ensures.value) (short_at c.args.entries.now c.loop-entry.entry-index c.entry-item.result c.loop-entry-test.true c.entry-item.is c.requires)

pub loop-entry-preserved : goal.loop-entry-preserved
loop-entry-preserved g c = written_more c.args.entries.now c.loop-entry.entry-index c.entry-item.result c.loop-entry.out.items c.push_entry.new.bundle.items c.loop-entry-test.true c.entry-item.is
    c.loop-entry.invariant (c.in_ok-push_entry.ensures.pushed ∙ ap (λ e. c.loop-entry.out.items ++ bundled_entry e) c.deref.ensures.value)

pub returns : goal.returns
returns g c = grind (arith, common_steps)
