use Rattle.std.proofs.Common.{◌≡◌, ◌≤◌, ◌++◌, ◌-◌, ◌/◌}
use Rattle.tl_tile.specs.declared.resource.Resource.TheVariants as resource
use Rattle.tl_tile.proofs.NeededLemmas.{full_pieces}
use Rattle.tl_tile.proofs.listing.push_bundles.Given as goal

abbrev pub invariant-loop-index : goal.invariant-loop-index
invariant-loop-index g l = record {
  low : l.from / 256 ≤ l.index;
  so_far : l.out.items ≡ l.fn.out.items ++ full_pieces resource.Entries (l.from / 256) (l.index - l.from / 256);
}
