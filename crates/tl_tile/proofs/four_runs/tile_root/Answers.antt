use Rattle.std.proofs.Common.{map, refl, ◌∙◌}
use Rattle.std.proofs.lemmas.List.{length-map}
use Rattle.tl_tile.proofs.TileLeaves.{leaves_fold}
use Rattle.tl_tile.proofs.four_runs.tile_root.Goals as goal

pub fold_quarters-requires-clause-power : goal.fold_quarters-requires-clause-power
fold_quarters-requires-clause-power g c = (6, refl)

pub returns : goal.returns
returns g c =
    leaves_fold g.T.TreeHash.digest_of (map (λ entry. entry.now) c.args.entries.now) c.leaf_hashes-leaves.result c.fold_quarters.result
    (length-map c.args.entries.now (λ entry. entry.now) ∙ c.told-entries) c.leaf_hashes-leaves.ensures c.fold_quarters.ensures
