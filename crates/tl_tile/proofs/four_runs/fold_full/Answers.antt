use Rattle.std.proofs.Common.{ℕ, List, [], ◌∷◌, ◌++◌, ap, refl}
use Rattle.tl_tile.proofs.four_runs.fold_full.Goals as goal

pub fold_quarters-requires-clause-power : goal.fold_quarters-requires-clause-power
fold_quarters-requires-clause-power g c = (6, refl)

pub returns : goal.returns
returns g c entries run is =
    let all = ap (λ (front : List (List ℕ)). front ++ c.args.last ∷ []) c.copy_from_slice.ensures.after in
    c.fold_quarters.ensures entries run c.args.hashes.now c.args.last all is
