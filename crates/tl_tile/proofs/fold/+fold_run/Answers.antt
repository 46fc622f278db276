use Rattle.std.proofs.Common.{◌+◌, ◌*◌}
use Rattle.std.proofs.lemmas.List.{take_rest}
use Rattle.tl_tile.proofs.Runs.{run_of, run-left, run-right, run-node}
use Rattle.tl_tile.proofs.fold.+fold_run.Goals as goal

pub returns : goal.returns
returns g t c entries run is =
    let H = g.T.TreeHash.digest_of in
    let hashes = c.args.hashes.now in
    let k = c.split_point-k.result in
    let left = run-left H entries run.width run.place run.end k hashes c.args.last c.index-hashes-k.result c.split_point-k.ensures c.index-hashes-k.is is in
    let right = run-right H entries run.width run.place run.end k hashes c.args.last c.split_point-k.ensures is in
    run-node H entries run.width run.place run.end k hashes c.args.last c.fold_run-left.result c.fold_run-right.result c.node_hash.result c.split_point-k.ensures is
    (c.fold_run-left.ensures entries (run_of run.width run.place ((run.place + k) * run.width)) left)
    (rw take_rest at c.fold_run-right.ensures entries (run_of run.width (run.place + k) run.end) right) c.node_hash.ensures
