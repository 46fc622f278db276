use Rattle.std.proofs.Common.{subst, refl, arith}
use Rattle.tl_tile.specs.Inner.Rest.{IsRest}
use Rattle.tl_tile.proofs.Levels.{rest-joined, rest-first, rest-none}
use Rattle.tl_tile.proofs.fold.fold_level.Goals as goal

pub returns-in-Some : goal.returns-in-Some
returns-in-Some g c entries level are rest =
    let H = g.T.TreeHash.digest_of in
    rest-joined H entries level c.args.hashes.now c.in-Some.last c.fold_run.result are (subst (IsRest H entries level) c.in-Some.is rest) c.fold_run.ensures

pub returns-in-empty : goal.returns-in-empty
returns-in-empty g c entries level are rest =
    let H = g.T.TreeHash.digest_of in
    rest-none H entries level c.args.hashes.now are (omega (arith, c.in-empty.len_below)) (subst (IsRest H entries level) c.in-None.is rest)

pub returns-in-len1-up : goal.returns-in-len1-up
returns-in-len1-up g c entries level are rest =
    let H = g.T.TreeHash.digest_of in
    let hashes = c.args.hashes.now in
    rest-first H entries level hashes _ c.last-item.result c.fold_run-in-len1-up.result are (omega (arith, c.in-len1-up.len_at_least)) refl c.last-item.is
    (subst (IsRest H entries level) c.in-None.is rest) c.fold_run-in-len1-up.ensures
