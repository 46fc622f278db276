use Rattle.std.proofs.Common.{◌+◌, ◌/◌, arith}
use Rattle.std.proofs.lemmas.Result.{on_ok_weaker, err_from_is_err_and}
use Rattle.tl_tile.specs.Fetched.{tiles_of}
use Rattle.tl_tile.specs.Fetching.{IsOver}
use Rattle.tl_tile.proofs.Push.{there-false, full-there}
use Rattle.tl_tile.proofs.Orders.{adds-none, adds-over, adds-weaker, none-later, over-up, fault-weaker}
use Rattle.tl_tile.proofs.tile_reader.checker.Checker.+fetch_with.Goals as goal

pub returns-in_err-fetch_with-clause-adds : goal.returns-in_err-fetch_with-clause-adds
returns-in_err-fetch_with-clause-adds g t c =
    adds-weaker (g.S.TileSource.may_answer c.args.self.now.source) g.T.TreeHash.digest_of c.args.self.now.size c.args.self.now.root (IsOver (c.args.level + 1) (c.args.place / 256)) (IsOver c.args.level c.args.place) c.args.fetched.now c.fetch_with.new.fetched
    (over-up c.args.level c.args.place) c.fetch_with.ensures.adds

pub fetch_full-requires-clause-new : goal.fetch_full-requires-clause-new
fetch_full-requires-clause-new g t c =
    let missing = there-false (tiles_of c.args.fetched.now) c.args.self.now.size c.args.level c.args.place c.is_there.result c.is_there.ensures c.if-is_there.false in
    none-later _ _ _ _ _ _ c.args.fetched.now c.fetch_with.new.fetched _ (omega arith) c.fetch_with.ensures.adds missing.none

pub returns-clause-there : goal.returns-clause-there
returns-clause-there g t c =
    let missing = there-false (tiles_of c.args.fetched.now) c.args.self.now.size c.args.level c.args.place c.is_there.result c.is_there.ensures c.if-is_there.false in
    on_ok_weaker c.fetch_full.result (full-there (tiles_of c.fetch_full.new.fetched) c.args.self.now.size c.args.level c.args.place missing.full) c.fetch_full.ensures.there

pub returns-clause-adds : goal.returns-clause-adds
returns-clause-adds g t c =
    adds-over (g.S.TileSource.may_answer c.args.self.now.source) g.T.TreeHash.digest_of c.args.self.now.size c.args.self.now.root c.args.level c.args.place c.args.fetched.now c.fetch_with.new.fetched c.fetch_full.new.fetched
    c.fetch_with.ensures.adds c.fetch_full.ensures.adds

pub returns-in_err-fetch_with-clause-faults : goal.returns-in_err-fetch_with-clause-faults
returns-in_err-fetch_with-clause-faults g t c =
    let p = err_from_is_err_and c.from_residual.result c.from_residual.ensures.1 in
    rw (p.1, p.2)
    (fault-weaker g.T.TreeHash.digest_of (λ u. g.S.TileSource.may_lack c.args.self.now.source u × IsOver (c.args.level + 1) (c.args.place / 256) u) (λ u. g.S.TileSource.may_lack c.args.self.now.source u × IsOver c.args.level c.args.place u)
    c.args.self.now.size c.args.self.now.root c.fetch_with.new.fetched c.in_err-fetch_with.field-0.0 (λ u few. (few.0, over-up c.args.level c.args.place u few.1)) c.in_err-fetch_with.ensures.faults)

pub returns-then-is_there-clause-adds : goal.returns-then-is_there-clause-adds
returns-then-is_there-clause-adds g t c = adds-none (g.S.TileSource.may_answer c.args.self.now.source) g.T.TreeHash.digest_of c.args.self.now.size c.args.self.now.root (IsOver c.args.level c.args.place) c.args.fetched.now
