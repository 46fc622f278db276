use Rattle.std.proofs.Common.{inl, refl, sym, subst, arith}
use Rattle.std.proofs.lemmas.Grind.{common_steps}
use Rattle.tl_tile.specs.Fetching.{IsNeededFor}
use Rattle.tl_tile.specs.TileReader.{GivesFaultAfter}
use Rattle.tl_tile.specs.Verified.{HavePassed}
use Rattle.tl_tile.proofs.Orders.{adds-all}
use Rattle.tl_tile.proofs.tile_reader.TileHashReader.read_checked.Goals as goal

pub read_after-requires : goal.read_after-requires
read_after-requires g c =
    subst (HavePassed g.T.TreeHash.digest_of c.args.self.now.size c.args.self.now.root) (sym c.clear.ensures) (record { order = tt; passed = inl refl })

pub returns-in-Ok-clause-answers : goal.returns-in-Ok-clause-answers
returns-in-Ok-clause-answers g c =
    let self = c.args.self.now in
    (adds-all (g.S.TileSource.may_answer self.source) g.T.TreeHash.digest_of self.size self.root (IsNeededFor self.size c.args.indexes.now) c.clear.new.self c.read_after.new.fetched c.clear.ensures c.read_after.ensures.adds).0

pub returns-in-Ok-clause-needed : goal.returns-in-Ok-clause-needed
returns-in-Ok-clause-needed g c =
    let self = c.args.self.now in
    (adds-all (g.S.TileSource.may_answer self.source) g.T.TreeHash.digest_of self.size self.root (IsNeededFor self.size c.args.indexes.now) c.clear.new.self c.read_after.new.fetched c.clear.ensures c.read_after.ensures.adds).2

pub returns-in-Ok-clause-order : goal.returns-in-Ok-clause-order
returns-in-Ok-clause-order g c =
    let self = c.args.self.now in
    (adds-all (g.S.TileSource.may_answer self.source) g.T.TreeHash.digest_of self.size self.root (IsNeededFor self.size c.args.indexes.now) c.clear.new.self c.read_after.new.fetched c.clear.ensures c.read_after.ensures.adds).1

pub returns-in-Err-clause-answers : goal.returns-in-Err-clause-answers
returns-in-Err-clause-answers g c =
    let self = c.args.self.now in
    (adds-all (g.S.TileSource.may_answer self.source) g.T.TreeHash.digest_of self.size self.root (IsNeededFor self.size c.args.indexes.now) c.clear.new.self c.read_after.new.fetched c.clear.ensures c.read_after.ensures.adds).0

pub returns-in-Err-clause-needed : goal.returns-in-Err-clause-needed
returns-in-Err-clause-needed g c =
    let self = c.args.self.now in
    (adds-all (g.S.TileSource.may_answer self.source) g.T.TreeHash.digest_of self.size self.root (IsNeededFor self.size c.args.indexes.now) c.clear.new.self c.read_after.new.fetched c.clear.ensures c.read_after.ensures.adds).2

pub returns-in-Err-clause-order : goal.returns-in-Err-clause-order
returns-in-Err-clause-order g c =
    let self = c.args.self.now in
    (adds-all (g.S.TileSource.may_answer self.source) g.T.TreeHash.digest_of self.size self.root (IsNeededFor self.size c.args.indexes.now) c.clear.new.self c.read_after.new.fetched c.clear.ensures c.read_after.ensures.adds).1

pub returns-in-Err-clause-faults : goal.returns-in-Err-clause-faults
returns-in-Err-clause-faults g c =
    let self = c.args.self.now in
    subst (λ before. GivesFaultAfter g.T.TreeHash.digest_of (g.S.TileSource.may_lack self.source) before (record { size = self.size; root = self.root; indexes = c.args.indexes.now; fetched = c.read_after.new.fetched }) c.in-Err.fault)
    c.clear.ensures c.in-Err.ensures.faults

pub returns-in-Ok-clause-in_range : goal.returns-in-Ok-clause-in_range
returns-in-Ok-clause-in_range g c = grind (arith, common_steps)
