use Rattle.std.proofs.Common.{inl, inr}
use Rattle.tl_tile.specs.Fetching.{IsPartialOf}
use Rattle.tl_tile.specs.Verified.{AreVerified}
use Rattle.tl_tile.proofs.Push.{not_same}
use Rattle.tl_tile.proofs.Orders.{adds-first, adds-none}
use Rattle.tl_tile.proofs.tile_reader.checker.Checker.fetch_first.Goals as goal

pub returns-then-not-is_empty-clause-verified : goal.returns-then-not-is_empty-clause-verified
returns-then-not-is_empty-clause-verified g c =
    elim c.requires.passed as (λ _. AreVerified g.T.TreeHash.digest_of c.args.self.now.size c.args.self.now.root c.args.fetched.now) [
      | inl none ↦ absurd (not_same _ (c.is_empty.ensures.1 none) c.if-not-is_empty.true)
      | inr verified ↦ verified
    ]

pub returns-then-not-is_empty-clause-adds : goal.returns-then-not-is_empty-clause-adds
returns-then-not-is_empty-clause-adds g c =
    adds-none (g.S.TileSource.may_answer c.args.self.now.source) g.T.TreeHash.digest_of c.args.self.now.size c.args.self.now.root (IsPartialOf c.args.self.now.size) c.args.fetched.now

pub returns-clause-adds : goal.returns-clause-adds
returns-clause-adds g c =
    adds-first (g.S.TileSource.may_answer c.args.self.now.source) g.T.TreeHash.digest_of c.args.self.now.size c.args.self.now.root c.args.fetched.now c.fetch_edge.new.fetched
    (c.is_empty.ensures.0 c.if-not-is_empty.false) c.fetch_edge.ensures.fetched c.fetch_edge.ensures.partial
