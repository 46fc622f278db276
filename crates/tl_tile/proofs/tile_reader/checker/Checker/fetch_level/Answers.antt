use Rattle.std.proofs.Common.{◌+◌, inl, arith}
use Rattle.std.proofs.lemmas.Result.{on_ok_weaker}
use Rattle.tl_tile.proofs.Orders.{next-partial, edge-prefix, fetched-only}
use Rattle.tl_tile.proofs.EdgeFetch.{edge-skip, edge-push, edge-new, edge-first}
use Rattle.tl_tile.proofs.tile_reader.checker.Checker.fetch_level.Goals as goal

pub returns-then-tile-eq0-clause-edge : goal.returns-then-tile-eq0-clause-edge
returns-then-tile-eq0-clause-edge g c = edge-skip c.args.self.now.size c.args.level c.args.fetched.now c.partial_tile-tile.result c.requires.level c.partial_tile-tile.ensures c.if-tile-eq0.true c.requires.edge

pub returns-then-tile-eq0-clause-partial : goal.returns-then-tile-eq0-clause-partial
returns-then-tile-eq0-clause-partial g c = edge-prefix c.args.self.now.size (c.args.level + 1) c.args.fetched.now (omega (arith, c.requires.level)) c.requires.edge.tiles

pub fetch_tile-requires-clause-next : goal.fetch_tile-requires-clause-next
fetch_tile-requires-clause-next g c = record {
  new = edge-new c.args.self.now.size c.args.level c.args.fetched.now c.partial_tile-tile.result c.partial_tile-tile.ensures c.requires.edge;
  next = inl (next-partial c.args.self.now.size c.args.level c.args.fetched.now c.partial_tile-tile.result c.requires.level c.requires.edge.tiles c.partial_tile-tile.ensures (omega (arith, c.if-tile-eq0.false)));
}

pub returns-clause-edge : goal.returns-clause-edge
returns-clause-edge g c =
    on_ok_weaker c.fetch_tile.result
    (λ read. edge-push c.args.self.now.size c.args.level c.args.fetched.now c.fetch_tile.new.fetched c.partial_tile-tile.result read.0 c.requires.level c.partial_tile-tile.ensures (omega (arith, c.if-tile-eq0.false)) read.2 read.1 c.requires.edge)
    c.fetch_tile.ensures.text

pub returns-clause-partial : goal.returns-clause-partial
returns-clause-partial g c =
    edge-first (g.S.TileSource.may_answer c.args.self.now.source) g.T.TreeHash.digest_of c.args.self.now.root c.args.self.now.size c.args.level c.args.fetched.now c.fetch_tile.new.fetched c.partial_tile-tile.result c.requires.level c.partial_tile-tile.ensures (omega (arith, c.if-tile-eq0.false)) c.requires.edge c.fetch_tile.ensures.adds

pub returns-clause-fetched : goal.returns-clause-fetched
returns-clause-fetched g c =
    fetched-only (g.S.TileSource.may_answer c.args.self.now.source) g.T.TreeHash.digest_of c.args.self.now.size c.args.self.now.root c.args.fetched.now c.fetch_tile.new.fetched c.partial_tile-tile.result c.requires.fetched c.fetch_tile.ensures.adds
