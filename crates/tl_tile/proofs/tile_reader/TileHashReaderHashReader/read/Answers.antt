use Rattle.std.proofs.Common.{◌≡◌, map}
use Rattle.tl_store.specs.Stored.{stored_hash}
use Rattle.tl_tile.specs.TileReader.{Reading, AreAuthentic}
use Rattle.tl_tile.proofs.Readers.{authentic_stands, if_ok_weaker}
use Rattle.tl_tile.proofs.tile_reader.TileHashReaderHashReader.read.Goals as goal

pub returns-clause-hashes : goal.returns-clause-hashes
returns-clause-hashes g c H entries stands =
    let read : Reading = record { size = c.args.self.now.size; root = c.args.self.now.root; indexes = c.args.indexes.now; fetched = c.read_checked.new.fetched } in
    if_ok_weaker (λ hashes. AreAuthentic g.T.TreeHash.digest_of read hashes.items) (λ hashes. hashes.items ≡ map (stored_hash H entries) c.args.indexes.now) c.read_checked.result
    (λ hashes authentic. authentic_stands g.T.TreeHash.digest_of (g.S.TileSource.may_answer c.args.self.now.source) read hashes.items c.read_checked.ensures.answers authentic H entries stands)
    c.read_checked.ensures.authentic
