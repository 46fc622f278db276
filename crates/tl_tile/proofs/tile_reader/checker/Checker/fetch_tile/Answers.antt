use Rattle.std.proofs.Common.{◌≡◌, inr, subst, sym, ◌∙◌, arith}
use Rattle.std.proofs.lemmas.Grind.{common_steps}
use Rattle.tl_tile.specs.SourceFaults.{GivesReadFault}
use Rattle.tl_tile.proofs.Orders.{bad-length}
use Rattle.tl_tile.proofs.tile_reader.checker.Checker.fetch_tile.Goals as goal

pub returns-then-len-tile-clause-adds : goal.returns-then-len-tile-clause-adds
returns-then-len-tile-clause-adds g c =
    let read = c.in-Ok.ensures.text in
    inr (read.0, read.1, (c.requires.of, read.2), c.requires.next)

pub returns-then-len-tile-clause-faults : goal.returns-then-len-tile-clause-faults
returns-then-len-tile-clause-faults g c =
    let read = c.in-Ok.ensures.text in
    subst (GivesReadFault g.T.TreeHash.digest_of (λ t. g.S.TileSource.may_lack c.args.self.now.source t × (t ≡ c.args.tile)) c.args.self.now.size c.args.self.now.root c.fetch.new.self) (sym c.bad_tile.ensures)
    (bad-length g.T.TreeHash.digest_of c.args.self.now.size c.args.self.now.root c.args.fetched.now c.fetch.new.self c.args.tile read.0 c.requires.of read.1
    (λ same. c.if-len-tile.true (read.3 ∙ same)))

pub returns-clause-adds : goal.returns-clause-adds
returns-clause-adds g c =
    let read = c.in-Ok.ensures.text in
    inr (read.0, read.1, (c.requires.of, read.2), c.requires.next)

pub returns-clause-text : goal.returns-clause-text
returns-clause-text g c = grind (arith, common_steps)
