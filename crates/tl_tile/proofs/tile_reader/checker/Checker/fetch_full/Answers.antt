use Rattle.std.proofs.Common.{◌≡◌, ℕ, List, subst, sym, arith, ◌∙◌, ap, length}
use Rattle.std.proofs.lemmas.Grind.{common_steps}
use Rattle.tl_tile.specs.declared.resource.Tile.{Tile}
use Rattle.tl_tile.specs.Fetched.{tiles_of}
use Rattle.tl_tile.specs.TileText.{full_tile}
use Rattle.tl_tile.specs.Verified.{ComesNext}
use Rattle.tl_tile.specs.SourceFaults.{GivesReadFault}
use Rattle.tl_tile.proofs.Push.{there-more, new-text, next-full, verified-full, bad-full, not-empty, not_same}
use Rattle.std.proofs.lemmas.Result.{err_from_is_err_and}
use Rattle.tl_tile.specs.Inner.TileTree.{IsTileTree}
use Rattle.tl_tile.specs.Inner.TreeKeys.{trees_in}
use Rattle.tl_tile.proofs.TreeReads.{tree-root, trees-push}
use Rattle.tl_tile.proofs.Orders.{fault-weaker}
use Rattle.tl_tile.proofs.tile_reader.checker.Checker.fetch_full.Goals as goal

pub fetch_tile-requires-clause-next : goal.fetch_tile-requires-clause-next
fetch_tile-requires-clause-next g c =
    subst (ComesNext g.T.TreeHash.digest_of c.args.self.now.size c.args.self.now.root c.args.fetched.now) (sym c.full_tile-tile.ensures)
    (next-full g.T.TreeHash.digest_of c.args.self.now.size c.args.self.now.root c.args.fetched.now c.args.level c.args.index c.requires.verified c.requires.new c.requires.above)

pub unreachable-requires : goal.unreachable-requires
unreachable-requires g c =
    let read = c.in_ok-fetch_tile.ensures.text in
    not-empty c.args.fetched.now c.fetch_tile.new.fetched (c.full_tile-tile.result, read.0) read.1 c.in_default.ensures

pub fold_tile-requires : goal.fold_tile-requires
fold_tile-requires g c =
    let read = c.in_ok-fetch_tile.ensures.text in
    let last = c.in-Some.ensures in
    let same = new-text c.args.fetched.now c.fetch_tile.new.fetched c.full_tile-tile.result last.0 read.0 c.in-Some.text.now read.1 last.1 in
    omega (arith, read.2, ap length same, ap (λ (t : Tile). t.width) c.full_tile-tile.ensures)

pub returns-clause-trees : goal.returns-clause-trees
returns-clause-trees g c =
    let read = c.in_ok-fetch_tile.ensures.text in
    let last = c.in-Some.ensures in
    let seen = new-text c.args.fetched.now c.fetch_tile.new.fetched c.full_tile-tile.result last.0 read.0 c.in-Some.text.now read.1 last.1 in
    trees-push g.T.TreeHash.digest_of c.args.fetched.now c.fetch_tile.new.fetched (trees_in c.args.trees.now.map) (trees_in c.keep.new.self.map) c.args.level c.args.index c.full_tile-tile.result read.0 c.in_ok-hashes.hashes.items
    c.requires.trees c.full_tile-tile.ensures c.requires.new read.1 (subst (λ (x : List ℕ). IsTileTree g.T.TreeHash.digest_of x c.in_ok-hashes.hashes.items) (sym seen) c.in_ok-hashes.ensures)
    c.in_ok-keep.ensures.here c.in_ok-keep.ensures.others

pub returns-then-not-same-clause-faults : goal.returns-then-not-same-clause-faults
returns-then-not-same-clause-faults g c =
    let read = c.in_ok-fetch_tile.ensures.text in
    let none = ap (tiles_of c.args.fetched.now) c.full_tile-tile.ensures ∙ c.requires.new in
    let last = c.in-Some.ensures in
    let seen = new-text c.args.fetched.now c.fetch_tile.new.fetched c.full_tile-tile.result last.0 read.0 c.in-Some.text.now read.1 last.1 in
    subst (GivesReadFault g.T.TreeHash.digest_of (λ t. g.S.TileSource.may_lack c.args.self.now.source t × (t ≡ full_tile c.args.level c.args.index)) c.args.self.now.size c.args.self.now.root c.fetch_tile.new.fetched) (sym c.bad_tile.ensures)
    (bad-full g.T.TreeHash.digest_of c.args.self.now.size c.args.self.now.root c.args.fetched.now c.fetch_tile.new.fetched c.args.level c.args.index c.full_tile-tile.result read.0 c.in-Some.text.now c.hash_with-own.result c.index-hash.result.now
    c.full_tile-tile.ensures c.requires.index none read.1 seen c.hash_with-own.ensures (tree-root g.T.TreeHash.digest_of c.in-Some.text.now c.in_ok-hashes.hashes.items c.index-hash.result.now c.in_ok-hashes.ensures c.index-hash.ensures) (λ same. not_same _ (c.same.ensures.1 same) c.if-not-same.true))

pub returns-clause-there : goal.returns-clause-there
returns-clause-there g c =
    let read = c.in_ok-fetch_tile.ensures.text in
    there-more c.args.fetched.now c.fetch_tile.new.fetched (c.full_tile-tile.result, read.0) _ read.1 c.full_tile-tile.ensures

pub returns-clause-verified : goal.returns-clause-verified
returns-clause-verified g c =
    let read = c.in_ok-fetch_tile.ensures.text in
    let none = ap (tiles_of c.args.fetched.now) c.full_tile-tile.ensures ∙ c.requires.new in
    let last = c.in-Some.ensures in
    let seen = new-text c.args.fetched.now c.fetch_tile.new.fetched c.full_tile-tile.result last.0 read.0 c.in-Some.text.now read.1 last.1 in
    verified-full g.T.TreeHash.digest_of c.args.self.now.size c.args.self.now.root c.args.fetched.now c.fetch_tile.new.fetched c.args.level c.args.index c.full_tile-tile.result read.0 c.in-Some.text.now c.hash_with-own.result c.index-hash.result.now
    c.requires.verified c.full_tile-tile.ensures none read.1 read.2 seen c.hash_with-own.ensures (tree-root g.T.TreeHash.digest_of c.in-Some.text.now c.in_ok-hashes.hashes.items c.index-hash.result.now c.in_ok-hashes.ensures c.index-hash.ensures) (c.same.ensures.0 c.if-not-same.false)

pub returns-in_err-fetch_tile-clause-faults : goal.returns-in_err-fetch_tile-clause-faults
returns-in_err-fetch_tile-clause-faults g c =
    let p = err_from_is_err_and c.from_residual.result c.from_residual.ensures.1 in
    rw (p.1, p.2)
    (fault-weaker g.T.TreeHash.digest_of (λ t. g.S.TileSource.may_lack c.args.self.now.source t × (t ≡ c.full_tile-tile.result)) (λ t. g.S.TileSource.may_lack c.args.self.now.source t × (t ≡ full_tile c.args.level c.args.index))
    c.args.self.now.size c.args.self.now.root c.fetch_tile.new.fetched c.in_err-fetch_tile.field-0.0 (λ t few. (few.0, few.1 ∙ c.full_tile-tile.ensures)) c.in_err-fetch_tile.ensures.faults)

pub returns-clause-faults : goal.returns-clause-faults
returns-clause-faults g c = grind (arith, common_steps)

pub returns-then-not-same-clause-adds : goal.returns-then-not-same-clause-adds
returns-then-not-same-clause-adds g c = grind (arith, common_steps)
