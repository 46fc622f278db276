use Rattle.std.proofs.Common.{◌<◌, ◌≤◌, All, Any, length, refl, ap, subst, ◌∙◌, rules, arith}
use Rattle.std.proofs.lemmas.Grind.{common_steps}
use Rattle.std.specs.Prelude.{IfErr, IfOk, OnOk}
use Rattle.std.proofs.lemmas.Result.{on_ok_weaker}
use Rattle.tl_store.specs.Reader.{readable_count, AreReadable}
use Rattle.tl_tile.proofs.Readers.{some_readable, all_stored, numbers_fault}
use Rattle.tl_tile.specs.Fetching.{IsNeededFor}
use Rattle.tl_tile.specs.SourceFaults.{GivesReadFault}
use Rattle.tl_tile.specs.TileReader.{AreAuthentic, GivesFaultAfter}
use Rattle.tl_tile.specs.Verified.{AddsTiles, AreVerified}
use Rattle.tl_tile.proofs.Orders.{adds-none, err_weaker, passed-more}
use Rattle.tl_tile.proofs.tile_reader.TileHashReader.read_after.Goals as goal

pub read_numbers-requires-clause-size : goal.read_numbers-requires-clause-size
read_numbers-requires-clause-size g c =
    let readable = subst (λ count. All (λ index. index < count) c.args.indexes.now) c.count_of.ensures c.if-not-are_below.ensures in
    let some : 0 < length c.args.indexes.now = search rules in
    (some_readable c.self.inside.checker.size c.args.indexes.now some readable).1

pub read_numbers-requires-clause-some : goal.read_numbers-requires-clause-some
read_numbers-requires-clause-some g c =
    let readable = subst (λ count. All (λ index. index < count) c.args.indexes.now) c.count_of.ensures c.if-not-are_below.ensures in
    let some : 0 < length c.args.indexes.now = search rules in
    (some_readable c.self.inside.checker.size c.args.indexes.now some readable).0

pub read_numbers-requires-clause-within : goal.read_numbers-requires-clause-within
read_numbers-requires-clause-within g c =
    let readable = subst (λ count. All (λ index. index < count) c.args.indexes.now) c.count_of.ensures c.if-not-are_below.ensures in
    let some : 0 < length c.args.indexes.now = search rules in
    all_stored c.self.inside.checker.size c.args.indexes.now (some_readable c.self.inside.checker.size c.args.indexes.now some readable).1 readable

pub returns-clause-faults : goal.returns-clause-faults
returns-clause-faults g c =
    let readable = subst (λ count. All (λ index. index < count) c.args.indexes.now) c.count_of.ensures c.if-not-are_below.ensures in
    let some : 0 < length c.args.indexes.now = search rules in
    let H = g.T.TreeHash.digest_of in
    let fetched = c.read_numbers.new.fetched in
    let checker = c.self.inside.checker in
    let lacks = g.S.TileSource.may_lack checker.source in
    subst (λ r. IfErr c.read_numbers.result (GivesFaultAfter H (g.S.TileSource.may_lack r.source) c.args.fetched.now (record { size = r.size; root = r.root; indexes = c.args.indexes.now; fetched = fetched }))) c.self.view_is
    (err_weaker (GivesReadFault H (λ t. lacks t × IsNeededFor checker.size c.args.indexes.now t) checker.size checker.root fetched)
    (GivesFaultAfter H lacks c.args.fetched.now (record { size = checker.size; root = checker.root; indexes = c.args.indexes.now; fetched = fetched })) c.read_numbers.result
    (λ fault gives. numbers_fault H lacks c.args.fetched.now (record { size = checker.size; root = checker.root; indexes = c.args.indexes.now; fetched = fetched }) fault readable some gives) c.read_numbers.ensures.faults)

pub returns-clause-passed : goal.returns-clause-passed
returns-clause-passed g c =
    let H = g.T.TreeHash.digest_of in
    let old = c.args.fetched.now in
    let new = c.read_numbers.new.fetched in
    let self = c.args.self.now in
    let answers = g.S.TileSource.may_answer in
    let adds = subst (λ r. AddsTiles (answers r.source) H r.size r.root (IsNeededFor r.size c.args.indexes.now) old new) c.self.view_is c.read_numbers.ensures.adds in
    let verified = subst (λ r. OnOk c.read_numbers.result (AreVerified H r.size r.root new)) c.self.view_is c.read_numbers.ensures.verified in
    on_ok_weaker c.read_numbers.result (passed-more (answers self.source) H self.size self.root (IsNeededFor self.size c.args.indexes.now) old new c.requires adds) verified

pub returns-clause-authentic : goal.returns-clause-authentic
returns-clause-authentic g c =
    let new = c.read_numbers.new.fetched in
    subst (λ r. IfOk c.read_numbers.result (λ hashes. AreAuthentic g.T.TreeHash.digest_of (record { size = r.size; root = r.root; indexes = c.args.indexes.now; fetched = new }) hashes.items)) c.self.view_is
    c.read_numbers.ensures.authentic

pub returns-clause-verified : goal.returns-clause-verified
returns-clause-verified g c =
    let H = g.T.TreeHash.digest_of in
    let new = c.read_numbers.new.fetched in
    let self = c.args.self.now in
    on_ok_weaker c.read_numbers.result (λ (verified : AreVerified H self.size self.root new) (_ : 0 < length c.args.indexes.now). verified)
    (subst (λ r. OnOk c.read_numbers.result (AreVerified H r.size r.root new)) c.self.view_is c.read_numbers.ensures.verified)

pub returns-clause-count : goal.returns-clause-count
returns-clause-count g c = c.read_numbers.ensures.count

pub returns-clause-in_range : goal.returns-clause-in_range
returns-clause-in_range g c =
    let H = g.T.TreeHash.digest_of in
    let checker = c.self.inside.checker in
    let readable = subst (λ count. All (λ index. index < count) c.args.indexes.now) c.count_of.ensures c.if-not-are_below.ensures in
    on_ok_weaker c.read_numbers.result (λ (_ : AreVerified H checker.size checker.root c.read_numbers.new.fetched). subst (λ r. AreReadable r.size c.args.indexes.now) c.self.view_is readable) c.read_numbers.ensures.verified

pub returns-clause-adds : goal.returns-clause-adds
returns-clause-adds g c =
    subst (λ r. AddsTiles (g.S.TileSource.may_answer r.source) g.T.TreeHash.digest_of r.size r.root (IsNeededFor r.size c.args.indexes.now) c.args.fetched.now c.read_numbers.new.fetched) c.self.view_is
    c.read_numbers.ensures.adds

pub returns-then-not-are_below-clause-adds : goal.returns-then-not-are_below-clause-adds
returns-then-not-are_below-clause-adds g c =
    let self = c.args.self.now in
    adds-none (g.S.TileSource.may_answer self.source) g.T.TreeHash.digest_of self.size self.root (IsNeededFor self.size c.args.indexes.now) c.args.fetched.now

pub returns-then-not-are_below-clause-faults : goal.returns-then-not-are_below-clause-faults
returns-then-not-are_below-clause-faults g c = (
  subst (λ count. Any (λ index. count ≤ index) c.args.indexes.now) (c.count_of.ensures ∙ ap (λ r. readable_count r.size) c.self.view_is) c.if-not-are_below.ensures,
  refl,
)

pub returns-then-is_empty-clause-adds : goal.returns-then-is_empty-clause-adds
returns-then-is_empty-clause-adds g c =
    let self = c.args.self.now in
    adds-none (g.S.TileSource.may_answer self.source) g.T.TreeHash.digest_of self.size self.root (IsNeededFor self.size c.args.indexes.now) c.args.fetched.now

pub read_numbers-requires-clause-asked : goal.read_numbers-requires-clause-asked
read_numbers-requires-clause-asked g c = grind (arith, common_steps)

pub read_numbers-requires-clause-passed : goal.read_numbers-requires-clause-passed
read_numbers-requires-clause-passed g c = grind (arith, common_steps)

pub returns-then-is_empty-clause-authentic : goal.returns-then-is_empty-clause-authentic
returns-then-is_empty-clause-authentic g c = grind (arith, common_steps)

pub returns-then-is_empty-clause-in_range : goal.returns-then-is_empty-clause-in_range
returns-then-is_empty-clause-in_range g c = grind (arith, common_steps)

pub returns-then-is_empty-clause-verified : goal.returns-then-is_empty-clause-verified
returns-then-is_empty-clause-verified g c = grind (arith, common_steps)
