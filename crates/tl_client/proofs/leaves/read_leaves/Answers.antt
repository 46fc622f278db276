use Rattle.std.proofs.Common.{List, arith, subst, ℕ, ◌∙◌}
use Rattle.sha2.specs.Sha256.{sha256}
use Rattle.tl_tile.specs.Fetching.{IsNeededFor}
use Rattle.tl_tile.specs.TileReader.{AreAuthentic}
use Rattle.tl_client.proofs.Failing.{fault_on}
use Rattle.tl_client.proofs.LeafReads.{count_is, leaves_fault, many_numbers, served_added, served_none}
use Rattle.tl_client.proofs.leaves.read_leaves.Goals as goal

pub returns-in_err-leaves-clause-refused : goal.returns-in_err-leaves-clause-refused
returns-in_err-leaves-clause-refused g c =
    fault_on _ c.from_residual-in_err-leaves.result _ c.from_residual-in_err-leaves.ensures.1
    (leaves_fault (g.S.ResourceSource.may_lack c.args.source.now) c.args.fetched.now c.args.size c.args.root c.args.first c.args.count c.deref.result.now c.read_after.new.fetched c.in_err-leaves.field-0.0 (c.deref.ensures.value ∙ c.in_ok-numbers.ensures) c.requires.inside
    c.requires.limit (rw (c.new-reader.ensures) at c.in_err-leaves.ensures.faults))

pub returns-clause-verified : goal.returns-clause-verified
returns-clause-verified g c =
    rw (c.new-reader.ensures) at
    (c.in_ok-leaves.ensures.verified (many_numbers c.args.first c.args.count c.deref.result.now (c.deref.ensures.value ∙ c.in_ok-numbers.ensures) c.requires.some))

pub returns-clause-count : goal.returns-clause-count
returns-clause-count g c =
    c.in_ok-leaves.ensures.count ∙ count_is c.args.first c.args.count c.deref.result.now (c.deref.ensures.value ∙ c.in_ok-numbers.ensures)

pub returns-clause-passed : goal.returns-clause-passed
returns-clause-passed g c = rw (c.new-reader.ensures) at c.in_ok-leaves.ensures.passed

pub returns-clause-served : goal.returns-clause-served
returns-clause-served g c =
    served_added (g.S.ResourceSource.may_answer c.args.source.now) c.args.size c.args.root (IsNeededFor c.args.size c.deref.result.now) c.args.fetched.now c.read_after.new.fetched
    (rw (c.new-reader.ensures) at c.read_after.ensures.adds)

pub returns-in_err-leaves-clause-served : goal.returns-in_err-leaves-clause-served
returns-in_err-leaves-clause-served g c =
    served_added (g.S.ResourceSource.may_answer c.args.source.now) c.args.size c.args.root (IsNeededFor c.args.size c.deref.result.now) c.args.fetched.now c.read_after.new.fetched
    (rw (c.new-reader.ensures) at c.read_after.ensures.adds)

pub returns-in_err-numbers-clause-served : goal.returns-in_err-numbers-clause-served
returns-in_err-numbers-clause-served g c = served_none (g.S.ResourceSource.may_answer c.args.source.now) c.args.size c.args.fetched.now

pub returns-clause-authentic : goal.returns-clause-authentic
returns-clause-authentic g c =
    subst (λ (xs : List ℕ). AreAuthentic sha256 (record { size = c.args.size; root = c.args.root; indexes = xs; fetched = c.read_after.new.fetched }) c.in_ok-leaves.leaves.items)
    (c.deref.ensures.value ∙ c.in_ok-numbers.ensures) (rw (c.new-reader.ensures) at c.in_ok-leaves.ensures.authentic)

pub numbers_of-requires : goal.numbers_of-requires
numbers_of-requires g c = omega (arith, c.requires.inside, c.requires.limit)

pub read_after-requires : goal.read_after-requires
read_after-requires g c = rw (c.new-reader.ensures) c.requires.passed

pub returns-in_err-numbers-clause-refused : goal.returns-in_err-numbers-clause-refused
returns-in_err-numbers-clause-refused g c =
    fault_on _ c.from_residual.result _ c.from_residual.ensures.1
    tt
