use Rattle.std.proofs.Common.{arith, refl}
use Rattle.sha2.specs.Sha256.{sha256}
use Rattle.tl_proof.specs.Needs.{inclusion_needs}
use Rattle.tl_proof.specs.ProveFaults.{IsIndex}
use Rattle.tl_client.specs.Faults.{after_prove}
use Rattle.tl_client.proofs.Apart.{false_is_not_true, other_leaf}
use Rattle.tl_client.proofs.Blamed.{entry_refused, inclusion_most, kept_refused, leaf_tiles}
use Rattle.tl_client.proofs.Failing.{fault_on}
use Rattle.tl_client.proofs.LeafReads.{none_passed, served_all}
use Rattle.tl_client.proofs.inclusion.prove_entry.Goals as goal

pub returns-then-not-check_record-clause-refused : goal.returns-then-not-check_record-clause-refused
returns-then-not-check_record-clause-refused g c =
    let inside = c.in_ok-proof.ensures.in_range.0 in (
      refl,
      inside,
      other_leaf sha256 c.args.size c.args.root c.args.index c.args.leaf c.read_leaves.new.fetched c.in_ok-proof.proof.items inside c.in_ok-_leaf.ensures.verified
          (rw (c.new-reader.ensures) at c.in_ok-proof.ensures.path) (λ accepted. false_is_not_true ((rw (c.deref.ensures.value) at c.if-not-check_record.ensures).1 accepted)),
    )

pub returns-in_err-proof-clause-refused : goal.returns-in_err-proof-clause-refused
returns-in_err-proof-clause-refused g c =
    let inside : IsIndex c.args.size c.args.index = c.if-not-is_index.ensures.0 refl in
    fault_on _ c.from_residual-in_err-proof.result _ c.from_residual-in_err-proof.ensures.1
    (entry_refused (g.S.ResourceSource.may_answer c.args.source.now) (g.S.ResourceSource.may_lack c.args.source.now)
    (record { size = c.args.size; root = c.args.root; index = c.args.index; leaf = c.args.leaf }) (after_prove c.in_err-proof.field-0.0) inside
    (kept_refused (g.S.ResourceSource.may_answer c.args.source.now) (g.S.ResourceSource.may_lack c.args.source.now) (IsIndex c.args.size c.args.index) c.args.size c.args.root c.args.index
    (inclusion_needs c.args.size c.args.index) c.read_leaves.new.fetched c.in_ok-_leaf._leaf.items c.in_err-proof.field-0.0 inside inside.1 (inclusion_most c.args.size c.args.index inside.0)
    (record { served = served_all (g.S.ResourceSource.may_answer c.args.source.now) c.args.size c.new-fetched.result c.read_leaves.new.fetched c.new-fetched.ensures c.read_leaves.ensures.served; verified = c.in_ok-_leaf.ensures.verified; authentic = c.in_ok-_leaf.ensures.authentic })
    (rw (c.new-reader.ensures) at c.in_err-proof.ensures.faults)))

pub read_leaves-requires-clause-passed : goal.read_leaves-requires-clause-passed
read_leaves-requires-clause-passed g c = none_passed c.args.size c.args.root c.new-fetched.result c.new-fetched.ensures

pub returns-clause-accepted : goal.returns-clause-accepted
returns-clause-accepted g c = (rw (c.deref.ensures.value) at c.if-not-check_record.ensures).0 refl

pub returns-in_err-_leaf-clause-refused : goal.returns-in_err-_leaf-clause-refused
returns-in_err-_leaf-clause-refused g c =
    fault_on _ c.from_residual.result _ c.from_residual.ensures.1
    (entry_refused (g.S.ResourceSource.may_answer c.args.source.now) (g.S.ResourceSource.may_lack c.args.source.now)
    (record { size = c.args.size; root = c.args.root; index = c.args.index; leaf = c.args.leaf }) c.in_err-_leaf.field-0.0 (c.if-not-is_index.ensures.0 refl)
    (leaf_tiles (g.S.ResourceSource.may_answer c.args.source.now) (g.S.ResourceSource.may_lack c.args.source.now) c.args.size c.args.root c.args.index c.read_leaves.new.fetched c.in_err-_leaf.field-0.0
    (served_all (g.S.ResourceSource.may_answer c.args.source.now) c.args.size c.new-fetched.result c.read_leaves.new.fetched c.new-fetched.ensures c.read_leaves.ensures.served)
    c.in_err-_leaf.ensures.refused))

pub returns-then-not-is_index-clause-refused : goal.returns-then-not-is_index-clause-refused
returns-then-not-is_index-clause-refused g c = λ inside. false_is_not_true (c.if-not-is_index.ensures.1 inside)

pub read_leaves-requires-clause-inside : goal.read_leaves-requires-clause-inside
read_leaves-requires-clause-inside g c = omega (arith, (c.if-not-is_index.ensures.0 refl).0)

pub read_leaves-requires-clause-limit : goal.read_leaves-requires-clause-limit
read_leaves-requires-clause-limit g c = (c.if-not-is_index.ensures.0 refl).1
