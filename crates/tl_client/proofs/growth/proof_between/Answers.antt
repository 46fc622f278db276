use Rattle.std.proofs.Common.{◌-◌, arith}
use Rattle.sha2.specs.Sha256.{sha256}
use Rattle.tl_proof.specs.Needs.{consistency_needs}
use Rattle.tl_proof.specs.Proofs.{consistency_proof}
use Rattle.tl_proof.specs.ProveFaults.{IsOldSize}
use Rattle.tl_client.specs.Faults.{after_prove}
use Rattle.tl_client.proofs.Apart.{made_for}
use Rattle.tl_client.proofs.Blamed.{consistency_most, kept_refused, leaf_tiles, proof_refused}
use Rattle.tl_client.proofs.Failing.{fault_on}
use Rattle.tl_client.proofs.LeafReads.{none_passed, served_all}
use Rattle.tl_client.proofs.growth.proof_between.Goals as goal

pub returns-clause-made : goal.returns-clause-made
returns-clause-made g c between = (
  c.read_leaves.new.fetched,
  c.in_ok-_leaf.ensures.verified,
  made_for sha256 c.args.size c.args.root c.read_leaves.new.fetched c.in_ok-proof.proof.items (consistency_proof sha256 c.args.old)
      c.requires.limit (rw (c.new-reader.ensures) at c.in_ok-proof.ensures.proof),
)

pub returns-in_err-proof-clause-refused : goal.returns-in_err-proof-clause-refused
returns-in_err-proof-clause-refused g c =
    fault_on _ c.from_residual-in_err-proof.result _ c.from_residual-in_err-proof.ensures.1
    (proof_refused (g.S.ResourceSource.may_answer c.args.source.now) (g.S.ResourceSource.may_lack c.args.source.now) c.args.old c.args.size c.args.root (after_prove c.in_err-proof.field-0.0)
    (record { some = omega (arith, c.if-old-eq0.false); more = omega (arith, c.if-old-size.false, c.requires.order) })
    (kept_refused (g.S.ResourceSource.may_answer c.args.source.now) (g.S.ResourceSource.may_lack c.args.source.now) (IsOldSize c.args.size c.args.old) c.args.size c.args.root (c.args.old - 1)
    (consistency_needs c.args.size c.args.old) c.read_leaves.new.fetched c.in_ok-_leaf._leaf.items c.in_err-proof.field-0.0 (c.requires.order, c.requires.limit) c.requires.limit (consistency_most c.args.size c.args.old)
    (record { served = served_all (g.S.ResourceSource.may_answer c.args.source.now) c.args.size c.args.fetched.now c.read_leaves.new.fetched c.requires.none c.read_leaves.ensures.served; verified = c.in_ok-_leaf.ensures.verified; authentic = c.in_ok-_leaf.ensures.authentic })
    (rw (c.new-reader.ensures) at c.in_err-proof.ensures.faults)))

pub read_leaves-requires-clause-passed : goal.read_leaves-requires-clause-passed
read_leaves-requires-clause-passed g c = none_passed c.args.size c.args.root c.args.fetched.now c.requires.none

pub returns-clause-served : goal.returns-clause-served
returns-clause-served g c =
    served_all (g.S.ResourceSource.may_answer c.args.source.now) c.args.size c.args.fetched.now c.read_leaves.new.fetched c.requires.none c.read_leaves.ensures.served

pub returns-in_err-_leaf-clause-served : goal.returns-in_err-_leaf-clause-served
returns-in_err-_leaf-clause-served g c =
    served_all (g.S.ResourceSource.may_answer c.args.source.now) c.args.size c.args.fetched.now c.read_leaves.new.fetched c.requires.none c.read_leaves.ensures.served

pub returns-in_err-proof-clause-served : goal.returns-in_err-proof-clause-served
returns-in_err-proof-clause-served g c =
    served_all (g.S.ResourceSource.may_answer c.args.source.now) c.args.size c.args.fetched.now c.read_leaves.new.fetched c.requires.none c.read_leaves.ensures.served

pub returns-in_err-_leaf-clause-refused : goal.returns-in_err-_leaf-clause-refused
returns-in_err-_leaf-clause-refused g c =
    fault_on _ c.from_residual.result _ c.from_residual.ensures.1
    (proof_refused (g.S.ResourceSource.may_answer c.args.source.now) (g.S.ResourceSource.may_lack c.args.source.now) c.args.old c.args.size c.args.root c.in_err-_leaf.field-0.0
    (record { some = omega (arith, c.if-old-eq0.false); more = omega (arith, c.if-old-size.false, c.requires.order) })
    (leaf_tiles (g.S.ResourceSource.may_answer c.args.source.now) (g.S.ResourceSource.may_lack c.args.source.now) c.args.size c.args.root (c.args.old - 1) c.read_leaves.new.fetched c.in_err-_leaf.field-0.0
    (served_all (g.S.ResourceSource.may_answer c.args.source.now) c.args.size c.args.fetched.now c.read_leaves.new.fetched c.requires.none c.read_leaves.ensures.served)
    c.in_err-_leaf.ensures.refused))
