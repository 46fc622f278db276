use Rattle.std.proofs.Common.{arith, refl}
use Rattle.sha2.specs.Sha256.{sha256}
use Rattle.tl_client.proofs.Apart.{false_is_not_true}
use Rattle.tl_client.proofs.Blamed.{growth_refused}
use Rattle.tl_client.proofs.Failing.{fault_on}
use Rattle.tl_client.proofs.Forks.{fork_of}
use Rattle.tl_client.proofs.LeafReads.{none_served}
use Rattle.tl_client.proofs.growth.prove_growth.Goals as goal

pub returns-then-not-check_tree-clause-refused : goal.returns-then-not-check_tree-clause-refused
returns-then-not-check_tree-clause-refused g c =
    fork_of sha256 c.args.old c.args.new c.in_ok-proof.proof.items (omega (arith, c.if-size-old_size.false)) (omega (arith, c.if-size.false))
    c.in_ok-proof.ensures.empty c.in_ok-proof.ensures.made (λ accepted. false_is_not_true ((rw (c.deref.ensures.value) at c.if-not-check_tree.ensures).1 accepted))

pub returns-clause-accepted : goal.returns-clause-accepted
returns-clause-accepted g c = (rw (c.deref.ensures.value) at c.if-not-check_tree.ensures).0 refl

pub returns-in_err-proof-clause-refused : goal.returns-in_err-proof-clause-refused
returns-in_err-proof-clause-refused g c =
    fault_on _ c.from_residual.result _ c.from_residual.ensures.1
    (growth_refused (g.S.ResourceSource.may_answer c.args.source.now) (g.S.ResourceSource.may_lack c.args.source.now) c.args.old c.args.new c.in_err-proof.field-0.0
    (omega (arith, c.if-size.false)) c.in_err-proof.ensures.refused)

pub returns-then-size-old_size-clause-served : goal.returns-then-size-old_size-clause-served
returns-then-size-old_size-clause-served g c = none_served (g.S.ResourceSource.may_answer c.args.source.now) c.args.new.size c.new.result c.new.ensures

pub returns-then-size-clause-served : goal.returns-then-size-clause-served
returns-then-size-clause-served g c = none_served (g.S.ResourceSource.may_answer c.args.source.now) c.args.new.size c.new.result c.new.ensures

pub returns-then-size-clause-refused : goal.returns-then-size-clause-refused
returns-then-size-clause-refused g c = (omega (arith, c.if-size-old_size.false), omega (arith, c.if-size.true))

pub returns-clause-verified : goal.returns-clause-verified
returns-clause-verified g c = c.in_ok-proof.ensures.verified

pub returns-clause-passed : goal.returns-clause-passed
returns-clause-passed g c = c.in_ok-proof.ensures.passed

pub returns-clause-served : goal.returns-clause-served
returns-clause-served g c = c.proof_between.ensures.served
