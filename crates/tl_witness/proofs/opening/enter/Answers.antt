use Rattle.std.proofs.Common.{length, refl, ap, sym, subst, ◌∙◌, string_bytes, arith}
use Rattle.std.proofs.lemmas.Grind.{common_steps}
use Rattle.tl_witness.specs.ByOrigin.{Indexes, index_of}
use Rattle.tl_witness.proofs.ChainLaws.{at_err}
use Rattle.tl_witness.proofs.Moved.{moved, moved_all, shown_twice, some_left}
use Rattle.tl_witness.proofs.OpeningLaws.{entered_none, entered_push, enters, named_next, not_before}
use Rattle.tl_witness.proofs.CosignLaws.{same_key}
use Rattle.tl_witness.proofs.opening.enter.Goals as goal

pub loop-trust-init : goal.loop-trust-init
loop-trust-init g c =
    let same = c.into_iter-trust-iterator.ensures.into_iter_gives in
    let all = ap length same.0 in
    (tt, tt, rw same.0 refl, rw c.new-states.ensures.items (entered_none _), omega (arith, c.args.trusts.ok.0))

pub take_chain-chain-requires : goal.take_chain-chain-requires
take_chain-chain-requires g c =
    let same = sym (shown_twice _ (λ d. d.origin) (λ d. string_bytes d.origin) c.loop-trust.left.items (λ d. refl)) in
    let saved = shown_twice _ (λ d. d.origin) (λ d. string_bytes d.origin) c.args.chains.items (λ d. refl) in
    subst (Indexes (index_of c.args.places.now)) (saved ∙ sym c.loop-trust.invariant.3.same_origins ∙ same) c.requires.places

pub name_of-requires : goal.name_of-requires
name_of-requires g c =
    let whole = rw c.in-Some.ensures.steps.0 at c.loop-trust.invariant.2 in
    named_next _ _ _ _ whole c.requires.named

pub returns-in_err-cosigner_name-clause-memory : goal.returns-in_err-cosigner_name-clause-memory
returns-in_err-cosigner_name-clause-memory g c =
    at_err c.from_residual.result _ (some_left _ c.loop-trust.yielded c.loop-trust.trust-iterator.rest.items _ c.in-Some.trust c.args.trusts.items c.in-Some.ensures.steps.0 c.loop-trust.invariant.2)

pub returns-in_err-push-clause-memory : goal.returns-in_err-push-clause-memory
returns-in_err-push-clause-memory g c =
    at_err c.from_residual-in_err-push.result _ (some_left _ c.loop-trust.yielded c.loop-trust.trust-iterator.rest.items _ c.in-Some.trust c.args.trusts.items c.in-Some.ensures.steps.0 c.loop-trust.invariant.2)

pub loop-trust-preserved : goal.loop-trust-preserved
loop-trust-preserved g c =
    let step = ap length c.in-Some.ensures.steps.0 in
    let whole = rw c.in-Some.ensures.steps.0 at c.loop-trust.invariant.2 in
    let takes = rw c.as_str.ensures.value at c.take_chain-chain.ensures in (
      tt,
      tt,
      moved _ _ c.loop-trust.yielded c.in-Some.trust c.in-Some.trust _ c.next.new.self.rest.items _ refl c.in-Some.ensures.steps.0 c.loop-trust.invariant.2,
      rw c.in_ok-push.ensures.items (entered_push _ _ _ _ _ c.loop-trust.yielded c.loop-trust.states.items c.in-Some.trust _ c.take_chain-chain.result c.loop-trust.invariant.3
          (not_before _ _ _ _ whole c.requires.once) takes refl refl (same_key _ _ c.in_ok-cosigner_name.ensures) refl),
      omega (arith, c.in-Some.ensures.steps.1, c.loop-trust.invariant.4),
    )

pub returns-clause-kept : goal.returns-clause-kept
returns-clause-kept g c =
    let whole = moved_all _ _ c.loop-trust.yielded c.loop-trust.trust-iterator.rest.items _ (omega (arith, c.in-None.ensures.steps.0, c.loop-trust.invariant.4)) c.loop-trust.invariant.2 in
    enters _ _ _ _ _ c.loop-trust.invariant.3 whole

pub loop-trust-init-derived : goal.loop-trust-init-derived
loop-trust-init-derived g c = grind (arith, common_steps)

pub loop-trust-preserved-derived : goal.loop-trust-preserved-derived
loop-trust-preserved-derived g c = grind (arith, common_steps)

pub returns-clause-memory : goal.returns-clause-memory
returns-clause-memory g c = grind (arith, common_steps)

pub returns-in_err-cosigner_name-clause-kept : goal.returns-in_err-cosigner_name-clause-kept
returns-in_err-cosigner_name-clause-kept g c = grind (arith, common_steps)

pub returns-in_err-push-clause-kept : goal.returns-in_err-push-clause-kept
returns-in_err-push-clause-kept g c = grind (arith, common_steps)

pub same-chain : goal.same-chain
same-chain g c = grind (arith, common_steps)
