use Rattle.std.proofs.Common.{◌≡◌, List, map, length, string_bytes, refl, sym, ap, subst, arith, All}
use Rattle.std.proofs.lemmas.Grind.{common_steps}
use Rattle.std.proofs.lemmas.List.{length-map}
use Rattle.std.proofs.lemmas.List.Elements.{All-nil}
use Rattle.tl_proof.specs.Acceptance.{Step, step_of}
use Rattle.tl_witness.specs.Chain.{IsChain}
use Rattle.tl_witness.specs.Open.{SavedChain, saved_chain}
use Rattle.tl_witness.proofs.Moved.{moved, moved_all, moved_each}
use Rattle.tl_witness.proofs.ListLaws.{some_there}
use Rattle.tl_witness.proofs.OpeningLaws.{breaks_at}
use Rattle.tl_witness.proofs.opening.check_chains.Goals as goal

pub returns-in-Err-clause-err : goal.returns-in-Err-clause-err
returns-in-Err-clause-err g c =
    let done = map (λ x. saved_chain (string_bytes x.origin) x.chain) c.loop-origin.checked.items in
    let long = length-map c.loop-origin.checked.items (λ x. saved_chain (string_bytes x.origin) x.chain) in
    let place : c.len.result ≡ length done = omega (arith, c.len.ensures, c.loop-origin.checked.ok.0) in
    let whole = rw c.in-Some.ensures.steps.0 at c.loop-origin.invariant.2 in
    breaks_at g.T.TreeHash.digest_of done (saved_chain (string_bytes c.in-Some.origin) (map step_of c.in-Some.links.items)) _ _ c.len.result c.in-Err.link place whole c.loop-origin.invariant.3 c.in-Err.ensures.err

pub returns-in-Err-push-clause-err : goal.returns-in-Err-push-clause-err
returns-in-Err-push-clause-err g c =
    let whole = rw c.in-Some.ensures.steps.0 at c.loop-origin.invariant.2 in
    some_there _ _ _ _ whole

pub loop-origin-init : goal.loop-origin-init
loop-origin-init g c =
    let same = c.into_iter-origin-iterator.ensures.into_iter_gives in
    let all = ap length same.0 in
    (tt, tt, rw (c.new-checked.ensures.items, same.0) refl, rw c.new-checked.ensures.items (All-nil (λ (d : SavedChain). IsChain g.T.TreeHash.digest_of d.steps)), omega (arith, c.args.chains.ok.0))

pub loop-origin-preserved : goal.loop-origin-preserved
loop-origin-preserved g c =
    let step = ap length c.in-Some.ensures.steps.0 in
    let shown = ap (λ (s : List Step). saved_chain (string_bytes c.in-Some.origin) s) c.in-Ok.ensures.ok.0 in (
      tt,
      tt,
      rw c.in-Ok-push.ensures.items (moved _ (λ x. saved_chain (string_bytes x.origin) x.chain) c.loop-origin.checked.items _ (c.in-Some.origin, c.in-Some.links) _ c.next.new.self.rest.items _ shown c.in-Some.ensures.steps.0 c.loop-origin.invariant.2),
      rw c.in-Ok-push.ensures.items (moved_each (λ (d : SavedChain). IsChain g.T.TreeHash.digest_of d.steps) (λ x. saved_chain (string_bytes x.origin) x.chain) c.loop-origin.checked.items _ c.loop-origin.invariant.3
          (subst (IsChain g.T.TreeHash.digest_of) (sym c.in-Ok.ensures.ok.0) c.in-Ok.ensures.ok.1)),
      omega (arith, c.in-Some.ensures.steps.1, c.loop-origin.invariant.4),
    )

pub returns-clause-ok : goal.returns-clause-ok
returns-clause-ok g c =
    let whole = moved_all _ (λ x. saved_chain (string_bytes x.origin) x.chain) c.loop-origin.checked.items c.loop-origin.origin-iterator.rest.items _ (omega (arith, c.in-None.ensures.steps.0, c.loop-origin.invariant.4)) c.loop-origin.invariant.2 in
    (whole, subst (All (λ (d : SavedChain). IsChain g.T.TreeHash.digest_of d.steps)) whole c.loop-origin.invariant.3)

pub loop-origin-preserved-derived : goal.loop-origin-preserved-derived
loop-origin-preserved-derived g c = grind (arith, common_steps)

pub returns-clause-err : goal.returns-clause-err
returns-clause-err g c = grind (arith, common_steps)

pub returns-in-Err-clause-ok : goal.returns-in-Err-clause-ok
returns-in-Err-clause-ok g c = grind (arith, common_steps)

pub returns-in-Err-push-clause-ok : goal.returns-in-Err-push-clause-ok
returns-in-Err-push-clause-ok g c = grind (arith, common_steps)
