use Rattle.std.proofs.Common.{List, string_bytes, refl, sym, subst, arith}
use Rattle.std.proofs.lemmas.List.{map-set}
use Rattle.std.proofs.lemmas.Result.{IfOk-weaker, IfErr-weaker}
use Rattle.tl_proof.specs.Acceptance.{step_of}
use Rattle.tl_witness.specs.ChainLine.{IsChainLine}
use Rattle.tl_witness.proofs.BookLaws.{malformed, of_other, at_place, found_asks, shown_within, same_shown}
use Rattle.tl_witness.proofs.PlaceLaws.{no_place, place_at, named_at}
use Rattle.tl_witness.proofs.book.Book.try_add.Goals as goal

pub returns-in-Err-Malformed-clause-decided : goal.returns-in-Err-Malformed-clause-decided
returns-in-Err-Malformed-clause-decided g c =
    malformed g.T.TreeHash.digest_of c.args.body.now c.args.time _ (rw c.in-Err-Malformed.field-0-is at c.in-Err-Malformed.ensures) (c.refusal.ensures.status, c.refusal.ensures.body, refl, refl)

pub returns-in-Err-Unknown-clause-decided : goal.returns-in-Err-Unknown-clause-decided
returns-in-Err-Unknown-clause-decided g c =
    let other = rw (c.in-Err-Unknown.field-0-is, c.as_slice.ensures.value) at c.in-Err-Unknown.ensures in
    of_other g.T.TreeHash.digest_of c.args.body.now c.args.time _ _ other
    (no_place c.args.self.now.states.items _ (λ e. string_bytes e.origin.name) _ (λ e. refl) other.nowhere)
    (c.refusal-in-Err-Unknown.ensures.status, c.refusal-in-Err-Unknown.ensures.body, refl, refl)

pub returns-in-Err-OutOfMemory-clause-unchanged : goal.returns-in-Err-OutOfMemory-clause-unchanged
returns-in-Err-OutOfMemory-clause-unchanged g c = (let asks = rw c.in-Err-OutOfMemory.field-0-is at c.in-Err-OutOfMemory.ensures in (refl, refl, asks))

pub index_mut-state-requires : goal.index_mut-state-requires
index_mut-state-requires g c =
    let is = rw c.as_slice.ensures.value at c.in-Ok.ensures in
    let within = shown_within (λ e. string_bytes e.origin.name) c.args.self.now.states.items c.in-Ok.found.place _ is.there in
    omega (arith, c.args.self.now.states.ok.0)

pub answer-requires : goal.answer-requires
answer-requires g c =
    let is = rw c.as_slice.ensures.value at c.in-Ok.ensures in
    let named = named_at c.args.self.now.states.items (λ e. string_bytes e.origin.name) c.in-Ok.found.place _ c.index_mut-state.result.now is.there c.index_mut-state.ensures.value in
    subst (λ (o : List _). IsChainLine (record { origin = o; step = step_of c.in-Ok.found.offer.link })) (sym named) is.line

pub returns-clause-decided : goal.returns-clause-decided
returns-clause-decided g c =
    let is = rw c.as_slice.ensures.value at c.in-Ok.ensures in
    let place = place_at c.args.self.now.states.items _ (λ e. string_bytes e.origin.name) _ _ c.index_mut-state.result.now (λ e. refl) is.there c.index_mut-state.ensures.value in
    IfOk-weaker c.answer.result _ _ (λ reply decided. at_place g.T.TreeHash.digest_of c.args.body.now c.args.time _ _ c.in-Ok.found is _ _ place (map-set _ c.args.self.now.states.items c.in-Ok.found.place _) decided) c.answer.ensures.ok

pub returns-clause-unchanged : goal.returns-clause-unchanged
returns-clause-unchanged g c =
    let is = rw c.as_slice.ensures.value at c.in-Ok.ensures in
    IfErr-weaker c.answer.result _ _ (λ fault same. (
      same.0,
      same_shown _ (λ chain. record { origin = c.index_mut-state.result.now.origin; chain = chain }) c.args.self.now.states.items c.in-Ok.found.place _ _ c.index_mut-state.ensures.value same.1,
      found_asks c.args.body.now _ c.in-Ok.found is,
    )) c.answer.ensures.err
