use Rattle.std.proofs.Common.{map, refl, sym, ◌∙◌, true≢false, arith}
use Rattle.std.proofs.lemmas.List.{length-map}
use Rattle.tl_checkpoint.proofs.Quorums.{apart_more, apart_all, not_apart}
use Rattle.tl_checkpoint.proofs.quorum.have_distinct_names.Goals as goal

pub returns-then-is_repeated : goal.returns-then-is_repeated
returns-then-is_repeated g c =
    let long = length-map c.args.witnesses.now (λ b. (goal.Verifier-dyn g (b.vtable, b.value)).key b.value) in (
      (λ wrong. absurd (true≢false (sym wrong))),
      (λ are. absurd (not_apart (map (λ b. (goal.Verifier-dyn g (b.vtable, b.value)).key b.value) c.args.witnesses.now) c.loop-place.place (omega (arith, long)) (c.is_repeated.ensures.0 c.if-is_repeated.true) are)),
    )

pub loop-place-preserved : goal.loop-place-preserved
loop-place-preserved g c =
    let long = length-map c.args.witnesses.now (λ b. (goal.Verifier-dyn g (b.vtable, b.value)).key b.value) in
    apart_more (map (λ b. (goal.Verifier-dyn g (b.vtable, b.value)).key b.value) c.args.witnesses.now) c.loop-place.place (omega (arith, long))
    (λ is. true≢false (sym (c.is_repeated.ensures.1 is) ∙ c.if-is_repeated.false)) c.loop-place.invariant

pub returns : goal.returns
returns g c =
    let long = length-map c.args.witnesses.now (λ b. (goal.Verifier-dyn g (b.vtable, b.value)).key b.value) in (
      (λ _. apart_all (map (λ b. (goal.Verifier-dyn g (b.vtable, b.value)).key b.value) c.args.witnesses.now) c.loop-place.place (omega (arith, long)) c.loop-place.invariant),
      (λ _. refl),
    )
