use Rattle.std.proofs.Common.{◌≡◌, false, true, refl, sym, ◌∙◌, true≢false, arith}
use Rattle.std.proofs.lemmas.Slice.Eq.{bytes_eq-Decides}
use Rattle.tl_checkpoint.proofs.Quorums.{new_more, repeated_at, new_all}
use Rattle.tl_checkpoint.proofs.quorum.is_repeated.Goals as goal

pub returns-then-eq : goal.returns-then-eq
returns-then-eq g c =
    let same = sym c.name_of.ensures ∙ (bytes_eq-Decides c.name_of.result.now c.name_of-name.result.now).0 (sym c.eq.ensures ∙ c.if-eq.true) ∙ c.name_of-name.ensures in (
      (λ _. repeated_at (λ b. (goal.Verifier-dyn g (b.vtable, b.value)).key b.value) c.args.witnesses.now c.args.place c.loop-earlier.earlier
          c.index-witnesses-place.result c.index-witnesses-earlier.result c.requires (omega arith) c.index-witnesses-place.is c.index-witnesses-earlier.is same),
      (λ _. refl),
    )

pub loop-earlier-preserved : goal.loop-earlier-preserved
loop-earlier-preserved g c =
    new_more (λ b. (goal.Verifier-dyn g (b.vtable, b.value)).key b.value) c.args.witnesses.now c.args.place c.loop-earlier.earlier
    c.index-witnesses-place.result c.index-witnesses-earlier.result c.requires (omega arith) c.index-witnesses-place.is c.index-witnesses-earlier.is
    (λ same. let no_match : false ≡ true = sym c.if-eq.false ∙ c.eq.ensures ∙ (bytes_eq-Decides c.name_of.result.now c.name_of-name.result.now).1 (c.name_of.ensures ∙ same ∙ sym c.name_of-name.ensures) in cc)
    c.loop-earlier.invariant

pub returns : goal.returns
returns g c = (
  (λ wrong. absurd (true≢false (sym wrong))),
  (λ is. absurd (new_all (λ b. (goal.Verifier-dyn g (b.vtable, b.value)).key b.value) c.args.witnesses.now c.args.place c.loop-earlier.earlier c.index-witnesses-place.result (omega arith) c.loop-earlier.invariant is)),
)
