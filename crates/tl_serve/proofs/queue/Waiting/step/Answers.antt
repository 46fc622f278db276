use Rattle.std.proofs.Common.{Some, refl, sym, ap, ◌∙◌}
use Rattle.std.specs.Prelude.{◌==◌}
use Rattle.std.proofs.lemmas.Bool.{eqb-true}
use Rattle.std.proofs.lemmas.List.Quantifiers.{position-Some}
use Rattle.std.proofs.lemmas.Option.{slice_get-get_or}
use Rattle.tl_serve.proofs.queue.Waiting.step.Goals as goal

pub returns-in-Some : goal.returns-in-Some
returns-in-Some c =
    let kept = c.args.self.now.kept.items in
    let found = position-Some (λ k. k.ticket == c.args.ticket) kept c.in-Some.place c.swap_remove.result (sym c.in-Some.ensures) in
    let there = slice_get-get_or kept c.in-Some.place c.swap_remove.result found.0 ∙ ap (λ k. Some k) (sym c.swap_remove.ensures.value) in (
      c.swap_remove.result,
      c.in-Some.place,
      there,
      ap (λ k. k.ticket) c.swap_remove.ensures.value ∙ eqb-true _ c.args.ticket found.1,
      refl,
      refl,
    )

pub returns-then-self : goal.returns-then-self
returns-then-self c = (c.if-self.true, refl)

pub returns : goal.returns
returns c = (c.if-self.false, c.replace.ensures.value, ap (λ b. b.lines.items) c.replace.ensures.after ∙ c.new.ensures.items, refl, refl)
