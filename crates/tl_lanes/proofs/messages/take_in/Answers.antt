use Rattle.std.proofs.Common.{rules, ◌≡◌, ℕ, inl, inr, ap, ◌∙◌, [], List, slice_index, arith}
use Rattle.std.proofs.lemmas.Bool.{cases_lt}
use Rattle.std.proofs.lemmas.List.{get_or-set_same, get_or-set_other}
use Rattle.tl_lanes.proofs.messages.take_in.Goals as goal

pub gathered-preserved : goal.gathered-preserved
gathered-preserved c = (
  search rules,
  λ k lt j four. elim (cases_lt k c.gathered.k) [
    | inl a ↦ ap (λ (v : List ℕ). slice_index v j) (get_or-set_other c.gathered.words c.gathered.k k c.gather.result [] (omega arith)) ∙ c.gathered.invariant.1 k a j four
    | inr b ↦
        let e : c.gathered.k ≡ k = omega arith in
        rw (← e) (ap (λ (v : List ℕ). slice_index v j) (get_or-set_same c.gathered.words c.gathered.k c.gather.result [] (omega arith)) ∙ c.gather.ensures j four)
  ],
)

pub returns : goal.returns
returns c = λ j four. c.compress4.ensures j four _ (λ k lt. c.gathered.invariant.1 k (omega arith) j four)
