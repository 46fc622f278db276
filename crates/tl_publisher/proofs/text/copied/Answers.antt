use Rattle.std.proofs.Common.{◌≡◌, ◌<◌, ◌+◌, ◌++◌, ◌∷◌, ◌∙◌, [], ℕ, List, ap, get_or, length, sym, take, arith}
use Rattle.std.proofs.lemmas.Grind.{common_steps}
use Rattle.std.proofs.lemmas.List.{take_more}
use Rattle.tl_publisher.proofs.text.copied.Goals as goal

-- one text more
one_more : {X : Type 0} (xs : List X) (i : ℕ) (x : X) (before after : List X) → i < length xs → x ≡ get_or xs i x → before ≡ take i xs → after ≡ before ++ x ∷ [] → after ≡ take (i + 1) xs
one_more xs i x before after less at so_far pushed =
    pushed ∙ ap (λ t. t ++ x ∷ []) so_far ∙ ap (λ y. take i xs ++ y ∷ []) at ∙ sym (take_more xs i x less)

pub loop-text-preserved : goal.loop-text-preserved
loop-text-preserved g c =
    one_more c.deref-text-items.result.now c.loop-text.text-index c.text-item.result c.loop-text.all.items c.push.new.self.items c.loop-text-test.true c.text-item.is c.loop-text.invariant
    (c.in_ok-push.ensures.items ∙ ap (λ t. c.loop-text.all.items ++ t ∷ []) c.in_ok-again.ensures)

pub returns : goal.returns
returns g c = grind (arith, common_steps)
