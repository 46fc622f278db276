-- The keys of kept trees.
use Rattle.std.proofs.Common.{◌≡◌, ℕ, true, false, inl, inr, refl, sym, ap}
use Rattle.std.specs.declared.cmp.Ordering.{Ordering}
use Rattle.std.specs.declared.cmp.Ordering.TheVariants.{Less, Equal, Greater}
use Rattle.std.specs.Ordering.{nat_cmp, is_eq}
use Rattle.std.proofs.lemmas.Bool.{cases_Bool}
use Rattle.std.proofs.lemmas.Map.Lookups.{exact_pairs, exact_unsigned}
use Rattle.tl_tile.specs.Inner.TreeKeys.{key_cmp}

equal-from : (o : Ordering) → is_eq o ≡ true → o ≡ Equal
equal-from Less is = absurd (cc)
equal-from Equal is = refl
equal-from Greater is = absurd (cc)

-- two keys are apart if their levels or their indexes are
pub keys-apart : (level index l i : ℕ) → (l ≡ level → i ≡ index → ⊥) → is_eq (key_cmp (level, index) (l, i)) ≡ false
keys-apart level index l i apart =
    elim (cases_Bool (is_eq (key_cmp (level, index) (l, i)))) as (λ _. is_eq (key_cmp (level, index) (l, i)) ≡ false) [
      | inr differ ↦ differ
      | inl same ↦
          let pair = exact_pairs nat_cmp nat_cmp exact_unsigned exact_unsigned (level, index) (l, i) (equal-from (key_cmp (level, index) (l, i)) same) in
          absurd (apart (sym (ap (λ (k : ℕ × ℕ). k.0) pair)) (sym (ap (λ (k : ℕ × ℕ). k.1) pair)))
    ]
