-- Laws of a ring that is poured into a log.
use Rattle.std.proofs.Common.{◌≡◌, ℕ, zero, suc, ◌+◌, List, [], ◌∷◌, ◌++◌, replicate, refl, sym, ◌∙◌, ap, arith}
use Rattle.std.specs.List.{range_with_len}
use Rattle.std.specs.declared.vec.Vec.{Vec}
use Rattle.std.proofs.lemmas.List.{append-nil, append_assoc, length-append, replicate-append-replicate}
use Rattle.std.proofs.lemmas.List.Elements.{All-nil, All-push}
use Rattle.rtrb.specs.declared.consumer.Consumer.{Consumer}
use Rattle.rtrb.specs.Ring.{SameConsumer, received, known_items}
use Rattle.tl_sequencer.specs.Log.{IsShort}
use Rattle.tl_sequencer.specs.Rings.{Pours}

pub range-more : (first n : ℕ) → range_with_len first (n + 1) ≡ range_with_len first n ++ (first + n) ∷ []
range-more first zero = let e : first ≡ first + 0 = omega arith in ap (λ k. k ∷ []) e
range-more first (suc n) =
    let s : suc n + 1 ≡ suc (n + 1) = omega arith in
    let e : first + 1 + n ≡ first + suc n = omega arith in
    ap (λ k. range_with_len first k) s ∙ ap (λ l. first ∷ l) (range-more (first + 1) n ∙ ap (λ k. range_with_len (first + 1) n ++ k ∷ []) e)

-- one place more is kept
pub placed-more : (first n : ℕ) (kept now next : List ℕ) (place : ℕ) → now ≡ kept ++ range_with_len first n → next ≡ now ++ place ∷ [] → place ≡ first + n → next ≡ kept ++ range_with_len first (n + 1)
placed-more first n kept now next place was put is =
    put ∙ ap (λ l. l ++ place ∷ []) was ∙ append_assoc kept (range_with_len first n) (place ∷ []) ∙ ap (λ k. kept ++ (range_with_len first n ++ k ∷ [])) is ∙ ap (λ l. kept ++ l) (sym (range-more first n))

module _ {E A P : Type 0} where
  -- nothing was popped yet
  pub Pours-none : (lane : ℕ) (c : Consumer (Vec ℕ E) A P) (entries : List (Vec ℕ E)) (who : List ℕ) → Pours 0 lane c c entries entries who who
  Pours-none lane c entries who = record {
    popped = [];
    counted = refl;
    ring = ((refl, refl, refl, refl), refl);
    gave = sym (append-nil _);
    known = refl;
    put = sym (append-nil _);
    by = sym (append-nil _);
    short = All-nil _;
  }

  -- one item more
  pub Pours-more : (count lane : ℕ) (c d e : Consumer (Vec ℕ E) A P) (entries entries' entries'' : List (Vec ℕ E)) (who who' who'' : List ℕ) (x : Vec ℕ E)
      → Pours count lane c d entries entries' who who' → SameConsumer d e → received e ≡ received d ++ x ∷ [] → known_items d ≡ x ∷ known_items e
      → entries'' ≡ entries' ++ x ∷ [] → who'' ≡ who' ++ lane ∷ [] → IsShort x.items → Pours (count + 1) lane c e entries entries'' who who''
  Pours-more count lane c d e entries entries' entries'' who who' who'' x p same gave known put by short = record {
    popped = p.popped ++ x ∷ [];
    counted = omega (arith, length-append p.popped (x ∷ []), p.counted);
    ring = ((cc, cc, cc, cc), cc);
    gave = gave ∙ ap (λ l. l ++ x ∷ []) p.gave ∙ append_assoc (received c) p.popped (x ∷ []);
    known = p.known ∙ ap (λ l. p.popped ++ l) known ∙ sym (append_assoc p.popped (x ∷ []) (known_items e));
    put = put ∙ ap (λ l. l ++ x ∷ []) p.put ∙ append_assoc entries p.popped (x ∷ []);
    by = by ∙ ap (λ l. l ++ lane ∷ []) p.by ∙ append_assoc who (replicate count lane) (lane ∷ []) ∙ ap (λ l. who ++ l) (replicate-append-replicate count 1 lane);
    short = All-push (λ v. IsShort v.items) p.popped x p.short short;
  }
