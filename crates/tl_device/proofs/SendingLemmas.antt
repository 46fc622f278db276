-- Writes of one text after another.
use Rattle.std.proofs.Common.{◌≡◌, ℕ, ◌+◌, ◌≤◌, ◌<◌, List, [], ◌∷◌, ◌++◌, Option, length, take, drop, zero, suc, slice_index_or, append_assoc, append-nil, length-append, ap, subst, sym, ◌∙◌, arith, refl}
use Rattle.std.specs.Prelude.{Bool}
use Rattle.std.specs.List.{flat_map}
use Rattle.std.specs.Io.KnownBytes.{Appends}
use Rattle.std.proofs.lemmas.List.{take-append-le, take_all}
use Rattle.std.proofs.Math.Seq.{take-append-add}
use Rattle.std.proofs.KnownBytes.{Appends-trans}
use Rattle.tl_device.specs.Device.{Passage, WroteWhole, WrotePart}
use Rattle.tl_device.specs.Inner.Sending.{PutSome}
use Rattle.tl_device.specs.Pieces.{pieces_text}

-- a device before and after
abbrev pub over : Option (List ℕ) → Option (List ℕ) → Bool → Bool → Passage
over a b f g = record { old = a; new = b; had_failed = f; has_failed = g }

-- some of the first bytes of a text are some of the first bytes of a longer one
pub part_more : (p : Passage) (t u : List ℕ) → WrotePart p t → WrotePart p (t ++ u)
part_more p t u part =
    let short = part.within in
    let same : take part.count t ≡ take part.count (t ++ u) = sym (take-append-le part.count t u short) in
    record {
      count = part.count;
      within = omega (arith, length-append t u);
      appended = subst (λ (l : List ℕ). Appends p.old p.new l) same part.appended;
      failed = part.failed;
    }

-- one text was written, and then some of another
pub part_after : (a b c : Option (List ℕ)) (f g h : Bool) (t u : List ℕ)
    → Appends a b t → WrotePart (over b c g h) u → WrotePart (over a c f h) (t ++ u)
part_after a b c f g h t u whole part =
    let short = part.within in
    let same : t ++ take part.count u ≡ take (length t + part.count) (t ++ u) = sym (take-append-add t u part.count) in
    record {
      count = length t + part.count;
      within = omega (arith, length-append t u);
      appended = subst (λ (l : List ℕ). Appends a c l) same (Appends-trans a b c t (take part.count u) whole part.appended);
      failed = part.failed;
    }

-- all pieces: those before a place, the one there, and those after it
pub pieces_at : {X : Type 0} (f : X → List ℕ) (xs : List X) (i : ℕ) (d : X) → i < length xs
    → pieces_text f xs ≡ (pieces_text f (take i xs) ++ f (slice_index_or xs i d)) ++ pieces_text f (drop (suc i) xs)
pieces_at f [] i d within = absurd (omega arith)
pieces_at f (y ∷ xs) zero d within = refl
pieces_at f (y ∷ xs) (suc i) d within =
    let rest = pieces_at f xs i d (omega arith) in
    ap (λ l. f y ++ l) rest
    ∙ (sym (append_assoc (f y) (flat_map f (take i xs) ++ f (slice_index_or xs i d)) (flat_map f (drop (suc i) xs)))
    ∙ ap (λ l. l ++ flat_map f (drop (suc i) xs)) (sym (append_assoc (f y) (flat_map f (take i xs)) (f (slice_index_or xs i d)))))

-- some of the pieces were written or kept, and then some of the next
pub part_of_pieces : {X : Type 0} (text : X → List ℕ) (xs : List X) (i : ℕ) (d : X) (a b c : Option (List ℕ)) (f g h : Bool) (kept : List ℕ)
    → i < length xs → PutSome (over a b f g) [] kept (pieces_text text (take i xs))
    → WrotePart (over b c g h) (kept ++ text (slice_index_or xs i d))
    → WrotePart (over a c f h) (pieces_text text xs)
part_of_pieces text xs i d a b c f g h kept within before part =
    let here = text (slice_index_or xs i d) in
    let rest = pieces_text text (drop (suc i) xs) in
    let first = part_after a b c f g h before.written (kept ++ here) before.appended part in
    let joined : before.written ++ (kept ++ here) ≡ pieces_text text (take i xs) ++ here =
    sym (append_assoc before.written kept here) ∙ ap (λ l. l ++ here) before.joined in
    let some = subst (λ (l : List ℕ). WrotePart (over a c f h) l) joined first in
    let more = part_more (over a c f h) (pieces_text text (take i xs) ++ here) rest some in
    subst (λ (l : List ℕ). WrotePart (over a c f h) l) (sym (pieces_at text xs i d within)) more

-- what was kept was written, and then the bytes
pub put_both : (a b c : Option (List ℕ)) (f g h : Bool) (old now bytes : List ℕ)
    → now ≡ [] → Appends a b old → g ≡ f → WroteWhole (over b c g h) bytes → PutSome (over a c f h) old now bytes
put_both a b c f g h old now bytes none first same then = record {
  written = old ++ bytes;
  joined = ap (λ (l : List ℕ). (old ++ bytes) ++ l) none ∙ append-nil (old ++ bytes);
  appended = Appends-trans a b c old bytes first then.appended;
  steady = then.steady ∙ same;
}

-- one piece more was written or kept
pub more_put : (a b c : Option (List ℕ)) (f g h : Bool) (kept now text bytes : List ℕ)
    → PutSome (over a b f g) [] kept text → PutSome (over b c g h) kept now bytes → PutSome (over a c f h) [] now (text ++ bytes)
more_put a b c f g h kept now text bytes first then = record {
  written = first.written ++ then.written;
  joined = append_assoc first.written then.written now
      ∙ (ap (λ (l : List ℕ). first.written ++ l) then.joined
      ∙ (sym (append_assoc first.written kept bytes) ∙ ap (λ (l : List ℕ). l ++ bytes) first.joined));
  appended = Appends-trans a b c first.written then.written first.appended then.appended;
  steady = then.steady ∙ first.steady;
}

-- the pieces up to and with one
pieces_with : {X : Type 0} (text : X → List ℕ) (xs : List X) (i : ℕ) (d : X) → i < length xs
    → pieces_text text (take i xs) ++ text (slice_index_or xs i d) ≡ pieces_text text (take (suc i) xs)
pieces_with text [] i d within = absurd (omega arith)
pieces_with text (y ∷ xs) zero d within = sym (append-nil (text y))
pieces_with text (y ∷ xs) (suc i) d within =
    append_assoc (text y) (flat_map text (take i xs)) (text (slice_index_or xs i d))
    ∙ ap (λ (l : List ℕ). text y ++ l) (pieces_with text xs i d (omega arith))

-- the same of the pieces of a list
pub more_pieces : {X : Type 0} (text : X → List ℕ) (xs : List X) (i : ℕ) (d : X) (a b c : Option (List ℕ)) (f g h : Bool) (kept now : List ℕ)
    → i < length xs → PutSome (over a b f g) [] kept (pieces_text text (take i xs)) → PutSome (over b c g h) kept now (text (slice_index_or xs i d))
    → PutSome (over a c f h) [] now (pieces_text text (take (i + 1) xs))
more_pieces text xs i d a b c f g h kept now within first then =
    let whole = pieces_with text xs i d within in
    let next : suc i ≡ i + 1 = omega arith in
    let put = more_put a b c f g h kept now (pieces_text text (take i xs)) (text (slice_index_or xs i d)) first then in
    subst (λ (n : ℕ). PutSome (over a c f h) [] now (pieces_text text (take n xs))) next
    (subst (λ (l : List ℕ). PutSome (over a c f h) [] now l) whole put)

-- all pieces were written or kept, and then some of what is kept was written
pub part_of_kept : {X : Type 0} (text : X → List ℕ) (xs : List X) (i : ℕ) (a b c : Option (List ℕ)) (f g h : Bool) (kept : List ℕ)
    → length xs ≤ i → PutSome (over a b f g) [] kept (pieces_text text (take i xs)) → WrotePart (over b c g h) kept → WrotePart (over a c f h) (pieces_text text xs)
part_of_kept text xs i a b c f g h kept all before part =
    let some = part_after a b c f g h before.written kept before.appended part in
    subst (λ (l : List ℕ). WrotePart (over a c f h) l) (before.joined ∙ ap (λ l. pieces_text text l) (take_all i xs all)) some

-- all pieces were written or kept, and then what is kept was written
pub whole_of_kept : {X : Type 0} (text : X → List ℕ) (xs : List X) (i : ℕ) (a b c : Option (List ℕ)) (f g h : Bool) (kept : List ℕ)
    → length xs ≤ i → PutSome (over a b f g) [] kept (pieces_text text (take i xs)) → WroteWhole (over b c g h) kept → WroteWhole (over a c f h) (pieces_text text xs)
whole_of_kept text xs i a b c f g h kept all before whole =
    let joined = before.joined ∙ ap (λ l. pieces_text text l) (take_all i xs all) in
    record {
      appended = subst (λ (l : List ℕ). Appends a c l) joined (Appends-trans a b c before.written kept before.appended whole.appended);
      steady = whole.steady ∙ before.steady;
    }
