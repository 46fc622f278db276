-- Reads of one piece after another into a buffer.
use Rattle.std.proofs.Common.{◌≡◌, ℕ, ◌+◌, ◌≤◌, List, [], ◌++◌, Option, Bool, true, false, length, take, ap, subst, sym, ◌∙◌, append-nil, refl}
use Rattle.std.proofs.lemmas.List.{take-append-le, length-take-le}
use Rattle.std.proofs.Math.Seq.{take-append-add}
use Rattle.std.proofs.KnownBytes.{Consumes-nil, Consumes-trans}
use Rattle.std.specs.Io.KnownBytes.{Consumes, IsAtEnd}
use borrow.Rule.Slice.PartMut.{put_mid, post_of}
use Rattle.tl_device.specs.Reading.{Gave}
use Rattle.tl_device.proofs.SendingLemmas.{over}

-- the first bytes of a buffer, after some more were put behind them
pub take_read : (a k n : ℕ) (xs ys : List ℕ) → a ≤ length xs → n ≤ length ys → take (a + n) (put_mid a k xs ys) ≡ take a xs ++ take n ys
take_read a k n xs ys in_xs in_ys =
    let len : length (take a xs) ≡ a = length-take-le a xs in_xs in
    ap (λ (m : ℕ). take (m + n) (put_mid a k xs ys)) (sym len)
    ∙ (take-append-add (take a xs) (ys ++ post_of a k xs) n
    ∙ ap (λ (l : List ℕ). take a xs ++ l) (take-append-le n ys (post_of a k xs) in_ys))

pub never : {P : Type 0} → false ≡ true → P
never same = absurd cc

-- more was read behind the first bytes of a buffer
pub gave_more : (a b c : Option (List ℕ)) (f g h : Bool) (len k n : ℕ) (xs ys : List ℕ)
    → len ≤ length xs → n ≤ length ys → Gave (over a b f g) (take len xs) false → Consumes b c (take n ys) → h ≡ g
    → Gave (over a c f h) (take (len + n) (put_mid len k xs ys)) false
gave_more a b c f g h len k n xs ys in_xs in_ys first then same =
    let joined = sym (take_read len k n xs ys in_xs in_ys) in
    record {
      consumed = subst (λ (l : List ℕ). Consumes a c l) joined (Consumes-trans a b c (take len xs) (take n ys) first.consumed then);
      at_end = λ e. never e;
      steady = same ∙ first.steady;
    }

-- the end was read
pub gave_end : (a b c : Option (List ℕ)) (f g h : Bool) (bytes ys : List ℕ) (n : ℕ)
    → Gave (over a b f g) bytes false → n ≡ 0 → Consumes b c (take n ys) → IsAtEnd c → h ≡ g → Gave (over a c f h) bytes true
gave_end a b c f g h bytes ys n first none then at_end same =
    let nothing : Consumes b c [] = subst (λ (m : ℕ). Consumes b c (take m ys)) none then in
    record {
      consumed = subst (λ (l : List ℕ). Consumes a c l) (append-nil bytes) (Consumes-trans a b c bytes [] first.consumed nothing);
      at_end = λ e. at_end;
      steady = same ∙ first.steady;
    }

-- nothing was read
pub gave_none : (a : Option (List ℕ)) (f : Bool) → Gave (over a a f f) [] false
gave_none a f = record { consumed = Consumes-nil a; at_end = λ e. never e; steady = refl }
