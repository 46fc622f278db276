-- A buffer that is filled piece by piece.
use Rattle.std.proofs.Common.{◌≡◌, ℕ, ◌+◌, ◌≤◌, List, ◌++◌, length, take, sym, ap, ◌∙◌}
use Rattle.std.proofs.Math.Seq.{take-append-add, take-append_seam}
use Rattle.std.proofs.lemmas.List.{take-append-le, length-take-le}
use borrow.Rule.Slice.PartMut.{put_mid, post_of}

-- what stands at the front of a buffer once its rest from a place on was written
pub filled : (at room n : ℕ) (buf part : List ℕ) → at ≤ length buf → n ≤ length part → take (at + n) (put_mid at room buf part) ≡ take at buf ++ take n part
filled at room n buf part within fits =
    ap (λ (m : ℕ). take (m + n) (take at buf ++ (part ++ post_of at room buf))) (sym (length-take-le at buf within))
    ∙ take-append-add (take at buf) (part ++ post_of at room buf) n
    ∙ ap (λ (t : List ℕ). take at buf ++ t) (take-append-le n part (post_of at room buf) fits)

-- the whole of a buffer that was written whole
pub written : (count : ℕ) (buf rest : List ℕ) → length buf ≡ count → take count (buf ++ rest) ≡ buf
written count buf rest same = ap (λ (n : ℕ). take n (buf ++ rest)) (sym same) ∙ take-append_seam buf rest
