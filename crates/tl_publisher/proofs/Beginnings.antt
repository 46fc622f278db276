-- Two beginnings of one list.
use Rattle.std.proofs.Common.{◌≡◌, ◌≤◌, List, [], ◌++◌, length, take, drop, refl, sym, ap, ◌∙◌, arith, append-nil}
use Rattle.std.proofs.lemmas.List.{take_at, take-append-le, take-append-drop, length-append, nil_from_length}
use mathlib.Core.List.{IsPrefix}

-- the shorter of the two is what the longer has up to its length
shorter_is : {A : Type 0} (short long whole : List A) → IsPrefix short whole → IsPrefix long whole → length short ≤ length long → take (length short) long ≡ short
shorter_is short long whole (after, split) (rest, joined) le =
    sym (take-append-le (length short) long rest le) ∙ ap (take (length short)) (joined ∙ sym split) ∙ take_at short after (length short) refl

-- and so it begins the longer
pub shorter_begins : {A : Type 0} (short long whole : List A) → IsPrefix short whole → IsPrefix long whole → length short ≤ length long → IsPrefix short long
shorter_begins short long whole front back le =
    (drop (length short) long, ap (λ (xs : List _). xs ++ drop (length short) long) (sym (shorter_is short long whole front back le)) ∙ take-append-drop (length short) long)

-- a beginning as long as the whole is the whole
pub all_of_it : {A : Type 0} (front whole : List A) → IsPrefix front whole → length whole ≤ length front → front ≡ whole
all_of_it front whole (rest, joined) le =
    let none : rest ≡ [] = nil_from_length rest (omega (arith, le, sym (ap length joined) ∙ length-append front rest)) in
    sym (append-nil front) ∙ ap (λ (xs : List _). front ++ xs) (sym none) ∙ joined
