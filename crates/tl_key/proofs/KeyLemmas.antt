-- The first four bytes of a digest as a number, and bytes written one by one.
use Rattle.std.proofs.Common.{◌≡◌, ℕ, zero, suc, ◌+◌, ◌*◌, ◌<◌, List, [], ◌∷◌, ◌++◌, length, map, take, drop, get_or, refl, sym, ap, ◌∙◌, add-one, arith}
use Rattle.std.proofs.Math.ListN.{set}
use Rattle.std.specs.Int.{w32, from_be_bytes}
use Rattle.std.proofs.lemmas.List.{get_or-take}

abbrev number : ℕ → ℕ → ℕ → ℕ → ℕ
number a b c d = ((a * 16777216 + b * 65536) + c * 256) + d

first_four : (s : List ℕ) → number (get_or (take 4 s) 0 0) (get_or (take 4 s) 1 0) (get_or (take 4 s) 2 0) (get_or (take 4 s) 3 0) ≡ number (get_or s 0 0) (get_or s 1 0) (get_or s 2 0) (get_or s 3 0)
first_four s =
    ap (λ (x : ℕ). number x (get_or (take 4 s) 1 0) (get_or (take 4 s) 2 0) (get_or (take 4 s) 3 0)) (get_or-take 4 s 0 0 (omega arith))
    ∙ ap (λ (x : ℕ). number (get_or s 0 0) x (get_or (take 4 s) 2 0) (get_or (take 4 s) 3 0)) (get_or-take 4 s 1 0 (omega arith))
    ∙ ap (λ (x : ℕ). number (get_or s 0 0) (get_or s 1 0) x (get_or (take 4 s) 3 0)) (get_or-take 4 s 2 0 (omega arith))
    ∙ ap (λ (x : ℕ). number (get_or s 0 0) (get_or s 1 0) (get_or s 2 0) x) (get_or-take 4 s 3 0 (omega arith))

pub id_of_digest : (d s : List ℕ) (id : ℕ) → d ≡ s → id ≡ ((get_or d 0 0 * 16777216 + get_or d 1 0 * 65536) + get_or d 2 0 * 256) + get_or d 3 0 → id ≡ from_be_bytes w32 (take 4 s)
id_of_digest d s id same is =
    is ∙ ap (λ (t : List ℕ). number (get_or t 0 0) (get_or t 1 0) (get_or t 2 0) (get_or t 3 0)) same ∙ sym (first_four s)

-- one byte more of a list is written, each by a function of what stood there
write_step : (f : ℕ → ℕ) (init : List ℕ) (i : ℕ) → i < length init
    → set (map f (take i init) ++ drop i init) i (f (get_or (map f (take i init) ++ drop i init) i 0)) ≡ map f (take (suc i) init) ++ drop (suc i) init
write_step f [] i h = absurd (omega arith)
write_step f (x ∷ init) zero h = refl
write_step f (x ∷ init) (suc i) h = ap (λ (t : List ℕ). f x ∷ t) (write_step f init i (omega arith))

pub written : (f : ℕ → ℕ) (xs init : List ℕ) (i : ℕ) → i < length init → xs ≡ map f (take i init) ++ drop i init
    → set xs i (f (get_or xs i 0)) ≡ map f (take (i + 1) init) ++ drop (i + 1) init
written f xs init i h e =
    ap (λ (t : List ℕ). set t i (f (get_or t i 0))) e ∙ write_step f init i h ∙ ap (λ (n : ℕ). map f (take n init) ++ drop n init) (sym (add-one i))
