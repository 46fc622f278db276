-- Products mod p, in another order.
use Rattle.std.proofs.Common.{◌≡◌, ℕ, ◌+◌, ◌*◌, ◌%◌, refl, ap, arith, ◌∙◌, sym}
use Rattle.std.proofs.lemmas.Nat.{mul-mod, mul-mod_second}
use Rattle.tl_ed25519.specs.Field.{prime, add, mul}
use Rattle.tl_ed25519.proofs.Limbs.{sums}

pub mod_first : (m a b : ℕ) → a % m * b % m ≡ a * b % m
mod_first m a b =
    let turned : a % m * b ≡ b * (a % m) = omega arith in
    let back : b * a ≡ a * b = omega arith in
    ap (λ n. n % m) turned ∙ mul-mod_second b a m ∙ ap (λ n. n % m) back

-- twice a product, by a factor that is twice as large
pub scaled : (t d q : ℕ) → mul (mul (mul t 2) d) q ≡ mul (mul t (mul 2 d)) q
unfolding mul
scaled t d q =
    let same : t * 2 * d ≡ t * (2 * d) = omega arith in
    ap (λ n. n * q % prime) (mod_first prime (t * 2) d ∙ ap (λ n. n % prime) same ∙ sym (mul-mod_second t (2 * d) prime))

-- the same if the last factor is
pub scaled_last : (t d q : ℕ) → mul (mul (mul t 2) d) q ≡ mul t (mul q (mul 2 d))
unfolding mul
scaled_last t d q =
    let left : t * 2 * d * q ≡ t * (q * (2 * d)) = omega arith in
    ap (λ n. n * q % prime) (mod_first prime (t * 2) d) ∙ mod_first prime (t * 2 * d) q ∙ ap (λ n. n % prime) left
    ∙ sym (ap (λ n. t * n % prime) (mul-mod_second q (2 * d) prime) ∙ mul-mod_second t (q * (2 * d)) prime)

-- the same of a square
pub scaled_square : (t d : ℕ) → mul (mul (mul t 2) d) t ≡ mul (mul t t) (mul 2 d)
unfolding mul
scaled_square t d =
    let same : t * 2 * d * t ≡ t * t * (2 * d) = omega arith in
    ap (λ n. n * t % prime) (mod_first prime (t * 2) d) ∙ mod_first prime (t * 2 * d) t ∙ ap (λ n. n % prime) same ∙ mul-mod (t * t) (2 * d) prime

-- twice a product, as a sum
pub twice_product : (z w : ℕ) → mul (mul z 2) w ≡ add (mul z w) (mul z w)
unfolding mul add
twice_product z w =
    let same : z * 2 * w ≡ z * w + z * w = omega arith in
    mod_first prime (z * 2) w ∙ ap (λ n. n % prime) same ∙ sums prime (z * w) (z * w) (z * w % prime) (z * w % prime) refl refl
