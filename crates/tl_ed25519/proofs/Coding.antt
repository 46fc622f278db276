-- Encoding and decoding of points, over plain variables.
use Rattle.std.proofs.Common.{◌≡◌, ℕ, ◌+◌, ◌*◌, ◌/◌, ◌%◌, ◌^◌, ◌<◌, List, Bool, true, false, Option, Some, None, nat_lt, ◌==◌, if◌then◌else◌, refl, ap, arith, ◌∙◌, sym, lit<}
use Rattle.std.proofs.lemmas.Bool.{ltb-true}
use Rattle.std.proofs.lemmas.Nat.{mod_below}
use Rattle.tl_ed25519.specs.Field.{prime, add, sub, mul, power, inverse, curve_d, root, root_of_minus_one}
use Rattle.tl_ed25519.specs.Curve.{Point, affine, little_endian, bytes_of, encode, with_sign, at_y, signed, x_squared, decode_from, decode}
use Rattle.tl_ed25519.proofs.Choices.{if_true, if_false, if_same, if_other}
use Rattle.tl_ed25519.proofs.Points.{made}

pub mul_below : (x y : ℕ) → mul x y < prime
unfolding mul
mul_below x y = mod_below (x * y) prime (lit< tt)

pub at_encoded : (px py pz pt scale x xw y yw bit whole : ℕ) (p : Point) (out : List ℕ) → made px py pz pt ≡ p →
    scale ≡ inverse pz → x ≡ mul px scale → xw ≡ x → y ≡ mul py scale → yw ≡ y → bit ≡ xw % 2 → whole ≡ yw + 2 ^ 255 * bit →
    out ≡ bytes_of 32 whole → out ≡ encode p
unfolding encode
at_encoded px py pz pt scale x xw y yw bit whole p out ep es ex exw ey eyw eb ew eo =
    eo ∙ (rw (← ep, ew, eb, eyw, ey, exw, ex, es) refl)

pub first_root : (a r s : ℕ) (b : Bool) → r ≡ power a ((prime + 3) / 8) → s ≡ mul r r → b ≡ (s == a) → b ≡ true → Some r ≡ root a
unfolding root
first_root a r s b er es eb h = sym (rw (← er, ← es) (if_true b (s == a) (Some r) _ eb h))

pub second_root : (a r s i t u : ℕ) (b d : Bool) → r ≡ power a ((prime + 3) / 8) → s ≡ mul r r → b ≡ (s == a) → b ≡ false →
    i ≡ root_of_minus_one → t ≡ mul r i → u ≡ mul t t → d ≡ (u == a) → d ≡ true → Some t ≡ root a
unfolding root
second_root a r s i t u b d er es eb h ei et eu ed k =
    sym (rw (← er, ← es, ← ei, ← et, ← eu) (if_false b (s == a) (Some r) _ eb h ∙ if_true d (u == a) (Some t) None ed k))

pub no_root : (a r s i t u : ℕ) (b d : Bool) → r ≡ power a ((prime + 3) / 8) → s ≡ mul r r → b ≡ (s == a) → b ≡ false →
    i ≡ root_of_minus_one → t ≡ mul r i → u ≡ mul t t → d ≡ (u == a) → d ≡ false → None ≡ root a
unfolding root
no_root a r s i t u b d er es eb h ei et eu ed k =
    sym (rw (← er, ← es, ← ei, ← et, ← eu) (if_false b (s == a) (Some r) _ eb h ∙ if_false d (u == a) (Some t) None ed k))

pub at_x_squared : (y square one above d scaled one2 below turned x : ℕ) → square ≡ mul y y → one ≡ 1 → above ≡ sub square one →
    d ≡ curve_d → scaled ≡ mul d square → one2 ≡ 1 → below ≡ add scaled one2 → turned ≡ inverse below → x ≡ mul above turned →
    x ≡ x_squared y
unfolding x_squared
at_x_squared y square one above d scaled one2 below turned x es e1 ea ed ec e2 eb et ex =
    rw (ex, et, eb, e2, ec, ed, ea, e1, es) refl

pub kept_sign : (sign x w bit : ℕ) → w ≡ x → bit ≡ w % 2 → bit ≡ sign → Some x ≡ with_sign sign x
unfolding with_sign
kept_sign sign x w bit ew eb h =
    sym (if_same (x % 2) sign (Some x) _ (ap (λ n. n % 2) (sym ew) ∙ sym eb ∙ h))

other_sign : (sign x w bit : ℕ) → w ≡ x → bit ≡ w % 2 → (bit ≡ sign → ⊥) →
    with_sign sign x ≡ (if x == 0 then None else Some (sub 0 x))
unfolding with_sign
other_sign sign x w bit ew eb h =
    if_other (x % 2) sign (Some x) _ (λ k. h (eb ∙ ap (λ n. n % 2) ew ∙ k))

pub zero_sign : (sign x w bit nought : ℕ) (b : Bool) → w ≡ x → bit ≡ w % 2 → (bit ≡ sign → ⊥) → nought ≡ 0 → b ≡ (x == nought) → b ≡ true →
    None ≡ with_sign sign x
zero_sign sign x w bit nought b ew eb h e0 e k =
    sym (other_sign sign x w bit ew eb h ∙ if_true b (x == 0) None (Some (sub 0 x)) (e ∙ ap (λ n. x == n) e0) k)

pub turned_sign : (sign x w bit nought nought2 r : ℕ) (b : Bool) → w ≡ x → bit ≡ w % 2 → (bit ≡ sign → ⊥) → nought ≡ 0 → b ≡ (x == nought) → b ≡ false →
    nought2 ≡ 0 → r ≡ sub nought2 x → Some r ≡ with_sign sign x
turned_sign sign x w bit nought nought2 r b ew eb h e0 e k e1 er =
    ap Some (er ∙ ap (λ n. sub n x) e1)
    ∙ sym (other_sign sign x w bit ew eb h ∙ if_false b (x == 0) None (Some (sub 0 x)) (e ∙ ap (λ n. x == n) e0) k)

pub at_decoded : (bytes : List ℕ) (n sign y : ℕ) (r : Option Point) → n ≡ little_endian bytes → sign ≡ n / 2 ^ 255 → y ≡ n % 2 ^ 255 →
    r ≡ decode_from y sign → r ≡ decode bytes
unfolding decode
at_decoded bytes n sign y r en es ey e = e ∙ (rw (ey, es, en) refl)

pub not_canonical : (y sign p : ℕ) (b : Bool) → p ≡ prime → b ≡ nat_lt y p → b ≡ false → None ≡ decode_from y sign
unfolding decode_from
not_canonical y sign p b ep e h = sym (if_false b (nat_lt y prime) _ None (e ∙ ap (λ k. nat_lt y k) ep) h)

canonical : (y sign p : ℕ) (b : Bool) → p ≡ prime → b ≡ nat_lt y p → b ≡ true →
    decode_from y sign ≡ at_y y (signed sign (root (x_squared y)))
unfolding decode_from
canonical y sign p b ep e h = if_true b (nat_lt y prime) _ None (e ∙ ap (λ k. nat_lt y k) ep) h

same_y : (y k p : ℕ) (b : Bool) → p ≡ prime → b ≡ nat_lt y p → b ≡ true → k ≡ y % 2 ^ 255 % prime → k ≡ y
same_y y k p b ep e h ek =
    let l : y < prime = ltb-true y prime (sym (e ∙ ap (λ k. nat_lt y k) ep) ∙ h) in
    ek ∙ omega arith

pub rootless : (y sign p k square : ℕ) (b : Bool) (o : Option ℕ) → p ≡ prime → b ≡ nat_lt y p → b ≡ true → k ≡ y % 2 ^ 255 % prime →
    square ≡ x_squared k → o ≡ root square → o ≡ None → None ≡ decode_from y sign
unfolding at_y signed
rootless y sign p k square b o ep e h ek es eo en =
    let f : root (x_squared y) ≡ None =
    ap (λ j. root (x_squared j)) (sym (same_y y k p b ep e h ek)) ∙ ap root (sym es) ∙ sym eo ∙ en in
    sym (canonical y sign p b ep e h ∙ ap (λ q. at_y y (signed sign q)) f)

pub signless : (y sign p k square r : ℕ) (b : Bool) (o s : Option ℕ) → p ≡ prime → b ≡ nat_lt y p → b ≡ true → k ≡ y % 2 ^ 255 % prime →
    square ≡ x_squared k → o ≡ root square → o ≡ Some r → s ≡ with_sign sign r → s ≡ None → None ≡ decode_from y sign
unfolding at_y signed
signless y sign p k square r b o s ep e h ek es eo er ew en =
    let f : root (x_squared y) ≡ Some r =
    ap (λ j. root (x_squared j)) (sym (same_y y k p b ep e h ek)) ∙ ap root (sym es) ∙ sym eo ∙ er in
    sym (canonical y sign p b ep e h ∙ ap (λ q. at_y y (signed sign q)) f ∙ ap (at_y y) (sym ew ∙ en))

pub found : (y sign p k square r x : ℕ) (b : Bool) (o s : Option ℕ) (point : Point) → p ≡ prime → b ≡ nat_lt y p → b ≡ true → k ≡ y % 2 ^ 255 % prime →
    square ≡ x_squared k → o ≡ root square → o ≡ Some r → s ≡ with_sign sign r → s ≡ Some x → point ≡ affine x k →
    Some point ≡ decode_from y sign
unfolding at_y signed
found y sign p k square r x b o s point ep e h ek es eo er ew ex ea =
    let f : root (x_squared y) ≡ Some r =
    ap (λ j. root (x_squared j)) (sym (same_y y k p b ep e h ek)) ∙ ap root (sym es) ∙ sym eo ∙ er in
    ap Some (ea ∙ ap (affine x) (same_y y k p b ep e h ek))
    ∙ sym (canonical y sign p b ep e h ∙ ap (λ q. at_y y (signed sign q)) f ∙ ap (at_y y) (sym ew ∙ ex))
