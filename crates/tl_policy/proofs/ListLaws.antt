-- Searches of lists that are seen through a view.
use Rattle.std.proofs.Common.{◌≡◌, ℕ, ◌+◌, Bool, true, false, cond, List, [], ◌∷◌, length, map, refl, sym, ap, ◌∙◌, Option, Some, None}
use Rattle.std.specs.Prelude.{◌||◌, nat_lt, not, position}
use Rattle.std.specs.List.{list_any, prefix_len}
use Rattle.std.proofs.lemmas.List.{length-map}

pub list_any-map : {X Y : Type 0} (f : X → Y) (p : Y → Bool) (xs : List X) → list_any p (map f xs) ≡ list_any (λ x. p (f x)) xs
list_any-map f p [] = refl
list_any-map f p (x ∷ xs) = ap (λ (b : Bool). p (f x) || b) (list_any-map f p xs)

prefix_len-map : {X Y : Type 0} (f : X → Y) (p : Y → Bool) (xs : List X) → prefix_len p (map f xs) ≡ prefix_len (λ x. p (f x)) xs
prefix_len-map f p [] = refl
prefix_len-map f p (x ∷ xs) = ap (λ (n : ℕ). cond (p (f x)) (1 + n) 0) (prefix_len-map f p xs)

pub position-map : {X Y : Type 0} (f : X → Y) (p : Y → Bool) (xs : List X) → position p (map f xs) ≡ position (λ x. p (f x)) xs
position-map f p xs =
    ap (λ (n : ℕ). cond (nat_lt n (length (map f xs))) (Some n) None) (prefix_len-map f (λ y. not (p y)) xs)
    ∙ ap (λ (n : ℕ). cond (nat_lt (prefix_len (λ x. not (p (f x))) xs) n) (Some (prefix_len (λ x. not (p (f x))) xs)) None) (length-map xs f)

-- a test or another
pub or_first : (a b r : Bool) → r ≡ true → r ≡ a → r ≡ (a || b)
or_first a b r t same = t ∙ ap (λ (x : Bool). x || b) (sym t ∙ same)

pub or_second : (a b r s : Bool) → r ≡ false → r ≡ a → s ≡ b → s ≡ (a || b)
or_second a b r s f same other = other ∙ ap (λ (x : Bool). x || b) (sym f ∙ same)

-- what is searched through a view
pub any_seen : {X Y : Type 0} (f : X → Y) (p : Y → Bool) (xs ys : List X) (r : Bool) → ys ≡ xs → r ≡ list_any (λ x. p (f x)) ys → r ≡ list_any p (map f xs)
any_seen {X} f p xs ys r same is = is ∙ ap (λ (zs : List X). list_any (λ x. p (f x)) zs) same ∙ sym (list_any-map f p xs)

pub position_seen : {X Y : Type 0} (f : X → Y) (p : Y → Bool) (xs ys : List X) (r : Option ℕ) → ys ≡ xs → r ≡ position (λ x. p (f x)) ys → position p (map f xs) ≡ r
position_seen {X} f p xs ys r same is = sym (is ∙ ap (λ (zs : List X). position (λ x. p (f x)) zs) same ∙ sym (position-map f p xs))
