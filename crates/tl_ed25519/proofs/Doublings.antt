-- The table of the doublings of the base point, computed from the definitions.
use Rattle.std.proofs.Common.{◌≡◌, ℕ, zero, suc, ◌%◌, ◌^◌, ◌<◌, ◌==◌, ◌&&◌, Bool, true, nat_lt, List, [], ◌∷◌, length, refl, arith, ◌∙◌}
use Rattle.std.specs.Prelude.{slice_index_or}
use Rattle.std.proofs.lemmas.Bool.{and_parts, eqb-true, ltb-true}
use Rattle.tl_ed25519.specs.Field.{prime, add, sub, mul, curve_d}
use Rattle.tl_ed25519.specs.Curve.{Point, affine, base_point, point_add}
use Rattle.tl_ed25519.specs.Inner.Rows.{IsRow, value}
use Rattle.tl_ed25519.specs.Inner.Sums.{Cached, cached_of, doubled}
use Rattle.tl_ed25519.specs.declared.table.less_rows.TheConstants.{LESS}
use Rattle.tl_ed25519.specs.declared.table.more_rows.TheConstants.{MORE}
use Rattle.tl_ed25519.specs.declared.table.z_rows.TheConstants.{Z}
use Rattle.tl_ed25519.specs.declared.table.t_rows.TheConstants.{T}

-- a row has carried limbs, and spells a number of the field
unfoldable pub spells : List ℕ → ℕ → Bool
spells five n =
    (value five % prime == n)
    && (nat_lt (slice_index_or five 0 0) (2 ^ 51) && (nat_lt (slice_index_or five 1 0) (2 ^ 52) && (nat_lt (slice_index_or five 2 0) (2 ^ 51) && (nat_lt (slice_index_or five 3 0) (2 ^ 51) && nat_lt (slice_index_or five 4 0) (2 ^ 51)))))

spelled : (five : List ℕ) (n : ℕ) → spells five n ≡ true → IsRow five × (value five % prime ≡ n)
unfolding spells
spelled five n h =
    let t4 : Bool = nat_lt (slice_index_or five 4 0) (2 ^ 51) in
    let t3 : Bool = nat_lt (slice_index_or five 3 0) (2 ^ 51) && t4 in
    let t2 : Bool = nat_lt (slice_index_or five 2 0) (2 ^ 51) && t3 in
    let t1 : Bool = nat_lt (slice_index_or five 1 0) (2 ^ 52) && t2 in
    let p0 = and_parts (value five % prime == n) (nat_lt (slice_index_or five 0 0) (2 ^ 51) && t1) h in
    let p1 = and_parts (nat_lt (slice_index_or five 0 0) (2 ^ 51)) t1 p0.1 in
    let p2 = and_parts (nat_lt (slice_index_or five 1 0) (2 ^ 52)) t2 p1.1 in
    let p3 = and_parts (nat_lt (slice_index_or five 2 0) (2 ^ 51)) t3 p2.1 in
    let p4 = and_parts (nat_lt (slice_index_or five 3 0) (2 ^ 51)) t4 p3.1 in (
      record {
        first = ltb-true (slice_index_or five 0 0) (2 ^ 51) p1.0;
        second = ltb-true (slice_index_or five 1 0) (2 ^ 52) p2.0;
        third = ltb-true (slice_index_or five 2 0) (2 ^ 51) p3.0;
        fourth = ltb-true (slice_index_or five 3 0) (2 ^ 51) p4.0;
        fifth = ltb-true (slice_index_or five 4 0) (2 ^ 51) p4.1;
      },
      eqb-true (value five % prime) n p0.0,
    )

-- each row spells what f is of the next doubling
unfoldable pub column_ok : (Point → ℕ) → List (List ℕ) → Point → Bool
column_ok f [] p = true
column_ok f (five ∷ rows) p = spells five (f p) && column_ok f rows (point_add p p)

at_row : (f : Point → ℕ) (rows : List (List ℕ)) (p : Point) (i : ℕ) → column_ok f rows p ≡ true → i < length rows →
    spells (slice_index_or rows i []) (f (doubled i p)) ≡ true
unfolding column_ok doubled
at_row f [] p i h l = absurd (omega (arith, l))
at_row f (five ∷ rows) p zero h l = (and_parts (spells five (f p)) (column_ok f rows (point_add p p)) h).0
at_row f (five ∷ rows) p (suc i) h l =
    at_row f rows (point_add p p) i (and_parts (spells five (f p)) (column_ok f rows (point_add p p)) h).1 (omega (arith, l))

less_ok : column_ok (λ p. sub p.y p.x) LESS base_point ≡ true
unfolding column_ok spells point_add base_point affine add sub mul
less_ok = refl

more_ok : column_ok (λ p. add p.y p.x) MORE base_point ≡ true
unfolding column_ok spells point_add base_point affine add sub mul
more_ok = refl

z_ok : column_ok (λ p. p.z) Z base_point ≡ true
unfolding column_ok spells point_add base_point affine add sub mul
z_ok = refl

t_ok : column_ok (λ p. mul p.t (mul 2 curve_d)) T base_point ≡ true
unfolding column_ok spells point_add base_point affine add sub mul
t_ok = refl

pub less_row : (i : ℕ) → i < 256 → IsRow (slice_index_or LESS i []) × (value (slice_index_or LESS i []) % prime ≡ sub (doubled i base_point).y (doubled i base_point).x)
less_row i h = spelled (slice_index_or LESS i []) _ (at_row (λ p. sub p.y p.x) LESS base_point i less_ok h)

pub more_row : (i : ℕ) → i < 256 → IsRow (slice_index_or MORE i []) × (value (slice_index_or MORE i []) % prime ≡ add (doubled i base_point).y (doubled i base_point).x)
more_row i h = spelled (slice_index_or MORE i []) _ (at_row (λ p. add p.y p.x) MORE base_point i more_ok h)

pub z_row : (i : ℕ) → i < 256 → IsRow (slice_index_or Z i []) × (value (slice_index_or Z i []) % prime ≡ (doubled i base_point).z)
z_row i h = spelled (slice_index_or Z i []) _ (at_row (λ p. p.z) Z base_point i z_ok h)

pub t_row : (i : ℕ) → i < 256 → IsRow (slice_index_or T i []) × (value (slice_index_or T i []) % prime ≡ mul (doubled i base_point).t (mul 2 curve_d))
t_row i h = spelled (slice_index_or T i []) _ (at_row (λ p. mul p.t (mul 2 curve_d)) T base_point i t_ok h)

pub at_table : (i a b c d : ℕ) → i < 256 → a ≡ value (slice_index_or LESS i []) % prime → b ≡ value (slice_index_or MORE i []) % prime →
    c ≡ value (slice_index_or Z i []) % prime → d ≡ value (slice_index_or T i []) % prime →
    ◌≡◌ {A = Cached} (record { less = a; more = b; z = c; t = d }) (cached_of (doubled i base_point))
unfolding cached_of
at_table i a b c d h ea eb ec ed = rw (ea ∙ (less_row i h).1, eb ∙ (more_row i h).1, ec ∙ (z_row i h).1, ed ∙ (t_row i h).1) refl
