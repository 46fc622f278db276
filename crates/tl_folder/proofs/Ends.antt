-- How the paths of resources end, and that they are in folders.
use Rattle.std.proofs.Common.{◌≡◌, ◌≢◌, ℕ, suc, ◌+◌, ◌-◌, ◌/◌, ◌%◌, ◌^◌, ◌<◌, ◌≤◌, true, false, [], ◌∷◌, ◌++◌, length, take, reverse, get_or, Some, None, refl, sym, ap, subst, ◌∙◌, arith, append_assoc}
use Rattle.std.specs.Prelude.{Bool, ◌&&◌, ◌||◌, ◌==◌, nat_lt, option_map, codes, decimal, slice_index, if◌then◌else◌}
use Rattle.std.specs.Str.{bytes_eq}
use Rattle.std.specs.Path.{path_parent, trim_trailing, trimmed_len, is_trailing, split_last_component, parent_and_last, rsplit_once, root_dir}
use Rattle.std.proofs.lemmas.Bool.{ne_eqb}
use Rattle.std.proofs.lemmas.Fmt.{decimal_by_steps}
use Rattle.std.proofs.lemmas.List.{append-nil, reverse-append, length-append}
use Rattle.std.proofs.lemmas.Slice.Eq.{bytes_eq-Decides}
use Rattle.std.proofs.Math.Seq.{take-length}
use Rattle.tl_tile.specs.declared.resource.Resource.{Resource}
use Rattle.tl_tile.specs.declared.resource.Resource.TheVariants as resource
use Rattle.tl_tile.specs.Path.{IsResource, path_text, three_digits, index_text, piece_text}
use Rattle.tl_folder.specs.Step.{Path}
use Rattle.tl_folder.specs.Places.{place_of}
use Rattle.tl_folder.specs.Settling.{new_path}

-- the last byte is a small letter before `w` or a digit, as is that of each path of a resource
pub record EndsWell (text : Path) : Type 0 where
  front : Path
  byte : ℕ
  whole : text ≡ front ++ byte ∷ []
  above : 48 ≤ byte
  below : byte < 119

ends_more : (a b : Path) → EndsWell b → EndsWell (a ++ b)
ends_more a b ends = record { front = a ++ ends.front; byte = ends.byte; whole = ap (λ (x : Path). a ++ x) ends.whole ∙ sym (append_assoc a ends.front (ends.byte ∷ [])); above = ends.above; below = ends.below }

ends_digits : (n : ℕ) → EndsWell (three_digits n)
ends_digits n = record { front = (48 + n / 100) ∷ (48 + n / 10 % 10) ∷ []; byte = 48 + n % 10; whole = refl; above = omega arith; below = omega arith }

ends_number : (n : ℕ) → n < 2 ^ 64 → EndsWell (decimal n)
ends_number n small =
    decimal_by_steps (λ _ text. EndsWell text)
    (λ m less. record { front = []; byte = 48 + m; whole = refl; above = omega arith; below = omega (arith, less) })
    (λ m text more ends. record { front = text; byte = 48 + m % 10; whole = refl; above = omega arith; below = omega arith }) n small

ends_nil : (a : Path) → EndsWell a → EndsWell (a ++ [])
ends_nil a ends = subst EndsWell (sym (append-nil a)) ends

ends_piece : (index width : ℕ) → width ≤ 256 → EndsWell (piece_text index width)
ends_piece index width small = go (width == 256)
  where
    go : (full : Bool) → EndsWell (index_text index ++ (if full then [] else codes ".p/" ++ decimal width))
    go true = ends_nil (index_text index) (ends_more _ (three_digits (index % 1000)) (ends_digits (index % 1000)))
    go false = ends_more (index_text index) (codes ".p/" ++ decimal width) (ends_more (codes ".p/") (decimal width) (ends_number width (omega (arith, small))))

pub ends_text : (r : Resource) → IsResource r → EndsWell (path_text r)
ends_text (resource.Tile t) is = ends_more (codes "tile/") _ (ends_more ((48 + t.level) ∷ 47 ∷ []) (piece_text t.index t.width) (ends_piece t.index t.width is.narrow))
ends_text (resource.Entries index width) is = ends_more (codes "tile/entries/") (piece_text index width) (ends_piece index width is.2)
ends_text resource.Checkpoint is = record { front = codes "checkpoin"; byte = 116; whole = refl; above = omega arith; below = omega arith }

pub ends_place : (root : Path) (r : Resource) → IsResource r → EndsWell (place_of root r)
ends_place root r is = ends_more (root ++ 47 ∷ []) (path_text r) (ends_text r is)

-- ---- no path beside is a place

last_is : (a b : Path) (x y : ℕ) → a ++ x ∷ [] ≡ b ++ y ∷ [] → x ≡ y
last_is a b x y same = ap (λ (t : Path). get_or t 0 0) (sym (reversed a x) ∙ ap reverse same ∙ reversed b y)
  where
    reversed : (a : Path) (x : ℕ) → reverse (a ++ x ∷ []) ≡ x ∷ reverse a
    reversed a x = reverse-append a (x ∷ [])

pub beside_no_place : (path place : Path) → EndsWell place → new_path path ≢ place
beside_no_place path place ends same =
    let last : 119 ≡ ends.byte = last_is (path ++ 46 ∷ 110 ∷ 101 ∷ []) ends.front 119 ends.byte (append_assoc path (46 ∷ 110 ∷ 101 ∷ []) (119 ∷ []) ∙ same ∙ ends.whole) in
    absurd (omega (arith, last, ends.below))

-- ---- a place is in a folder

last_at : (front : Path) (byte : ℕ) → slice_index (front ++ byte ∷ []) (length front) ≡ byte
last_at [] byte = refl
last_at (x ∷ front) byte = last_at front byte

no_trail : (n byte : ℕ) (more : Bool) → byte ≢ 47 → byte ≢ 46 → (nat_lt 0 n && (byte == 47 || (byte == 46 && more))) ≡ false
no_trail n byte more slash dot = grind (arith, ne_eqb byte 47 slash, ne_eqb byte 46 dot)

length_last : (front : Path) (byte : ℕ) → length (front ++ byte ∷ []) ≡ suc (length front)
length_last [] byte = refl
length_last (x ∷ front) byte = ap suc (length_last front byte)

trail_none : (front : Path) (byte : ℕ) → 48 ≤ byte → is_trailing (front ++ byte ∷ []) (length front) ≡ false
trail_none front byte high =
    let text : Path = front ++ byte ∷ [] in
    ap (λ (x : ℕ). nat_lt 0 (length front) && (x == 47 || (x == 46 && slice_index text (length front - 1) == 47))) (last_at front byte)
    ∙ no_trail (length front) byte (slice_index text (length front - 1) == 47) (λ e. absurd (omega (arith, e, high))) (λ e. absurd (omega (arith, e, high)))

trimmed_all : (front : Path) (byte : ℕ) → 48 ≤ byte → trimmed_len (front ++ byte ∷ []) (length (front ++ byte ∷ [])) ≡ length (front ++ byte ∷ [])
trimmed_all front byte high =
    let text : Path = front ++ byte ∷ [] in
    ap (λ (n : ℕ). trimmed_len text n) (length_last front byte)
    ∙ ap (λ (b : Bool). if b then trimmed_len text (length front) else suc (length front)) (trail_none front byte high)
    ∙ sym (length_last front byte)

trim_none : (front : Path) (byte : ℕ) → 48 ≤ byte → trim_trailing (front ++ byte ∷ []) ≡ front ++ byte ∷ []
unfolding trim_trailing
trim_none front byte high =
    ap (λ (n : ℕ). take n (front ++ byte ∷ [])) (trimmed_all front byte high) ∙ take-length (front ++ byte ∷ [])

pub false_of : (b : Bool) → (b ≡ true → ⊥) → b ≡ false
false_of true never = absurd (never refl)
false_of false never = refl

some_first : (b : Bool) (split : Path × Path) → b ≡ false → (folder : Path) × (option_map (λ (s : Path × Path). s.0) (if b then None else Some split) ≡ Some folder)
some_first true split is = absurd (cc)
some_first false split is = (split.0, refl)

neither : (b c : Bool) → b ≡ false → c ≡ false → (b || c) ≡ false
neither b c first second = ap (λ (x : Bool). x || c) first ∙ second

not_root : (text : Path) → 1 < length text → (length text == 0 || bytes_eq text root_dir) ≡ false
not_root text long =
    neither (length text == 0) (bytes_eq text root_dir) (ne_eqb (length text) 0 (λ e. absurd (omega (arith, e, long))))
    (false_of (bytes_eq text root_dir) (λ e. let same : length text ≡ 1 = ap length ((bytes_eq-Decides text root_dir).0 e) in absurd (omega (arith, same, long))))

pub has_parent : (path : Path) → EndsWell path → 1 < length path → (folder : Path) × (path_parent path ≡ Some folder)
unfolding path_parent split_last_component
has_parent path ends long =
    let whole : trim_trailing path ≡ path = ap trim_trailing ends.whole ∙ trim_none ends.front ends.byte ends.above ∙ sym ends.whole in
    some_first (length (trim_trailing path) == 0 || bytes_eq (trim_trailing path) root_dir) (parent_and_last (trim_trailing path) (rsplit_once 47 (trim_trailing path)))
    (ap (λ (t : Path). length t == 0 || bytes_eq t root_dir) whole ∙ not_root path long)

long_place : (root text : Path) → EndsWell text → 1 < length (root ++ 47 ∷ [] ++ text)
long_place root text ends =
    let size : length text ≡ length ends.front + 1 = ap length ends.whole ∙ length-append ends.front (ends.byte ∷ []) in
    let all : length (root ++ 47 ∷ [] ++ text) ≡ length root + 1 + length text = length-append (root ++ 47 ∷ []) text ∙ ap (λ (n : ℕ). n + length text) (length-append root (47 ∷ [])) in
    omega (arith, size, all)

pub place_parent : (root : Path) (r : Resource) → IsResource r → (folder : Path) × (path_parent (place_of root r) ≡ Some folder)
place_parent root r is = has_parent (place_of root r) (ends_place root r is) (long_place root (path_text r) (ends_text r is))
