-- Tiles that are kept from one read to the next.
use Rattle.std.proofs.Common.{◌≡◌, ℕ, ◌/◌, ◌^◌, ◌<◌, inl, inr, ◌⊎◌, Bool, true, false, cond, List, [], ◌∷◌, ◌++◌, append_assoc, All, nat_lt, get_or, length, take, drop, Some, ◌+◌, ◌&&◌, ◌==◌, ◌*◌, ◌≤◌, refl, sym, ap, subst, ◌∙◌, arith}
use Rattle.std.specs.Prelude.{vec_items}
use Rattle.std.specs.List.{prefix_len, take_while}
use Rattle.std.specs.declared.vec.Vec.{Vec}
use Rattle.std.proofs.lemmas.Bool.{cases_Bool, le-ltb, lt-ltb, or_parts}
use Rattle.std.proofs.lemmas.List.{append-nil, at_drop_more, take-map}
use Rattle.std.proofs.lemmas.List.Elements.{All-head, All-tail}
use Rattle.std.proofs.lemmas.List.Sums.{take_while-cons}
use Rattle.tl_hash.specs.Bytes.{Digest}
use Rattle.tl_tile.specs.declared.resource.Tile.{Tile}
use Rattle.tl_tile.specs.Fetched.{is_on_path, same_tile, texts_of, tiles_in, tiles_of}
use Rattle.tl_tile.specs.Fetching.{IsPartialOf}
use Rattle.tl_tile.specs.Verified.{AreNext, ComesNext, HavePassed, IsNextPartial}
use Rattle.tl_tile.proofs.Orders.{edge-partial}
use Rattle.tl_tile.proofs.TileTexts.{pow_of_256}

-- the first tiles of a read are in order
next-front : (H : Digest) (size : ℕ) (root : List ℕ) (before xs ys : List (Tile × List ℕ)) → AreNext H size root before (xs ++ ys) → AreNext H size root before xs
next-front H size root before [] ys order = tt
next-front H size root before (x ∷ xs) ys order = (order.0, next-front H size root (before ++ x ∷ []) xs ys order.1)

-- and the one after them comes next
next-at : (H : Digest) (size : ℕ) (root : List ℕ) (before xs ys : List (Tile × List ℕ)) (y : Tile × List ℕ) → AreNext H size root before (xs ++ y ∷ ys) → ComesNext H size root (before ++ xs) y.0
next-at H size root before [] ys y order = subst (λ (list : List (Tile × List ℕ)). ComesNext H size root list y.0) (sym (append-nil before)) order.0
next-at H size root before (x ∷ xs) ys y order =
    subst (λ (list : List (Tile × List ℕ)). ComesNext H size root list y.0) (append_assoc before (x ∷ []) xs) (next-at H size root (before ++ x ∷ []) xs ys y order.1)

-- if the first that pass a test are not all, the next one doesn't pass it
record IsCut {X : Type 0} (p : X → Bool) (xs : List X) : Type 0 where
  next : X
  rest : List X
  joined : xs ≡ take_while p xs ++ next ∷ rest
  fails : p next ≡ false

cut : {X : Type 0} (p : X → Bool) (xs : List X) → (take_while p xs ≡ xs) ⊎ IsCut p xs
cut p [] = inl refl
cut p (x ∷ xs) =
    elim (cases_Bool (p x)) as (λ _. (take_while p (x ∷ xs) ≡ x ∷ xs) ⊎ IsCut p (x ∷ xs)) [
      | inr fails ↦
          let none : take_while p (x ∷ xs) ≡ [] = take_while-cons p x xs ∙ ap (λ (b : Bool). cond b (x ∷ take_while p xs) []) fails in
          inr (record { next = x; rest = xs; joined = ap (λ list. list ++ x ∷ xs) (sym none); fails = fails })
      | inl passes ↦
          let more : take_while p (x ∷ xs) ≡ x ∷ take_while p xs = take_while-cons p x xs ∙ ap (λ (b : Bool). cond b (x ∷ take_while p xs) []) passes in
          elim (cut p xs) as (λ _. (take_while p (x ∷ xs) ≡ x ∷ xs) ⊎ IsCut p (x ∷ xs)) [
            | inl all ↦ inl (more ∙ ap (λ list. x ∷ list) all)
            | inr at ↦
                inr (record {
                  next = at.next;
                  rest = at.rest;
                  joined = ap (λ list. x ∷ list) at.joined ∙ ap (λ list. list ++ at.next ∷ at.rest) (sym more);
                  fails = at.fails;
                })
          ]
    ]

all-back : {X : Type 0} (P : X → Type 0) (xs ys : List X) → All P (xs ++ ys) → All P ys
all-back P [] ys all = all
all-back P (x ∷ xs) ys all = all-back P xs ys (All-tail P x (xs ++ ys) all)

-- the next of the partial tiles is on each path
partial-on_path : (index size : ℕ) (before : List (Tile × List ℕ)) (t : Tile) → IsNextPartial size before t → is_on_path index t ≡ false → ⊥
partial-on_path index size before t (rest, are) off =
    let all : All (IsPartialOf size) (t ∷ rest) = all-back (IsPartialOf size) (tiles_in before) (t ∷ rest) (subst (All (IsPartialOf size)) are (edge-partial size)) in
    let is = (All-head (IsPartialOf size) t rest all).0 in
    let narrow : t.width < 256 = omega (arith, ap (λ (x : Tile). x.width) is) in
    let wide = (or_parts (nat_lt t.width 256) (nat_lt t.level 8 && index / 256 ^ t.level / 256 == t.index) off).0 in
    let both : true ≡ false = sym (lt-ltb t.width 256 narrow) ∙ wide in
    absurd (cc)

-- what is kept of tiles that passed did, too
pub path-passed : (H : Digest) (size : ℕ) (root : List ℕ) (index : ℕ) (old : List (Tile × List ℕ)) → HavePassed H size root old
    → HavePassed H size root (take_while (λ f. is_on_path index f.0) old)
path-passed H size root index old before =
    let on : Tile × List ℕ → Bool = λ f. is_on_path index f.0 in
    let front : List (Tile × List ℕ) = take_while on old in
    elim (cut on old) as (λ _. HavePassed H size root front) [
      | inl all ↦ subst (HavePassed H size root) (sym all) before
      | inr at ↦
          let order : AreNext H size root [] (front ++ at.next ∷ at.rest) = subst (AreNext H size root []) at.joined before.order in
          elim (next-at H size root [] front at.rest at.next order).next as (λ _. HavePassed H size root front) [
            | inl partial ↦ absurd (partial-on_path index size front at.next.0 partial at.fails)
            | inr full ↦ record { order = next-front H size root [] front (at.next ∷ at.rest) order; passed = inr full.passed }
          ]
    ]

-- in the words of the code, which shifts the index
pub on_path-full : (index : ℕ) (t : Tile) → 256 ≤ t.width → t.level < 8 → is_on_path index t ≡ (index / 2 ^ (8 * t.level) / 256 == t.index)
on_path-full index t wide low =
    let eights : t.level * 8 ≡ 8 * t.level = omega arith in
    let power : 256 ^ t.level ≡ 2 ^ (8 * t.level) = pow_of_256 t.level ∙ ap (λ (x : ℕ). 2 ^ x) eights in
    rw (le-ltb t.width 256 wide, lt-ltb t.level 8 low) (ap (λ (x : ℕ). index / x / 256 == t.index) power)

-- and lets the others go
pub path-kept : {A : Type 0} (index count : ℕ) (items after : List (Tile × Vec ℕ A)) → count ≡ prefix_len (λ f. is_on_path index f.0) (texts_of items) → after ≡ take count items
    → texts_of after ≡ take_while (λ f. is_on_path index f.0) (texts_of items)
path-kept index count items after many cut_at =
    ap texts_of cut_at ∙ sym (take-map (λ t. (t.0, vec_items t.1)) count items) ∙ ap (λ (n : ℕ). take n (texts_of items)) many

-- ---- as the code goes over tiles

-- the front of the tiles that are left, with its text
texts-front : {A : Type 0} (tiles : List (Tile × Vec ℕ A)) (i : ℕ) (t : Tile × Vec ℕ A) → i < length tiles → t ≡ get_or tiles i t
    → texts_of (drop i tiles) ≡ (t.0, vec_items t.1) ∷ texts_of (drop (i + 1) tiles)
texts-front tiles i t less is = at_drop_more texts_of tiles i t less ∙ ap (λ x. (x.0, vec_items x.1) ∷ texts_of (drop (i + 1) tiles)) (sym is)

-- another tile than the one that is looked for
pub text-later : {A : Type 0} (tiles : List (Tile × Vec ℕ A)) (i : ℕ) (t : Tile × Vec ℕ A) (tile : Tile) → i < length tiles → t ≡ get_or tiles i t → same_tile t.0 tile ≡ false
    → tiles_of (texts_of tiles) tile ≡ tiles_of (texts_of (drop i tiles)) tile → tiles_of (texts_of tiles) tile ≡ tiles_of (texts_of (drop (i + 1) tiles)) tile
text-later tiles i t tile less is differ so_far =
    so_far ∙ ap (λ list. tiles_of list tile) (texts-front tiles i t less is)
    ∙ ap (λ (b : Bool). cond b (Some (vec_items t.1)) (tiles_of (texts_of (drop (i + 1) tiles)) tile)) differ

-- and that tile
pub text-here : {A : Type 0} (tiles : List (Tile × Vec ℕ A)) (i : ℕ) (t : Tile × Vec ℕ A) (tile : Tile) (text : List ℕ) → i < length tiles → t ≡ get_or tiles i t → same_tile t.0 tile ≡ true
    → text ≡ vec_items t.1 → tiles_of (texts_of tiles) tile ≡ tiles_of (texts_of (drop i tiles)) tile → tiles_of (texts_of tiles) tile ≡ Some text
text-here tiles i t tile text less is same text_is so_far =
    so_far ∙ ap (λ list. tiles_of list tile) (texts-front tiles i t less is)
    ∙ ap (λ (b : Bool). cond b (Some (vec_items t.1)) (tiles_of (texts_of (drop (i + 1) tiles)) tile)) same
    ∙ ap (λ (x : List ℕ). Some x) (sym text_is)

-- one more on the path
pub path-later : {A : Type 0} (index count : ℕ) (tiles : List (Tile × Vec ℕ A)) (i : ℕ) (t : Tile × Vec ℕ A) → i < length tiles → t ≡ get_or tiles i t → is_on_path index t.0 ≡ true
    → prefix_len (λ f. is_on_path index f.0) (texts_of tiles) ≡ count + prefix_len (λ f. is_on_path index f.0) (texts_of (drop i tiles))
    → prefix_len (λ f. is_on_path index f.0) (texts_of tiles) ≡ count + 1 + prefix_len (λ f. is_on_path index f.0) (texts_of (drop (i + 1) tiles))
path-later index count tiles i t less is on so_far =
    let many : List (Tile × List ℕ) → ℕ = prefix_len (λ f. is_on_path index f.0) in
    let more : many (texts_of (drop i tiles)) ≡ 1 + many (texts_of (drop (i + 1) tiles)) =
    ap many (texts-front tiles i t less is) ∙ ap (λ (b : Bool). cond b (1 + many (texts_of (drop (i + 1) tiles))) 0) on in
    omega (arith, so_far, more)

-- and the first that is not
pub path-end : {A : Type 0} (index count : ℕ) (tiles : List (Tile × Vec ℕ A)) (i : ℕ) (t : Tile × Vec ℕ A) → i < length tiles → t ≡ get_or tiles i t → is_on_path index t.0 ≡ false
    → prefix_len (λ f. is_on_path index f.0) (texts_of tiles) ≡ count + prefix_len (λ f. is_on_path index f.0) (texts_of (drop i tiles))
    → count ≡ prefix_len (λ f. is_on_path index f.0) (texts_of tiles)
path-end index count tiles i t less is off so_far =
    let many : List (Tile × List ℕ) → ℕ = prefix_len (λ f. is_on_path index f.0) in
    let none : many (texts_of (drop i tiles)) ≡ 0 =
    ap many (texts-front tiles i t less is) ∙ ap (λ (b : Bool). cond b (1 + many (texts_of (drop (i + 1) tiles))) 0) off in
    omega (arith, so_far, none)
