-- Fetching the partial tiles, from the highest level down.
use Rattle.std.proofs.Common.{◌≡◌, ℕ, suc, ◌*◌, ◌/◌, ◌^◌, ◌+◌, ◌%◌, ◌<◌, ◌≤◌, inl, inr, List, [], ◌∷◌, ◌++◌, length, None, refl, sym, ap, subst, ◌∙◌, arith}
use Rattle.std.proofs.lemmas.Bool.{cases_eq, cases_lt}
use Rattle.std.proofs.lemmas.List.{append-nil, map-append}
use Rattle.tl_tile.specs.declared.resource.Tile.{Tile}
use Rattle.tl_tile.specs.TileText.{level_count, full_tile, partial_tile}
use Rattle.tl_tile.specs.Folds.{IsEdgeRoot}
use Rattle.tl_tile.specs.FetchedEdge.{IsEdgeLevel}
use Rattle.tl_tile.specs.Fetched.{tiles_of, tiles_in}
use Rattle.tl_tile.specs.Source.{AreLong}
use Rattle.tl_tile.specs.Fetching.{edge_tiles}
use Rattle.tl_tile.specs.Verified.{AreVerified}
use Rattle.tl_tile.specs.Inner.Steps.{AreEdgeFrom, AddsOnly}
use Rattle.std.proofs.Math.Nat.{pow-succ', div-mul-le_self}
use Rattle.std.proofs.Math.Pow.{pow_mono}
use Rattle.std.proofs.lemmas.Nat.{div-mul-add, le-div, mul-le, pow-add}
use Rattle.tl_hash.specs.Bytes.{Digest}
use Rattle.tl_tile.proofs.TileTexts.{pow_of_256}
use Rattle.tl_tile.proofs.Edges.{positive_256}
use Rattle.tl_tile.proofs.Push.{cases_option, tiles_of-old, tiles_of-cases, there-more}
use Rattle.tl_tile.proofs.Orders.{edge-skipped, edge-next, edge-prefix}

-- a level without a partial tile
pub edge-skip : (size level : ℕ) (xs : List (Tile × List ℕ)) (tile : Tile) → level ≤ 7 → tile ≡ partial_tile size level → tile.width ≡ 0 → AreEdgeFrom size (level + 1) xs → AreEdgeFrom size level xs
edge-skip size level xs tile low_level is none before =
    let width : level_count size level % 256 ≡ 0 = ap (λ (t : Tile). t.width) (sym is) ∙ none in
    record {
      tiles = before.tiles ∙ sym (edge-skipped size level low_level width);
      long = before.long;
      partial = λ t text found. (let at = before.partial t text found in (at.0, omega (arith, at.1)));
      edge = λ l high low wide.
          elim (cases_eq l level) as (λ _. (text : List ℕ) × IsEdgeLevel (tiles_of xs) size l text) [
            | inl same ↦ absurd (omega (arith, wide, width, ap (λ (x : ℕ). level_count size x % 256) same))
            | inr differ ↦ before.edge l (omega (arith, high, differ)) low wide
          ];
    }

-- a level with one
pub edge-push : (size level : ℕ) (xs ys : List (Tile × List ℕ)) (tile : Tile) (text : List ℕ) → level ≤ 7 → tile ≡ partial_tile size level → 0 < tile.width → length text ≡ 32 * tile.width
    → ys ≡ xs ++ (tile, text) ∷ [] → AreEdgeFrom size (level + 1) xs → AreEdgeFrom size level ys
edge-push size level xs ys tile text low_level is some long pushed before =
    let f : Tile × List ℕ = (tile, text) in
    let width : tile.width ≡ level_count size level % 256 = ap (λ (t : Tile). t.width) is in
    let height : tile.level ≡ level = ap (λ (t : Tile). t.level) is in
    let more : List (Tile × List ℕ) = xs ++ f ∷ [] in
    let view : Tile × List ℕ → Tile = λ x. x.0 in
    let long_more : AreLong (tiles_of more) =
    (λ t seen found. elim (tiles_of-cases xs f t seen found) as (λ _. length seen ≡ 32 * t.width) [
      | inl same ↦ before.long t seen same
      | inr here ↦ sym (ap length here.1) ∙ long ∙ ap (λ (x : Tile). 32 * x.width) here.0
    ]) in
    subst (AreEdgeFrom size level) (sym pushed) (record {
      tiles = map-append view xs (f ∷ []) ∙ (λ i. before.tiles i ++ is i ∷ []) ∙ sym (edge-next size level low_level (omega (arith, some, width)));
      long = long_more;
      partial = λ t seen found. elim (tiles_of-cases xs f t seen found) as (λ _. (t.width < 256) × (level ≤ t.level)) [
        | inl same ↦ (let at = before.partial t seen same in (at.0, omega (arith, at.1)))
        | inr here ↦ (omega (arith, width, ap (λ (x : Tile). x.width) here.0), omega (arith, height, ap (λ (x : Tile). x.level) here.0))
      ];
      edge = λ l high low wide.
          elim (cases_eq l level) as (λ _. (seen : List ℕ) × IsEdgeLevel (tiles_of more) size l seen) [
            | inl same ↦
                let there = there-more xs more f (partial_tile size l) refl (is ∙ ap (partial_tile size) (sym same)) in
                (there.0, record { fetched = there.1; long = long_more (partial_tile size l) there.0 there.1 })
            | inr differ ↦
                let e = before.edge l (omega (arith, high, differ)) low wide in
                (e.0, record { fetched = tiles_of-old xs f (partial_tile size l) e.0 e.1.fetched; long = e.1.long })
          ];
    })

-- the tile of a level isn't there before it is fetched
pub edge-new : (size level : ℕ) (xs : List (Tile × List ℕ)) (tile : Tile) → tile ≡ partial_tile size level → AreEdgeFrom size (level + 1) xs → tiles_of xs tile ≡ None
edge-new size level xs tile is before =
    elim (cases_option (tiles_of xs tile)) as (λ _. tiles_of xs tile ≡ None) [
      | inl none ↦ none
      | inr (text, found) ↦ absurd (omega (arith, (before.partial tile text found).1, ap (λ (t : Tile). t.level) is))
    ]

-- those fetched are the first of the partial tiles, also after a fault
pub edge-first : (may_answer : Tile → List ℕ → Type 0) (H : Digest) (root : List ℕ) (size level : ℕ) (xs ys : List (Tile × List ℕ)) (tile : Tile) → level ≤ 7 → tile ≡ partial_tile size level → 0 < tile.width
    → AreEdgeFrom size (level + 1) xs → AddsOnly may_answer H size root tile xs ys
    → (rest : List Tile) × (edge_tiles size ≡ tiles_in ys ++ rest)
edge-first may_answer H root size level xs ys tile low is some before (inl same) =
    edge-prefix size (level + 1) ys (omega (arith, low)) (ap tiles_in same ∙ before.tiles)
edge-first may_answer H root size level xs ys tile low is some before (inr (text, pushed, answer, next)) =
    let view : Tile × List ℕ → Tile = λ x. x.0 in
    let width : 0 < level_count size level % 256 = omega (arith, some, ap (λ (t : Tile). t.width) is) in
    edge-prefix size level ys (omega (arith, low))
    (ap tiles_in pushed ∙ map-append view xs ((tile, text) ∷ []) ∙ (λ i. before.tiles i ++ is i ∷ []) ∙ sym (edge-next size level low width))

-- all partial tiles, which fold to the root
pub edge-all : (H : Digest) (size : ℕ) (root folded : List ℕ) (xs : List (Tile × List ℕ)) → AreEdgeFrom size 0 xs
    → ((strings : List (List ℕ)) × IsEdgeRoot H (tiles_of xs) size folded strings) → folded ≡ root → AreVerified H size root xs
edge-all H size root folded xs edge (strings, fold) same = record {
  first = ([], edge.tiles ∙ sym (append-nil (edge_tiles size)));
  long = edge.long;
  edge = λ l low wide. edge.edge l (omega arith) low wide;
  checked = record {
    strings = strings;
    folds = subst (λ (x : List ℕ). IsEdgeRoot H (tiles_of xs) size x strings) same fold;
    full = λ l i text less found. absurd (omega (arith, (edge.partial (full_tile l i) text found).0));
  };
}

-- no level above the highest partial tile has a hash
pub none_above : (size j level : ℕ) → size < 2 * 2 ^ j → j / 8 < level → level_count size level % 256 ≡ 0
none_above size j level small above =
    let power : 256 ^ level ≡ 2 ^ (level * 8) = pow_of_256 level in
    let most : 2 ^ suc j ≤ 2 ^ (level * 8) = pow_mono (omega (arith, above)) in
    let less : size < 256 ^ level = omega (arith, small, pow-succ' 2 j, most, power) in
    let sum : size ≡ 0 * 256 ^ level + size = omega arith in
    ap (λ (x : ℕ). x % 256) (ap (λ (x : ℕ). x / 256 ^ level) sum ∙ div-mul-add 0 (256 ^ level) size less)

count_below_256 : (size u : ℕ) → 0 < u → size < u * 256 → size / u < 256
count_below_256 size u positive less =
    elim (cases_lt (size / u) 256) as (λ _. size / u < 256) [
      | inl below ↦ below
      | inr above ↦ absurd (omega (arith, less, div-mul-le_self size u, mul-le 256 u (size / u) u above (omega arith)))
    ]

-- and that level has one
pub some_highest : (size j : ℕ) → 2 ^ j ≤ size → size < 2 * 2 ^ j → 0 < level_count size (j / 8) % 256
some_highest size j large small =
    let level : ℕ = j / 8 in
    let u : ℕ = 256 ^ level in
    let power : u ≡ 2 ^ (level * 8) = pow_of_256 level in
    let least : 2 ^ (level * 8) ≤ 2 ^ j = pow_mono (omega arith) in
    let most : 2 ^ suc j ≤ 2 ^ (level * 8 + 8) = pow_mono (omega arith) in
    let next : 2 ^ (level * 8 + 8) ≡ 2 ^ (level * 8) * 256 = pow-add 2 (level * 8) 8 in
    let one : 1 ≤ size / u = le-div 1 size u (positive_256 level) (omega (arith, large, least, power)) in
    let few : size / u < 256 = count_below_256 size u (positive_256 level) (omega (arith, small, pow-succ' 2 j, most, next, power)) in
    omega (arith, one, few)
