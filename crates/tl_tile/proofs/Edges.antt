-- The hashes of the partial tiles are right, once they fold to the root.
use Rattle.std.proofs.Common.{◌≡◌, ℕ, suc, ◌+◌, ◌-◌, ◌*◌, ◌/◌, ◌%◌, ◌^◌, ◌<◌, ◌≤◌, ◌⊎◌, inl, inr, List, length, take, drop, Some, Contains, refl, sym, ap, subst, ◌∙◌, arith}
use Rattle.std.specs.Prelude.{unwrap_or}
use Rattle.std.proofs.Math.Nat.{pow-succ', div-mul-le_self}
use Rattle.std.proofs.lemmas.Nat.{pow-add, le-div}
use Rattle.std.proofs.lemmas.Bool.{cases_lt, cases_order}
use Rattle.tl_hash.specs.Bytes.{Digest}
use Rattle.tl_hash.specs.Tree.{tree_hash, inputs}
use Rattle.tl_tile.proofs.Segments.{HasHashLength, segment, power_of_256, scaled_le, segment-all}
use Rattle.tl_hash.proofs.SameSize.{Collision}
use Rattle.tl_tile.specs.TileText.{level_count, entries_under, partial_tile}
use Rattle.tl_tile.specs.Folds.{Tiles, IsHashAt, IsOnEdge, IsEdgeHash, IsEdgeRoot, IsFolded, TilesCollide}
pub use Rattle.tl_tile.proofs.Levels.{positive_256}
use Rattle.tl_tile.proofs.Walks.{IsTarget, walk}

pub Some-injective : {A : Type 0} (p q : A) → Some p ≡ Some q → p ≡ q
Some-injective p q e = ap (λ o. unwrap_or o p) e

-- one text, one hash at a number
pub IsHashAt-one : (text : List ℕ) (n : ℕ) (h g : List ℕ) → IsHashAt text n h → IsHashAt text n g → h ≡ g
IsHashAt-one text n h g is is_too = is.bytes ∙ sym is_too.bytes

-- a higher level has a multiple of 256 times as many entries under a hash
pub higher_level : (level other : ℕ) → level < other → (m : ℕ) × (256 ^ other ≡ m * 256 * 256 ^ level) × (0 < m)
higher_level level other less =
    let d : ℕ = other - level - 1 in
    let sum : other ≡ d + suc level = omega (arith, less) in
    (256 ^ d, ap (λ (x : ℕ). 256 ^ x) sum ∙ pow-add 256 d (suc level) ∙ ap (λ (x : ℕ). 256 ^ d * x) (pow-succ' 256 level) ∙ omega arith, positive_256 d)

pub same_level : (level other : ℕ) → 256 ^ level ≡ 256 ^ other → level ≡ other
same_level level other same =
    elim (cases_order level other) as (λ _. level ≡ other) [
      | inl equal ↦ equal
      | inr (inl less) ↦
          let h = higher_level level other less in
          let m : 1 * 256 ^ level ≤ h.0 * 256 ^ level = scaled_le 1 h.0 (256 ^ level) h.2 in
          absurd (omega (arith, same, h.1, m, positive_256 level))
      | inr (inr more) ↦
          let h = higher_level other level more in
          let m : 1 * 256 ^ other ≤ h.0 * 256 ^ other = scaled_le 1 h.0 (256 ^ other) h.2 in
          absurd (omega (arith, same, h.1, m, positive_256 other))
    ]

pub same_factor : (a b u : ℕ) → 0 < u → a * u ≡ b * u → a ≡ b
same_factor a b u some same =
    elim (cases_order a b) as (λ _. a ≡ b) [
      | inl equal ↦ equal
      | inr (inl less) ↦ (let m : (a + 1) * u ≤ b * u = scaled_le (a + 1) b u (omega (arith, less)) in absurd (omega (arith, m, same, some)))
      | inr (inr more) ↦ (let m : (b + 1) * u ≤ a * u = scaled_le (b + 1) a u (omega (arith, more)) in absurd (omega (arith, m, same, some)))
    ]

-- the entries under a hash of a level are all there
pub under_within : (size level place : ℕ) → place < level_count size level → (place + 1) * 256 ^ level ≤ size
under_within size level place less =
    let m : (place + 1) * 256 ^ level ≤ size / 256 ^ level * 256 ^ level = scaled_le (place + 1) (size / 256 ^ level) (256 ^ level) (omega (arith, less)) in
    omega (arith, m, div-mul-le_self size (256 ^ level))

-- no hash of a higher level is over entries that a partial tile has hashes of
pub nothing_above : (size level place other place_above : ℕ) → IsOnEdge size level place → 256 ^ level < 256 ^ other → place_above < level_count size other
    → place * 256 ^ level < place_above * 256 ^ other + 256 ^ other → ⊥
nothing_above size level place other place_above on_edge more there covers =
    elim (cases_lt level other) as (λ _. ⊥) [
      | inr below ↦
          elim (cases_lt other level) as (λ _. ⊥) [
            | inl less ↦ (let h = higher_level other level less in
                let m : 1 * 256 ^ other ≤ h.0 * 256 ^ other = scaled_le 1 h.0 (256 ^ other) h.2 in
                omega (arith, h.1, m, more))
            | inr same ↦ (let e : level ≡ other = omega (arith, below, same) in omega (arith, more, ap (λ (x : ℕ). 256 ^ x) e))
          ]
      | inl less ↦
          let h = higher_level level other less in
          let u : ℕ = 256 ^ level in
          let p : ℕ = place_above + 1 in
          let within : p * 256 ^ other ≤ size = under_within size other place_above there in
          let product : p * 256 ^ other ≡ p * h.0 * 256 * u = ap (λ (x : ℕ). p * x) h.1 ∙ omega arith in
          let count : p * h.0 * 256 ≤ size / u = le-div (p * h.0 * 256) size u (positive_256 level) (omega (arith, within, product)) in
          let tiles : p * h.0 ≤ size / u / 256 = le-div (p * h.0) (size / u) 256 (omega arith) count in
          let ends : p * h.0 * 256 ≤ place = omega (arith, tiles, on_edge.0) in
          let past : p * h.0 * 256 * u ≤ place * u = scaled_le (p * h.0 * 256) place u ends in
          omega (arith, past, product, covers)
    ]

-- a hash of a partial tile is a place that the walk from the root can go to
pub edge_target : (tiles : Tiles) (size level place : ℕ) (text hash_there : List ℕ) → IsOnEdge size level place → tiles (partial_tile size level) ≡ Some text → IsHashAt text (place % 256) hash_there
    → IsTarget (IsEdgeHash tiles size) (place * 256 ^ level) (256 ^ level) hash_there
edge_target tiles size level place text hash_there on_edge fetched is = record {
  power = power_of_256 level;
  is_given = record { level = level; place = place; text = text; starts = refl; counts = refl; on_edge = on_edge; fetched = fetched; there = is };
  only = λ h other.
      let level_same : other.level ≡ level = same_level other.level level (sym other.counts) in
      let starts : place * 256 ^ level ≡ other.place * 256 ^ level = other.starts ∙ ap (λ (x : ℕ). other.place * 256 ^ x) level_same in
      let place_same : other.place ≡ place = sym (same_factor place other.place (256 ^ level) (positive_256 level) starts) in
      let text_same : other.text ≡ text = Some-injective other.text text (sym other.fetched ∙ ap (λ (x : ℕ). tiles (partial_tile size x)) level_same ∙ fetched) in
      other.there.bytes ∙ (λ i. take 32 (drop (32 * (place_same i % 256)) (text_same i))) ∙ sym is.bytes;
  clear = λ s c h more low high other.
      nothing_above size level place other.level other.place on_edge (omega (arith, more, other.counts)) other.on_edge.1
      (omega (arith, high, other.starts, other.counts));
  widths = λ s c h other. other.there.whole;
}

-- a collision of a fold with a list is one of the tiles with it
pub tiles_collide : (H : Digest) (tiles : Tiles) (size : ℕ) (entries part strings : List (List ℕ))
    → ((x : List ℕ) → Contains strings x → IsFolded H tiles size x) → ((x : List ℕ) → Contains (inputs H part) x → Contains (inputs H entries) x)
    → Collision H strings (inputs H part) → TilesCollide H tiles size entries
tiles_collide H tiles size entries part strings folded among (x, y, found) = record {
  x = y;
  y = x;
  input = among y found.second;
  folded = folded x found.first;
  differ = λ e. found.differ (sym e);
  same_digest = sym found.same_digest;
}

pub edge_right : (H : Digest) → ((message : List ℕ) → HasHashLength (H message)) → (tiles : Tiles) (size : ℕ) (root : List ℕ) (strings : List (List ℕ)) → IsEdgeRoot H tiles size root strings
    → (entries : List (List ℕ)) → length entries ≡ size → tree_hash H entries ≡ root
    → (level place : ℕ) (text hash_there : List ℕ) → IsOnEdge size level place → tiles (partial_tile size level) ≡ Some text → IsHashAt text (place % 256) hash_there
    → (hash_there ≡ tree_hash H (entries_under level place entries)) ⊎ TilesCollide H tiles size entries
edge_right H wide tiles size root strings folds entries len is_root level place text hash_there on_edge fetched is =
    let u : ℕ = 256 ^ level in
    let all : segment 1 0 size entries ≡ entries = segment-all 1 size entries (omega (arith, len)) in
    let within : (place + 1) * u ≤ size = under_within size level place on_edge.1 in
    let here : segment 1 (place * u) u entries ≡ entries_under level place entries =
    (let a : u * 1 ≡ u = omega arith in let b : place * u * 1 ≡ place * u = omega arith in λ i. take (a i) (drop (b i) entries)) in
    elim (walk H (IsEdgeHash tiles size) wide 1 (0, refl) entries (place * u) u hash_there (edge_target tiles size level place text hash_there on_edge fetched is)
    0 size root strings folds (omega (arith, len)) (sym is_root ∙ ap (tree_hash H) (sym all)) place (omega arith) (omega (arith, within)))
    as (λ _. (hash_there ≡ tree_hash H (entries_under level place entries)) ⊎ TilesCollide H tiles size entries) [
      | inl same ↦ inl (same ∙ ap (tree_hash H) here)
      | inr found ↦ inr (tiles_collide H tiles size entries (segment 1 0 size entries) strings
          (λ x among. inl (record { root = root; strings = strings; folds = folds; among = among }))
          (λ x among. subst (λ (list : List (List ℕ)). Contains (inputs H list) x) all among)
          found)
    ]
