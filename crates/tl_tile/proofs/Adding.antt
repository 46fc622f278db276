-- Entries that are added to a right edge.
use Rattle.std.proofs.Common.{◌≡◌, ℕ, ◌+◌, ◌-◌, ◌<◌, ◌^◌, ◌≤◌, List, [], ◌∷◌, ◌++◌, append_assoc, append-nil, length, take, sym, ap, subst, ◌∙◌, arith}
use Rattle.std.specs.List.{flat_map, range_with_len}
use Rattle.std.proofs.lemmas.Grind.{flat_map-append}
use Rattle.std.proofs.lemmas.List.{length-append, take-append-le, take_all}
use Rattle.std.proofs.lemmas.List.Folds.{flat_map-map}
use Rattle.tl_hash.specs.Bytes.{Bytes, Digest}
use Rattle.tl_store.proofs.Counts.{range-append}
use Rattle.tl_tile.specs.declared.resource.Tile.{Tile}
use Rattle.tl_tile.specs.RightEdge.{EdgeContents, IsEdgeOf, hashes_below, shown_filled, shown_since}
use Rattle.tl_tile.specs.Inner.Adds.{Adds}
use Rattle.tl_tile.proofs.Fills.{map_same}

-- the tiles that the n-th entry fills
abbrev filled_at : Digest → List Bytes → ℕ → List (Tile × Bytes)
filled_at H entries n = shown_filled H (take n entries)

-- pieces that are the same one by one are the same together
joined_same : {X : Type 0} (f g : ℕ → List X) (a n : ℕ) → ((i : ℕ) → a ≤ i → i < a + n → f i ≡ g i)
    → flat_map f (range_with_len a n) ≡ flat_map g (range_with_len a n)
joined_same f g a n same =
    let whole = λ (piece : List _). piece in
    sym (flat_map-map whole f (range_with_len a n))
    ∙ ap (flat_map whole) (map_same f g a n same)
    ∙ flat_map-map whole g (range_with_len a n)

-- of one entry they are those that it fills
pub since-one : (H : Digest) (entries : List Bytes) (entry : Bytes)
    → shown_since H (length entries) (entries ++ entry ∷ []) ≡ shown_filled H (entries ++ entry ∷ [])
since-one H entries entry =
    let all : List Bytes = entries ++ entry ∷ [] in
    let more : length all ≡ length entries + 1 = length-append entries (entry ∷ []) in
    let one : length all - length entries ≡ 1 = omega (arith, more) in
    ap (λ n. flat_map (filled_at H all) (range_with_len (length entries + 1) n)) one
    ∙ append-nil (filled_at H all (length entries + 1))
    ∙ ap (shown_filled H) (take_all (length entries + 1) all (omega (arith, more)))

-- those of some entries, and then of more
pub since-then : (H : Digest) (entries a b : List Bytes)
    → shown_since H (length entries) (entries ++ a) ++ shown_since H (length (entries ++ a)) ((entries ++ a) ++ b)
    ≡ shown_since H (length entries) (entries ++ (a ++ b))
since-then H entries a b =
    let front : List Bytes = entries ++ a in
    let all : List Bytes = front ++ b in
    let start : ℕ = length entries + 1 in
    let first : ℕ = length front - length entries in
    let second : ℕ = length all - length front in
    let fronts : length front ≡ length entries + length a = length-append entries a in
    let alls : length all ≡ length front + length b = length-append front b in
    let seam : start + first ≡ length front + 1 = omega (arith, fronts) in
    let count : first + second ≡ length all - length entries = omega (arith, fronts, alls) in
    let same : flat_map (filled_at H front) (range_with_len start first) ≡ flat_map (filled_at H all) (range_with_len start first) =
    joined_same (filled_at H front) (filled_at H all) start first (λ i low high. ap (shown_filled H) (sym (take-append-le i front b (omega (arith, high, seam))))) in
    ap (λ tiles. tiles ++ flat_map (filled_at H all) (range_with_len (length front + 1) second)) same
    ∙ ap (λ from. flat_map (filled_at H all) (range_with_len start first) ++ flat_map (filled_at H all) (range_with_len from second)) (sym seam)
    ∙ sym (flat_map-append (filled_at H all) (range_with_len start first) (range_with_len (start + first) second))
    ∙ ap (flat_map (filled_at H all)) (sym (range-append start first second))
    ∙ ap (λ n. flat_map (filled_at H all) (range_with_len start n)) count
    ∙ ap (shown_since H (length entries)) (append_assoc entries a b)

-- the edge with more entries
pub edge-more : (H : Digest) (entries added : List Bytes) (old new : EdgeContents)
    → new.size ≡ old.size + length added
    → old.size + length added < 2 ^ 32
    → new.kept ≡ hashes_below H (entries ++ added) 8
    → IsEdgeOf old H entries → IsEdgeOf new H (entries ++ added)
edge-more H entries added old new size small kept is =
    let more : length (entries ++ added) ≡ new.size = omega (arith, length-append entries added, is.0, size) in
    (more, omega (arith, more, size, small), kept)

-- one entry
pub adds-one : (H : Digest) (entry : Bytes) (old new : EdgeContents) (before now filled : List (Tile × Bytes))
    → new.size ≡ old.size + 1
    → old.size + 1 < 2 ^ 32
    → ((entries : List Bytes) → IsEdgeOf old H entries → new.kept ≡ hashes_below H (entries ++ entry ∷ []) 8)
    → ((entries : List Bytes) → IsEdgeOf old H entries → filled ≡ shown_filled H (entries ++ entry ∷ []))
    → now ≡ before ++ filled
    → Adds H (entry ∷ []) old new before now
adds-one H entry old new before now filled size small kept fills pushed = record {
  size = size;
  edge = λ entries is. edge-more H entries (entry ∷ []) old new size small (kept entries is) is;
  tiles = λ entries is. pushed ∙ ap (λ tiles. before ++ tiles) (fills entries is ∙ sym (since-one H entries entry));
}

-- some entries, and then more
pub adds-then : (H : Digest) (a b : List Bytes) (old mid new : EdgeContents) (before between now : List (Tile × Bytes))
    → Adds H a old mid before between → Adds H b mid new between now → Adds H (a ++ b) old new before now
adds-then H a b old mid new before between now first second = record {
  size = omega (arith, first.size, second.size, length-append a b);
  edge = λ entries is. subst (IsEdgeOf new H) (append_assoc entries a b) (second.edge (entries ++ a) (first.edge entries is));
  tiles = λ entries is.
      second.tiles (entries ++ a) (first.edge entries is)
      ∙ ap (λ tiles. tiles ++ shown_since H (length (entries ++ a)) ((entries ++ a) ++ b)) (first.tiles entries is)
      ∙ append_assoc before (shown_since H (length entries) (entries ++ a)) (shown_since H (length (entries ++ a)) ((entries ++ a) ++ b))
      ∙ ap (λ tiles. before ++ tiles) (since-then H entries a b);
}
