-- Resources of a size, one after the other.
use Rattle.std.proofs.Common.{◌≡◌, ℕ, zero, suc, ◌+◌, ◌-◌, ◌*◌, ◌/◌, ◌^◌, ◌≤◌, List, [], ◌∷◌, ◌++◌, map, sym, ap, ◌∙◌, append_assoc, arith}
use Rattle.std.specs.List.{flat_map, range_with_len}
use Rattle.std.proofs.Math.Nat.{pow-succ', div-div-eq-div-mul}
use Rattle.std.proofs.lemmas.List.{append-nil}
use Rattle.std.proofs.lemmas.Grind.{flat_map-append}
use Rattle.std.proofs.lemmas.List.FromFn.{map-range_with_len_more}
use Rattle.tl_tile.specs.declared.resource.Resource.{Resource}
use Rattle.tl_tile.specs.TileText.{level_count}
use Rattle.tl_tile.specs.Needed.{tile_at, pieces_since, needed_resources_since}
use Rattle.tl_tile.specs.declared.resource.Resource.TheVariants as resource

-- the full ones from a place on, this many
abbrev pub full_pieces : (ℕ → ℕ → Resource) → ℕ → ℕ → List Resource
full_pieces piece first n = map (λ index. piece index 256) (range_with_len first n)

-- one more of them
pub full_more : (piece : ℕ → ℕ → Resource) (first index : ℕ) (old before after : List Resource) → first ≤ index
    → before ≡ old ++ full_pieces piece first (index - first) → after ≡ before ++ piece index 256 ∷ []
    → after ≡ old ++ full_pieces piece first (index + 1 - first)
full_more piece first index old before after le so_far pushed =
    let n : ℕ = index - first in
    let next : index + 1 - first ≡ n + 1 = omega (arith, le) in
    pushed ∙ ap (λ (t : List Resource). t ++ piece index 256 ∷ []) so_far ∙ append_assoc old (full_pieces piece first n) (piece index 256 ∷ [])
    ∙ ap (λ (t : List Resource). old ++ t) (sym (map-range_with_len_more (λ index. piece index 256) first n index (omega (arith, le))))
    ∙ ap (λ (k : ℕ). old ++ full_pieces piece first k) (sym next)

-- all of them
pub full_end : (piece : ℕ → ℕ → Resource) (first stop index : ℕ) (old now : List Resource) → first ≤ stop → first ≤ index → index ≤ stop → stop ≤ index
    → now ≡ old ++ full_pieces piece first (index - first)
    → now ≡ old ++ full_pieces piece first (stop - first)
full_end piece first stop index old now order low high past so_far =
    let same : index ≡ stop = omega (arith, high, past) in
    so_far ∙ ap (λ (k : ℕ). old ++ full_pieces piece first (k - first)) same

-- the new tiles of the levels below this one
abbrev pub tiles_below : ℕ → ℕ → ℕ → List Resource
tiles_below from size n = flat_map (λ level. pieces_since (tile_at level) (level_count from level) (level_count size level)) (range_with_len 0 n)

range_more : (a n : ℕ) → range_with_len a (suc n) ≡ range_with_len a n ++ (a + n) ∷ []
range_more a zero = ap (λ (x : ℕ). x ∷ []) (omega arith)
range_more a (suc n) = ap (λ (t : List ℕ). a ∷ t) (range_more (a + 1) n ∙ ap (λ (x : ℕ). range_with_len (a + 1) n ++ x ∷ []) (omega arith))

-- the tiles of one level more
pub level_more : (from size level low high : ℕ) (before after : List Resource) → before ≡ tiles_below from size level
    → low ≡ level_count from level → high ≡ level_count size level → after ≡ before ++ pieces_since (tile_at level) low high
    → after ≡ tiles_below from size (level + 1)
level_more from size level low high before after so_far is_low is_high added =
    let next : level + 1 ≡ suc level = omega arith in
    let tiles : ℕ → List Resource = λ n. pieces_since (tile_at n) (level_count from n) (level_count size n) in
    added ∙ ap (λ (t : List Resource). t ++ pieces_since (tile_at level) low high) so_far
    ∙ (λ i. tiles_below from size level ++ pieces_since (tile_at level) (is_low i) (is_high i))
    ∙ ap (λ (t : List Resource). tiles_below from size level ++ t) (sym (append-nil (tiles level)))
    ∙ sym (flat_map-append tiles (range_with_len 0 level) (level ∷ []))
    ∙ ap (flat_map tiles) (sym (ap (range_with_len 0) next ∙ range_more 0 level ∙ ap (λ (x : ℕ). range_with_len 0 level ++ x ∷ []) (omega arith)))

-- how many hashes the next level has
pub next_count : (size level count : ℕ) → count ≡ level_count size level → count / 256 ≡ level_count size (level + 1)
next_count size level count counted =
    let next : level + 1 ≡ suc level = omega arith in
    let turned : 256 ^ level * 256 ≡ 256 * 256 ^ level = omega arith in
    ap (λ (n : ℕ). n / 256) counted ∙ div-div-eq-div-mul size (256 ^ level) 256
    ∙ ap (λ (n : ℕ). size / n) (turned ∙ sym (pow-succ' 256 level) ∙ ap (λ (n : ℕ). 256 ^ n) (sym next))

-- the tiles of the eight levels, and then the bundles
pub all_listed : (from size level : ℕ) (tiles all : List Resource) → level ≡ 8 → tiles ≡ tiles_below from size level
    → all ≡ tiles ++ pieces_since resource.Entries from size → all ≡ needed_resources_since from size
all_listed from size level tiles all is_eight listed added =
    added ∙ ap (λ (t : List Resource). t ++ pieces_since resource.Entries from size) (listed ∙ ap (tiles_below from size) is_eight)
