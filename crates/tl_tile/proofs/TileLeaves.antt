-- The leaf hashes of the entries of a tile fold to the tree hash of these.
use Rattle.std.proofs.Common.{◌≡◌, ◌<◌, ◌+◌, ◌*◌, ◌∙◌, ℕ, List, [], ◌∷◌, ◌++◌, length, get_or, map, take, drop, refl, sym, ap, arith}
use Rattle.std.specs.List.{range_with_len}
use Rattle.std.proofs.lemmas.List.{ext_get_or, get_or-map, get_or_append_left, get_or_push, length-map, length_push, take_all, take_more}
use Rattle.std.proofs.lemmas.List.FromFn.{get_or-map-range_with_len, length-map-range_with_len}
use Rattle.std.proofs.Math.Seq.{drop-cons}
use Rattle.tl_hash.specs.Bytes.{Bytes, Digest}
use Rattle.tl_hash.specs.Tree.{leaf_input, tree_hash, hash_of, tree_of, tree_within}
use Rattle.tl_tile.specs.Inner.Run.{part, place_hash, IsRun}
use Rattle.tl_tile.specs.Inner.FoldsTo.{FoldsTo}
use Rattle.tl_tile.proofs.Runs.{run_of}

-- the leaf hash of an entry
abbrev pub leaf_of : Digest → Bytes → Bytes
leaf_of H text = H (leaf_input text)

-- the entry at a place alone
pub one_at : (texts : List Bytes) (place : ℕ) → place < length texts → take 1 (drop (place * 1) texts) ≡ get_or texts place [] ∷ []
one_at texts place below =
    let same : place * 1 ≡ place = omega arith in
    ap (λ (n : ℕ). take 1 (drop n texts)) same ∙ ap (take 1) (drop-cons texts place [] below)

-- the hash over it is its leaf hash
pub leaf_at : (H : Digest) (texts : List Bytes) (place : ℕ) → place < length texts → place_hash H texts 1 place ≡ leaf_of H (get_or texts place [])
unfolding tree_hash hash_of tree_of tree_within
leaf_at H texts place below = ap (tree_hash H) (one_at texts place below)

-- the leaf hashes of a tile but the last, and the last
pub leaves_run : (H : Digest) (texts front : List Bytes) (last : Bytes) → length texts ≡ 256 → map (leaf_of H) texts ≡ front ++ last ∷ []
    → IsRun H texts (run_of 1 0 256) front last
leaves_run H texts front last many are =
    let count : length front ≡ 255 = omega (arith, sym (ap length are) ∙ length-map texts (leaf_of H) ∙ many, length_push front last) in
    let start : (0 + length front) * 1 ≡ 255 = omega (arith, count) in
    let at : (place : ℕ) → place < 256 → get_or (front ++ last ∷ []) place [] ≡ place_hash H texts 1 place =
    (λ place below. ap (λ hashes. get_or hashes place []) (sym are) ∙ get_or-map (leaf_of H) texts place [] [] (omega (arith, many)) ∙ sym (leaf_at H texts place (omega (arith, many)))) in
    record {
      power = (0, refl);
      within = omega (arith, many);
      some = omega (arith, count);
      most = omega (arith, count);
      hashes_are = ext_get_or [] front (map (place_hash H texts 1) (range_with_len 0 (length front))) (sym (length-map-range_with_len (place_hash H texts 1) 0 (length front)))
          (λ place below. sym (get_or_append_left front (last ∷ []) [] place below) ∙ at place (omega (arith, count))
          ∙ sym (get_or-map-range_with_len (place_hash H texts 1) 0 (length front) place place [] below (omega arith)));
      last_is = sym (get_or_push front last [] 255 count) ∙ at 255 (omega arith)
          ∙ sym (ap (λ (n : ℕ). tree_hash H (part n 256 texts)) start);
    }

-- what the leaf hashes of a tile fold to is the tree hash
pub leaves_fold : (H : Digest) (texts hashes : List Bytes) (root : Bytes) → length texts ≡ 256 → hashes ≡ map (leaf_of H) texts
    → FoldsTo H hashes root → root ≡ tree_hash H texts
leaves_fold H texts hashes root many are folds =
    let whole : hashes ≡ take 255 hashes ++ get_or hashes 255 [] ∷ [] =
    sym (take_all 256 hashes (omega (arith, ap length are ∙ length-map texts (leaf_of H) ∙ many))) ∙ take_more hashes 255 [] (omega (arith, ap length are ∙ length-map texts (leaf_of H) ∙ many)) in
    folds texts (run_of 1 0 256) (take 255 hashes) (get_or hashes 255 []) whole (leaves_run H texts (take 255 hashes) (get_or hashes 255 []) many (sym are ∙ whole))
    ∙ ap (tree_hash H) (take_all 256 texts (omega (arith, many)))
