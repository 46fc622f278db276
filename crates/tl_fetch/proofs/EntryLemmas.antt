-- An entry in its place among those of its bundle.
use Rattle.std.proofs.Common.{◌≡◌, ℕ, ◌/◌, ◌%◌, ◌<◌, ◌≤◌, List, [], length, map, slice_index_or, sym, ap, subst, ◌∙◌, arith}
use Rattle.std.proofs.lemmas.List.{get_or-map, length-map}
use Rattle.tl_hash.specs.Bytes.{Bytes, Digest}
use Rattle.tl_tile.specs.declared.resource.Tile.{Tile}
use Rattle.tl_tile.specs.Fetched.{tiles_of}
use Rattle.tl_tile.specs.Verified.{AreVerified}
use Rattle.tl_client.specs.Bundles.{HasBundle}
use Rattle.tl_tile.specs.Needed.{bundle_width}
use Rattle.tl_client.specs.Checked.{AreCheckedEntries}
use Rattle.tl_hash.specs.declared.head.Head.{Head}
use Rattle.tl_fetch.specs.Entries.{IsCheckedEntry}

-- an entry of the log has a place in its bundle
pub place_within : (size index : ℕ) → index < size → index % 256 < bundle_width size (index / 256)
place_within size index below = grind arith

-- the same of what the code has for the entries
pub place_in : {X : Type 0} (f : X → Bytes) (size index : ℕ) (xs : List X) → index < size → length (map f xs) ≡ bundle_width size (index / 256) → index % 256 ≤ length xs
place_in f size index xs below many =
    let place : index % 256 < length (map f xs) = subst (λ (n : ℕ). index % 256 < n) (sym many) (place_within size index below) in
    omega (arith, subst (λ (n : ℕ). index % 256 < n) (length-map xs f) place)

-- the entry at that place is a checked one
pub checked_entry : {X : Type 0} (f : X → Bytes) (H : Digest) (head : Head) (index : ℕ) (fetched : List (Tile × Bytes)) (xs : List X) (x : X)
    → index < head.size → HasBundle head.size (index / 256) → AreVerified H head.size head.root fetched
    → AreCheckedEntries H (tiles_of fetched) head.size head.root (index / 256) (map f xs)
    → x ≡ slice_index_or xs (index % 256) x → IsCheckedEntry H head index (f x)
checked_entry f H head index fetched xs x below within verified checked value =
    let many : length (map f xs) ≡ bundle_width head.size (index / 256) = checked.whole.count in
    let place : index % 256 < length (map f xs) = subst (λ (n : ℕ). index % 256 < n) (sym many) (place_within head.size index below) in
    let inside : index % 256 < length xs = subst (λ (n : ℕ). index % 256 < n) (length-map xs f) place in
    record {
      below = below;
      entries = map f xs;
      bundle = record { within = within; fetched = fetched; verified = verified; checked = checked };
      place = place;
      is = get_or-map f xs (index % 256) x [] inside ∙ ap f (sym value);
    }
