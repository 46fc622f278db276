-- The numbers of bytes of the bundles of a log, and the listing of its resources.
use Rattle.std.proofs.Common.{inl, inr, ◌≡◌, ℕ, ◌+◌, ◌*◌, ◌^◌, ◌<◌, ◌≤◌, List, [], ◌∷◌, ◌++◌, length, get_or, take, drop, refl, sym, ap, ◌∙◌, append-nil, arith}
use Rattle.std.specs.Prelude.{Contains}
use Rattle.std.specs.Int.{w16, to_be_bytes}
use Rattle.std.specs.List.{flat_map}
use Rattle.std.proofs.lemmas.Grind.{flat_map-append}
use Rattle.std.proofs.lemmas.List.{length-append, length-drop, take_all, take_more}
use Rattle.std.proofs.lemmas.List.Concat.{flat_map-cons}
use Rattle.tl_text.specs.Text.{line, number_text}
use Rattle.tl_tile.specs.Bundle.{bundled_entry, bundle_text}
use Rattle.tl_tile.specs.Path.{path_text}
use Rattle.tl_tile.specs.declared.resource.Resource.{Resource}
use Rattle.tl_tile.specs.declared.resource.Resource.TheVariants as resource
use Rattle.tl_command.specs.Inner.BundleLengths.{AreBundleLengths, HasLength}
use Rattle.tl_command.specs.Lines.{lines_text}
use Rattle.tl_command.specs.Mirror.{mirrored, resource_text, listing_line, listing_text}
use Rattle.tl_command.proofs.NeededParts.{LiesIn, lies}

-- ---- one bundle

-- each entry has two bytes more in its bundle, and its line a newline
pub bundle_of_lines : (entries : List (List ℕ)) → length (bundle_text entries) ≡ length (lines_text entries) + length entries
bundle_of_lines [] = refl
bundle_of_lines (entry ∷ entries) =
    omega (
      arith,
      ap length (flat_map-cons bundled_entry entry entries),
      length-append (bundled_entry entry) (bundle_text entries),
      length-append (to_be_bytes w16 (length entry)) entry,
      ap length (flat_map-cons line entry entries),
      length-append (line entry) (lines_text entries),
      length-append entry (10 ∷ []),
      bundle_of_lines entries,
    )

-- ---- the length of a resource

-- a bundle of the log has the length of its place
pub bundle_has : (lengths : List ℕ) (entries : List (List ℕ)) (index width : ℕ) → length entries < 2 ^ 32 → AreBundleLengths lengths entries
    → Contains (mirrored (length entries)) (resource.Entries index width)
    → get_or lengths index 0 ≡ length (bundle_text (take width (drop (index * 256) entries)))
bundle_has lengths entries index width small are has =
    let parts : LiesIn (length entries) (resource.Entries index width) = lies (length entries) (resource.Entries index width) small has in
    let same : take 256 (drop (index * 256) entries) ≡ take width (drop (index * 256) entries) =
    elim parts.4 as (λ _. take 256 (drop (index * 256) entries) ≡ take width (drop (index * 256) entries)) [
      | inl full ↦ ap (λ (n : ℕ). take n (drop (index * 256) entries)) (sym full)
      | inr last ↦
          let left = length-drop (index * 256) entries in
          take_all 256 (drop (index * 256) entries) (omega (arith, left, last, parts.2)) ∙ sym (take_all width (drop (index * 256) entries) (omega (arith, left, last)))
    ] in
    are.each index 0 (omega (arith, are.all, parts.1, parts.3)) ∙ ap (λ (es : List (List ℕ)). length (bundle_text es)) same

pub has_length : (lengths : List ℕ) (size : ℕ) (r : Resource) → size < 2 ^ 32 → size ≤ length lengths * 256 → Contains (mirrored size) r → HasLength lengths r
has_length lengths size (resource.Tile t) small all has = tt
has_length lengths size (resource.Entries index width) small all has =
    let parts : LiesIn size (resource.Entries index width) = lies size (resource.Entries index width) small has in
    omega (arith, all, parts.1, parts.3)
has_length lengths size resource.Checkpoint small all has = tt

-- ---- the listing

-- one line more
pub listing_more : (note : List ℕ) (entries : List (List ℕ)) (rs : List Resource) (i count : ℕ) (d : Resource) (before after : List ℕ) → i < length rs
    → count ≡ length (resource_text note entries (get_or rs i d)) → before ≡ listing_text note entries (take i rs)
    → after ≡ before ++ line (path_text (get_or rs i d) ++ 32 ∷ number_text count) → after ≡ listing_text note entries (take (i + 1) rs)
listing_more note entries rs i count d before after less is so_far added =
    let f : Resource → List ℕ = listing_line note entries in
    let r : Resource = get_or rs i d in
    added ∙ (λ j. so_far j ++ line (path_text r ++ 32 ∷ number_text (is j)))
    ∙ sym (ap (flat_map f) (take_more rs i d less) ∙ flat_map-append f (take i rs) (r ∷ [])
    ∙ ap (λ (t : List ℕ). flat_map f (take i rs) ++ t) (flat_map-cons f r [] ∙ append-nil (f r)))
