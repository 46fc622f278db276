-- A bundle that grows.
use Rattle.std.proofs.Common.{◌≡◌, ℕ, ◌≤◌, List, [], ◌∷◌, ◌++◌, length, drop, sym, ap, ◌∙◌}
use Rattle.std.proofs.lemmas.List.{append-nil, drop-append-le}
use Rattle.std.proofs.lemmas.Grind.{flat_map-append}
use Rattle.tl_tile.specs.Bundle.{bundled_entry, bundle_text}

pub bundle_more : (entries more : List (List ℕ)) (start : ℕ) → start ≤ length entries → bundle_text (drop start entries) ++ bundle_text more ≡ bundle_text (drop start (entries ++ more))
bundle_more entries more start le = sym (flat_map-append bundled_entry (drop start entries) more) ∙ ap bundle_text (sym (drop-append-le start entries more le))

pub bundle_push : (entries : List (List ℕ)) (entry : List ℕ) (start : ℕ) → start ≤ length entries → bundle_text (drop start entries) ++ bundled_entry entry ≡ bundle_text (drop start (entries ++ entry ∷ []))
bundle_push entries entry start le =
    ap (λ (t : List ℕ). bundle_text (drop start entries) ++ t) (sym (append-nil (bundled_entry entry)))
    ∙ bundle_more entries (entry ∷ []) start le
