-- What was needed once has the same bytes over a longer log.
use Rattle.std.proofs.Common.{◌≡◌, ℕ, zero, suc, ◌+◌, ◌-◌, ◌*◌, ◌^◌, ◌≤◌, List, ◌++◌, length, take, drop, true, refl, sym, ap, ◌∙◌, arith}
use Rattle.std.specs.Prelude.{Contains}
use Rattle.std.specs.List.{flat_map, range_with_len}
use Rattle.std.proofs.lemmas.List.Folds.{list_any-from_Any}
use Rattle.std.proofs.lemmas.List.{take-append-le, drop-append-le, length-drop}
use Rattle.sha2.specs.Sha256.{sha256}
use Rattle.tl_hash.specs.Tree.{tree_hash}
use Rattle.tl_tile.specs.declared.resource.Resource.{Resource}
use Rattle.tl_tile.specs.declared.resource.Resource.TheVariants as resource
use Rattle.tl_tile.specs.TileText.{entries_under}
use Rattle.tl_tile.specs.Bundle.{bundle_text}
use Rattle.tl_tile.specs.Needed.{needed_resources}
use Rattle.tl_tile.proofs.TileTexts.{scaled_le}
use Rattle.tl_log.specs.Histories.{Begins}
use Rattle.tl_log.specs.Resources.{same_resource, needs}
use Rattle.tl_log.proofs.Needs.{same_self}
use Rattle.tl_archive.specs.Inner.Pieces.{LiesWithin}
use Rattle.tl_archive.specs.Complete.{text_of}
use Rattle.tl_archive.specs.Inner.Laws.{NeededBytesStay}
use Rattle.tl_archive.proofs.Needs.{needed_within}

part_stays : (entries more : List (List ℕ)) (n from : ℕ) → from + n ≤ length entries → take n (drop from (entries ++ more)) ≡ take n (drop from entries)
part_stays entries more n from le =
    let long : length (drop from entries) ≡ length entries - from = length-drop from entries in
    ap (take n) (drop-append-le from entries more (omega (arith, le))) ∙ take-append-le n (drop from entries) more (omega (arith, le, long))

hashes_stay : (H : List ℕ → List ℕ) (level place a n : ℕ) (entries more : List (List ℕ)) → (place + (a + n)) * 256 ^ level ≤ length entries
    → flat_map (λ i. tree_hash H (entries_under level (place + i) (entries ++ more))) (range_with_len a n)
    ≡ flat_map (λ i. tree_hash H (entries_under level (place + i) entries)) (range_with_len a n)
hashes_stay H level place a zero entries more within = refl
hashes_stay H level place a (suc n) entries more within =
    let u : ℕ = 256 ^ level in
    let m : (place + a + 1) * u ≤ (place + (a + suc n)) * u = scaled_le (place + a + 1) (place + (a + suc n)) u (omega arith) in
    let one : (place + a + 1) * u ≡ (place + a) * u + u = omega arith in
    let first : entries_under level (place + a) (entries ++ more) ≡ entries_under level (place + a) entries =
    part_stays entries more (256 ^ level) ((place + a) * 256 ^ level) (omega (arith, m, one, within)) in
    let sum : a + 1 + n ≡ a + suc n = omega arith in
    let same : (place + (a + 1 + n)) * 256 ^ level ≡ (place + (a + suc n)) * 256 ^ level = ap (λ (x : ℕ). (place + x) * 256 ^ level) sum in
    let rest = hashes_stay H level place (a + 1) n entries more (omega (arith, within, same)) in
    λ i. tree_hash H (first i) ++ rest i

text_stays : (H : List ℕ → List ℕ) (entries more : List (List ℕ)) (r : Resource) → LiesWithin (length entries) r → text_of H r (entries ++ more) ≡ text_of H r entries
text_stays H entries more (resource.Tile t) within =
    let sum : 0 + t.width ≡ t.width = omega arith in
    let same : (t.index * 256 + (0 + t.width)) * 256 ^ t.level ≡ (t.index * 256 + t.width) * 256 ^ t.level = ap (λ (x : ℕ). (t.index * 256 + x) * 256 ^ t.level) sum in
    hashes_stay H t.level (t.index * 256) 0 t.width entries more (omega (arith, within, same))
text_stays H entries more (resource.Entries index width) within = ap bundle_text (part_stays entries more width (index * 256) within)
text_stays H entries more resource.Checkpoint within = refl

pub needed_bytes_stay : NeededBytesStay
needed_bytes_stay H entries more r has = text_stays H entries more r (needed_within (length entries) r has).0

-- the bytes of what a beginning needs, over the whole
pub later_bytes : (front whole : List (List ℕ)) → Begins front whole → (r : Resource) → Contains (needed_resources (length front)) r → text_of sha256 r whole ≡ text_of sha256 r front
later_bytes front whole begins r has = ap (text_of sha256 r) (sym begins.1) ∙ needed_bytes_stay sha256 front begins.0 r has

-- what is needed is found to be
pub does_need : (r : Resource) (size : ℕ) → Contains (needed_resources size) r → needs r size ≡ true
does_need r size has = list_any-from_Any (same_resource r) (needed_resources size) (has.0, r, has.1, has.2, same_self r)
