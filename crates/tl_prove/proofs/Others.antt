-- Entries that are others than the one that is looked for.
use Rattle.std.proofs.Common.{◌≡◌, ◌≢◌, ℕ, ◌+◌, ◌-◌, ◌*◌, ◌/◌, ◌%◌, ◌<◌, ◌≤◌, List, [], length, get_or, map, slice_index_or, vec_items, refl, sym, ap, subst, ◌∙◌, inl, inr, arith}
use Rattle.std.specs.declared.vec.Vec.{Vec}
use Rattle.std.proofs.lemmas.Bool.{cases_lt}
use Rattle.std.proofs.lemmas.List.{get_or-map, length-map}
use Rattle.sha2.specs.Sha256.{sha256}
use Rattle.tl_hash.specs.Bytes.{Bytes}
use Rattle.tl_hash.specs.declared.head.Head.{Head}
use Rattle.tl_tile.specs.declared.resource.Tile.{Tile}
use Rattle.tl_tile.specs.Fetched.{tiles_of}
use Rattle.tl_tile.specs.Needed.{bundle_width}
use Rattle.tl_tile.specs.Verified.{AreVerified}
use Rattle.tl_client.specs.Bundles.{HasBundle}
use Rattle.tl_client.specs.Checked.{AreCheckedEntries}
use Rattle.tl_fetch.specs.Entries.{IsCheckedBundle}
use Rattle.tl_prove.specs.Prove.{IsOther}
use Rattle.tl_prove.specs.Inner.Proving.{AreOthersFrom, AreOthersIn, HasNone}

-- one entry more is another
pub one_more : {A : Type 0} (xs : List (Vec ℕ A)) (wanted : List ℕ) (place : ℕ) (x : Vec ℕ A) → place < length xs → x ≡ get_or xs place x → vec_items x ≢ wanted
    → ((k : ℕ) → k < place → slice_index_or (map vec_items xs) k [] ≢ wanted) → (k : ℕ) → k < place + 1 → slice_index_or (map vec_items xs) k [] ≢ wanted
one_more xs wanted place x inside read other before k below =
    elim (cases_lt k place) as (λ _. slice_index_or (map vec_items xs) k [] ≢ wanted) [
      | inl less ↦ before k less
      | inr up ↦ (
          let here : k ≡ place = omega (arith, below, up) in
          λ is. other (ap vec_items read ∙ sym (get_or-map vec_items xs place x [] inside) ∙ ap (λ (j : ℕ). slice_index_or (map vec_items xs) j []) (sym here) ∙ is))
    ]

-- an entry has a place in its bundle
place_within : (size index : ℕ) → index < size → index % 256 < bundle_width size (index / 256)
place_within size index below = grind arith

-- an entry of a bundle of others is another
others_at : (head : Head) (wanted : Bytes) (index : ℕ) (fetched : List (Tile × Bytes)) (entries : List Bytes) → index < head.size → HasBundle head.size (index / 256)
    → AreVerified sha256 head.size head.root fetched → AreCheckedEntries sha256 (tiles_of fetched) head.size head.root (index / 256) entries
    → HasNone entries wanted → IsOther head wanted index
others_at head wanted index fetched entries below within verified checked none =
    let place : index % 256 < length entries = subst (λ (n : ℕ). index % 256 < n) (sym checked.whole.count) (place_within head.size index below) in (
      slice_index_or entries (index % 256) [],
      record { below = below; entries = entries; bundle = record { within = within; fetched = fetched; verified = verified; checked = checked }; place = place; is = refl },
      none (index % 256) place,
    )

in_bundle : (bundle index : ℕ) → 256 * bundle ≤ index → index < 256 * bundle + 256 → index / 256 ≡ bundle
in_bundle bundle index from upto = grind arith

pub others_in : (head : Head) (wanted : Bytes) (bundle : ℕ) (fetched : List (Tile × Bytes)) (entries : List Bytes) → HasBundle head.size bundle
    → AreVerified sha256 head.size head.root fetched → AreCheckedEntries sha256 (tiles_of fetched) head.size head.root bundle entries
    → HasNone entries wanted → AreOthersIn head wanted bundle
others_in head wanted bundle fetched entries within verified checked none index from upto below =
    let here : bundle ≡ index / 256 = sym (in_bundle bundle index from upto) in
    others_at head wanted index fetched entries below (subst (HasBundle head.size) here within) verified
    (subst (λ (b : ℕ). AreCheckedEntries sha256 (tiles_of fetched) head.size head.root b entries) here checked) none

-- one bundle more
pub others_more : (head : Head) (wanted : Bytes) (left bundle : ℕ) → bundle ≡ left - 1 → 0 < left → AreOthersFrom head wanted (256 * left) → AreOthersIn head wanted bundle → AreOthersFrom head wanted (256 * bundle)
others_more head wanted left bundle is some before here index from below =
    elim (cases_lt index (256 * bundle + 256)) as (λ _. IsOther head wanted index) [
      | inl less ↦ here index from less below
      | inr up ↦ before index (omega (arith, is, some, up)) below
    ]

-- no bundle was looked through yet
pub none_yet : (head : Head) (wanted : Bytes) (left : ℕ) → head.size ≤ 256 * left → AreOthersFrom head wanted (256 * left)
none_yet head wanted left all index from below = absurd (omega (arith, all, from, below))
