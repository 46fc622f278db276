-- What the calls of a shelf leave on its disk.
use Rattle.std.proofs.Common.{◌≡◌, ◌≢◌, true, false, inl, inr, ◌⊎◌, List, [], ◌∷◌, ◌++◌, Some, refl, sym, ap, subst, ◌∙◌}
use Rattle.std.specs.Prelude.{Bool, Contains}
use Rattle.std.proofs.lemmas.List.{append_cancel_left, append_cancel_right}
use Rattle.tl_tile.specs.declared.resource.Resource.{Resource}
use Rattle.tl_tile.specs.Path.{IsResource, path_text}
use Rattle.tl_tile.proofs.OnePath.{one_path}
use Rattle.tl_archive.specs.Shelves.{Item, Held}
use Rattle.tl_archive.proofs.Lists.{none_has, has_head, has_tail, cons_cases}
use Rattle.tl_folder.specs.Step.{Path, Bytes}
use Rattle.tl_folder.specs.FileCalls.{Call, Begins, done}
use Rattle.tl_folder.specs.Posix.{At, Disk, MayBe, Becomes}
use Rattle.tl_folder.specs.Settling.{AreCovered, IsAside, settling, new_path, move_to}
use Rattle.tl_folder.specs.Places.{place_of}
use Rattle.tl_folder.specs.Folders.{is_same, put}
use Rattle.tl_folder.specs.Laws.{HasBytes, IsApart, AreApart, IsElsewhere}
use Rattle.tl_folder.specs.OnDisk.{Reflects, ReflectsEither, moves_of, AreStaged, IsNew, AreOnce}
use Rattle.tl_folder.proofs.Puts.{same_self, same_is, put_between, put_there}
use Rattle.tl_folder.proofs.Disks.{done_begins, becomes_parts}
use Rattle.tl_folder.proofs.Settles.{rest_leaves, settled_rests, settling_is_gentle, settling_spares_others}
use Rattle.tl_folder.proofs.Asides.{aside_only, staging_aside, staged_there}
use Rattle.tl_folder.proofs.Ends.{ends_place, beside_no_place, place_parent}

-- ---- places that differ

two_places : (root : Path) (a b : Resource) → IsResource a → IsResource b → a ≢ b → place_of root a ≢ place_of root b
two_places root a b is_a is_b differ same = differ (one_path a b is_a is_b (append_cancel_left (root ++ 47 ∷ []) (path_text a) (path_text b) same))

two_besides : (p q : Path) → p ≢ q → new_path p ≢ new_path q
two_besides p q differ same = differ (append_cancel_right p q (46 ∷ 110 ∷ 101 ∷ 119 ∷ []) same)

never_beside : (root : Path) (r : Resource) (path : Path) → IsResource r → place_of root r ≢ new_path path
never_beside root r path is same = beside_no_place path (place_of root r) (ends_place root r is) (sym same)

item_apart : (root : Path) (item : Item) (more : List Item) → IsResource item.0 → IsNew item.0 more → AreOnce more → IsApart (move_to (place_of root item.0)) (moves_of root more)
item_apart root item [] is new once = tt
item_apart root item (other ∷ more) is new once =
    let places : place_of root item.0 ≢ place_of root other.0 = two_places root item.0 other.0 is once.0 new.0 in (
      record {
        besides = two_besides (place_of root item.0) (place_of root other.0) places;
        places = places;
        first = λ e. never_beside root other.0 (place_of root item.0) once.0 (sym e);
        second = never_beside root item.0 (place_of root other.0) is;
      },
      item_apart root item more is new.1 once.2,
    )

items_apart : (root : Path) (items : List Item) → AreOnce items → AreApart (moves_of root items)
items_apart root [] once = tt
items_apart root (item ∷ more) once =
    ((λ e. never_beside root item.0 (place_of root item.0) once.0 (sym e)), item_apart root item more once.0 once.1 once.2, items_apart root more once.2)

new_elsewhere : (root : Path) (r : Resource) (items : List Item) → IsResource r → IsNew r items → AreOnce items → IsElsewhere (place_of root r) (moves_of root items)
new_elsewhere root r [] is new once = tt
new_elsewhere root r (item ∷ more) is new once =
    (never_beside root r (place_of root item.0) is, two_places root r item.0 is once.0 new.0, new_elsewhere root r more is new.1 once.2)

-- ---- items

has_move : (root : Path) (items : List Item) (item : Item) → Contains items item → Contains (moves_of root items) (move_to (place_of root item.0))
has_move root [] item has = absurd (none_has item has)
has_move root (first ∷ more) item has =
    elim (cons_cases first more item has) as (λ _. Contains (moves_of root (first ∷ more)) (move_to (place_of root item.0))) [
      | inl same ↦ subst (λ (x : Item). Contains (moves_of root (first ∷ more)) (move_to (place_of root x.0))) same (has_head (move_to (place_of root first.0)) (moves_of root more))
      | inr later ↦ has_tail (move_to (place_of root first.0)) (moves_of root more) (move_to (place_of root item.0)) (has_move root more item later)
    ]

not_new : (r : Resource) (bytes : Bytes) (items : List Item) → IsNew r items → Contains items (r, bytes) → ⊥
not_new r bytes [] new has = none_has (r, bytes) has
not_new r bytes (first ∷ more) new has =
    elim (cons_cases first more (r, bytes) has) as (λ _. ⊥) [
      | inl same ↦ new.0 (sym (ap (λ (x : Item). x.0) same))
      | inr later ↦ not_new r bytes more new.1 later
    ]

one_item : (r : Resource) (a b : Bytes) (items : List Item) → AreOnce items → Contains items (r, a) → Contains items (r, b) → a ≡ b
one_item r a b [] once has_a has_b = absurd (none_has (r, a) has_a)
one_item r a b (first ∷ more) once has_a has_b =
    elim (cons_cases first more (r, a) has_a) as (λ _. a ≡ b) [
      | inl here ↦
          elim (cons_cases first more (r, b) has_b) as (λ _. a ≡ b) [
            | inl there ↦ ap (λ (x : Item). x.1) (sym here ∙ there)
            | inr later ↦ absurd (not_new r b more (subst (λ (x : Item). IsNew x.0 more) here once.1) later)
          ]
      | inr later ↦
          elim (cons_cases first more (r, b) has_b) as (λ _. a ≡ b) [
            | inl there ↦ absurd (not_new r a more (subst (λ (x : Item). IsNew x.0 more) there once.1) later)
            | inr there ↦ one_item r a b more once.2 later there
          ]
    ]

apart_if : (b : Bool) (r s : Resource) → is_same r s ≡ b → b ≡ false → r ≢ s
apart_if b r s is none same = let it : true ≡ false = sym (same_self s) ∙ ap (λ (x : Resource). is_same x s) (sym same) ∙ is ∙ none in absurd (cc)

-- the resource has an item, or none
found : (r : Resource) (items : List Item) → ((bytes : Bytes) × Contains items (r, bytes)) ⊎ IsNew r items
found r [] = inr tt
found r (item ∷ more) = go (is_same r item.0) refl (found r more)
  where
    go : (b : Bool) → is_same r item.0 ≡ b → ((bytes : Bytes) × Contains more (r, bytes)) ⊎ IsNew r more → ((bytes : Bytes) × Contains (item ∷ more) (r, bytes)) ⊎ IsNew r (item ∷ more)
    go true is rest = inl (item.1, subst (λ (x : Resource). Contains (item ∷ more) (x, item.1)) (sym (same_is r item.0 is)) (has_head item more))
    go false is (inl (bytes, has)) = inl (bytes, has_tail item more (r, bytes) has)
    go false is (inr new) = inr (apart_if false r item.0 is refl, new)

-- ---- staging

-- the path is beside none of their places
abbrev IsAsideNone : Path → Path → List Item → Type 0
IsAsideNone root q [] = Unit {0}
IsAsideNone root q (item ∷ more) = (q ≢ new_path (place_of root item.0)) × IsAsideNone root q more

staged_spares : (root q : Path) (items : List Item) (calls : List Call) (disk now : Disk) → IsAsideNone root q items → AreStaged root items calls → Becomes disk calls now → now q ≡ disk q
staged_spares root q [] calls disk now aside staged becomes =
    let is : now ≡ disk = subst (λ (x : List Call). Becomes disk x now) staged becomes in
    ap (λ (x : Disk). x q) is
staged_spares root q (item ∷ more) calls disk now aside (made, rest, are, staging, staged) becomes =
    let it = becomes_parts made rest disk now (subst (λ (x : List Call). Becomes disk x now) are becomes) in
    let path : Path = new_path (place_of root item.0) in
    staged_spares root q more rest it.0 now aside.1 staged it.2 ∙ aside_only path q item.1 made disk it.0 aside.0 (staging_aside path item.1 made staging) it.1

place_aside : (root : Path) (r : Resource) (items : List Item) → IsResource r → IsAsideNone root (place_of root r) items
place_aside root r [] is = tt
place_aside root r (item ∷ more) is = (never_beside root r (place_of root item.0) is, place_aside root r more is)

beside_aside : (root : Path) (r : Resource) (items : List Item) → IsResource r → IsNew r items → AreOnce items → IsAsideNone root (new_path (place_of root r)) items
beside_aside root r [] is new once = tt
beside_aside root r (item ∷ more) is new once =
    (two_besides (place_of root r) (place_of root item.0) (two_places root r item.0 is once.0 new.0), beside_aside root r more is new.1 once.2)

staged_bytes : (root : Path) (items : List Item) (item : Item) (calls : List Call) (disk now : Disk) → AreOnce items → Contains items item → AreStaged root items calls → Becomes disk calls now
    → HasBytes (now (new_path (place_of root item.0))) item.1
staged_bytes root [] item calls disk now once has staged becomes = absurd (none_has item has)
staged_bytes root (first ∷ more) item calls disk now once has (made, rest, are, staging, staged) becomes =
    let it = becomes_parts made rest disk now (subst (λ (x : List Call). Becomes disk x now) are becomes) in
    elim (cons_cases first more item has) as (λ _. HasBytes (now (new_path (place_of root item.0))) item.1) [
      | inl same ↦
          let path : Path = new_path (place_of root first.0) in
          let here : HasBytes (now path) first.1 =
          subst (λ (x : At). HasBytes x first.1) (sym (staged_spares root path more rest it.0 now (beside_aside root first.0 more once.0 once.1 once.2) staged it.2)) (staged_there path first.1 made disk it.0 staging it.1) in
          subst (λ (x : Item). HasBytes (now (new_path (place_of root x.0))) x.1) same here
      | inr later ↦ staged_bytes root more item rest it.0 now once.2 later staged it.2
    ]

pub staging_reflects : (root : Path) (held : Held) (items : List Item) (calls : List Call) (disk now : Disk) → Reflects root held disk → AreStaged root items calls → Becomes disk calls now → Reflects root held now
staging_reflects root held items calls disk now reflects staged becomes r left is may =
    reflects r left is (subst (λ (x : At). MayBe x left) (staged_spares root (place_of root r) items calls disk now (place_aside root r items is) staged becomes) may)

pub stage_spares : (disk now : Disk) (root : Path) (r s : Resource) (bytes : Bytes) (calls : List Call)
    → IsResource s → IsAside (new_path (place_of root r)) bytes calls → Becomes disk calls now → now (place_of root s) ≡ disk (place_of root s)
stage_spares disk now root r s bytes calls is aside becomes =
    aside_only (new_path (place_of root r)) (place_of root s) bytes calls disk now (never_beside root s (place_of root r) is) aside becomes

-- ---- settling

put_one : (items : List Item) (held : Held) (r : Resource) (bytes : Bytes) → AreOnce items → Contains items (r, bytes) → put items held r ≡ Some bytes
put_one items held r bytes once has =
    let own = put_there items held r bytes has in
    own.1 ∙ ap (λ (b : Bytes). Some b) (one_item r own.0 bytes items once own.2 has)

put_new : (items : List Item) (held : Held) (r : Resource) → IsNew r items → put items held r ≡ held r
put_new items held r new =
    elim (put_between items held r) as (λ _. put items held r ≡ held r) [ inl same ↦ same | inr own ↦ absurd (not_new r own.0 items new own.2) ]

pub settled_reflects : (root : Path) (held : Held) (items : List Item) (folders : List Path) (calls : List Call) (disk now : Disk)
    → Reflects root held disk → AreOnce items → AreStaged root items calls → AreCovered root folders (moves_of root items)
    → Becomes disk (calls ++ done (settling (moves_of root items) folders)) now → Reflects root (put items held) now
settled_reflects root held items folders calls disk now reflects once staged covered becomes r left is may =
    let it = becomes_parts calls (done (settling (moves_of root items) folders)) disk now becomes in
    let mid : Disk = it.0 in
    elim (found r items) as (λ _. left ≡ put items held r) [
      | inl own ↦
          let above = place_parent root r is in
          rest_leaves (now (place_of root r)) own.0
          (settled_rests mid now (moves_of root items) root folders (move_to (place_of root r)) above.0 own.0 (items_apart root items once) covered (has_move root items (r, own.0) own.1) above.1
          (staged_bytes root items (r, own.0) calls disk mid once own.1 staged it.1) it.2) left may
          ∙ sym (put_one items held r own.0 once own.1)
      | inr new ↦
          let before : MayBe (mid (place_of root r)) left =
          settling_spares_others mid (moves_of root items) folders (done (settling (moves_of root items) folders)) (place_of root r) left (new_elsewhere root r items is new once)
          (done_begins (settling (moves_of root items) folders)) (now, it.2, may) in
          staging_reflects root held items calls disk mid reflects staged it.1 r left is before ∙ sym (put_new items held r new)
    ]

pub settling_reflects : (root : Path) (held : Held) (items : List Item) (folders : List Path) (calls some : List Call) (disk now : Disk)
    → Reflects root held disk → AreOnce items → AreStaged root items calls → Begins (settling (moves_of root items) folders) some
    → Becomes disk (calls ++ some) now → ReflectsEither root (record { held = held; staged = items }) now
settling_reflects root held items folders calls some disk now reflects once staged begins becomes r left is may =
    let it = becomes_parts calls some disk now becomes in
    let mid : Disk = it.0 in
    let held_before : MayBe (mid (place_of root r)) left → left ≡ held r = λ m. staging_reflects root held items calls disk mid reflects staged it.1 r left is m in
    elim (found r items) as (λ _. (left ≡ held r) ⊎ ((bytes : Bytes) × (left ≡ Some bytes) × Contains items (r, bytes))) [
      | inl own ↦
          elim (settling_is_gentle mid (moves_of root items) folders some (move_to (place_of root r)) own.0 left (items_apart root items once) (has_move root items (r, own.0) own.1)
          (staged_bytes root items (r, own.0) calls disk mid once own.1 staged it.1) begins (now, it.2, may)) as (λ _. (left ≡ held r) ⊎ ((bytes : Bytes) × (left ≡ Some bytes) × Contains items (r, bytes))) [
            | inl old ↦ inl (held_before old)
            | inr fresh ↦ inr (own.0, fresh, own.1)
          ]
      | inr new ↦ inl (held_before (settling_spares_others mid (moves_of root items) folders some (place_of root r) left (new_elsewhere root r items is new once) begins (now, it.2, may)))
    ]
