-- How a log is opened from what was read of a shelf.
use Rattle.std.proofs.Common.{◌≡◌, ℕ, zero, suc, ◌+◌, ◌*◌, ◌/◌, ◌%◌, ◌^◌, ◌<◌, ◌≤◌, inl, inr, ◌⊎◌, Bool, true, List, [], ◌∷◌, ◌++◌, length, map, take, drop, vec_items, Some, None, Option, refl, sym, ap, subst, ◌∙◌, arith}
use Rattle.std.specs.Prelude.{Contains, Any, IsTrue, false, get_or, slice_index_or}
use Rattle.std.specs.declared.vec.Vec.{Vec}
use Rattle.std.proofs.Math.Seq.{take-suc}
use Rattle.std.proofs.lemmas.Bool.{cases_lt, le-ltb}
use Rattle.std.proofs.lemmas.List.{drop_all, length-drop, map-append, take_all}
use Rattle.std.proofs.lemmas.List.Elements.{Contains-append_cases, Contains-append_left, Contains-append_right}
use Rattle.sha2.specs.Sha256.{sha256}
use Rattle.tl_hash.specs.Bytes.{Bytes, Digest}
use Rattle.tl_hash.specs.declared.head.Head.{Head}
use Rattle.tl_store.specs.Stored.{stored_index}
use Rattle.tl_store.specs.Reader.{readable_count}
use Rattle.tl_store.specs.declared.reader.ReadFault.{ReadFault}
use Rattle.tl_store.specs.declared.reader.ReadFault.TheVariants as read
use Rattle.tl_tile.specs.declared.resource.Tile.{Tile}
use Rattle.tl_tile.specs.declared.resource.Resource.{Resource}
use Rattle.tl_tile.specs.declared.resource.Resource.TheVariants as resource
use Rattle.tl_tile.specs.EdgeNumbers.{numbers_below}
use Rattle.tl_tile.specs.Fetching.{IsNeededFor, IsOverNumber}
use Rattle.tl_tile.specs.Fetched.{tiles_of}
use Rattle.tl_tile.specs.Path.{IsTile}
use Rattle.tl_tile.specs.Needed.{bundle_width, needed_resources}
use Rattle.tl_tile.specs.Folds.{TilesCollide}
use Rattle.tl_tile.specs.RightEdge.{EdgeContents, IsEdgeOf}
use Rattle.tl_log.proofs.Needs.{bundle_needs, tile_needs}
use Rattle.tl_tile.specs.Source.{AreAnswers, IsTileOf}
use Rattle.tl_tile.specs.Bundle.{bundle_text}
use Rattle.tl_tile.specs.TileLaws.{AreHonest}
use Rattle.tl_tile.proofs.Edges.{Some-injective}
use Rattle.tl_tile.specs.TileReader.{GivesNumbersFault, LacksNeeded, Reading}
use Rattle.tl_tile.specs.TileText.{level_count, partial_tile}
use Rattle.tl_client.specs.Bundles.{bundle_entries}
use Rattle.tl_client.specs.Checked.{AreCheckedEntries, LeavesCollide}
use Rattle.tl_client.specs.Blame.{leaf_numbers, leaf_reading}
use Rattle.tl_client.specs.Refused.{BundleRead, RefusesEntries, bundle_leaves}
use Rattle.tl_client.specs.declared.fault.ClientFault.{ClientFault}
use Rattle.tl_client.specs.declared.fault.ClientFault.TheVariants as client
use Rattle.tl_note.specs.Key.{Key}
use Rattle.tl_client.proofs.Blamed.{tile_has_path}
use Rattle.tl_archive.specs.Shelves.{Held, Item}
use Rattle.tl_archive.specs.declared.fault.ShelfFault.{ShelfFault}
use Rattle.tl_ledger.specs.Inner.Putting.{IsPartial}
use Rattle.tl_ledger.specs.Inner.Reads.{AreHeld, AreThere, HasBundle, HasItem, HasLevel, HasLevels, HasPartials, IsBundleRead, LacksItem, ReadFails, ReadsOn, items_of}
use Rattle.tl_ledger.specs.Standing.{Ledger, IsStanding}
use Rattle.tl_ledger.specs.Opening.{Found, FoundCollides, IsLogOf, IsOfHeld, IsOfNote, IsOfSigned, Opens, StandsWhereWhole, found_size}
use Rattle.tl_ledger.proofs.Adding.{needs_has}
use Rattle.tl_ledger.specs.Inner.Restoring.{HeadFails, IsBundleOf, IsLogAt, PartFails, Restores, StandsWhereRead}
use Rattle.tl_ledger.specs.declared.opened.fault.OpenFault.{OpenFault}
use Rattle.tl_ledger.specs.declared.opened.fault.OpenFault.TheVariants as opening
use Rattle.tl_ledger.specs.OpenFaults.{HasSigned, IsBadBundle, IsDamaged, IsMissing, MayRead, OpenFails, OpenNoteFails, last_read}
use Rattle.tl_ledger.proofs.Opening.{complete_tiles}
use Rattle.tl_archive.specs.Complete.{HasAll}
use Rattle.tl_ledger.proofs.OnlyPartials.{all_mapped, all_numbers, none_of, number_in_range, no_full_over}

pub untrue : (b : Bool) → b ≡ false → IsTrue b → ⊥
untrue b f t = cc

-- ---- members

has_head : {X : Type 0} (x : X) (xs : List X) → Contains (x ∷ xs) x
has_head x xs = (0, omega arith, refl)

cons_cases : {X : Type 0} (x : X) (xs : List X) (y : X) → Contains (x ∷ xs) y → (x ≡ y) ⊎ Contains xs y
cons_cases x xs y (zero, less, at) = inl at
cons_cases x xs y (suc k, less, at) = inr (k, omega (arith, less), at)

none_has : {X : Type 0} (y : X) → Contains [] y → ⊥
none_has y (k, less, at) = omega (arith, less)

-- ---- what is read is there

-- a tile that the hashes of the partial tiles need was read
tile_there : (size : ℕ) (items : List Item) (indexes : List ℕ) (t : Tile) → size < 2 ^ 32 → HasPartials size items
    → ((below : t.index < level_count size (t.level + 1)) → Any (λ index. IsOverNumber index t) indexes → ⊥)
    → IsTileOf size t → IsNeededFor size indexes t → HasItem items (resource.Tile t)
tile_there size items indexes t small has none of_log needed =
    let path : IsTile t = tile_has_path size t (omega (arith, small)) of_log in
    let low : t.level < 8 = omega (arith, path.level) in
    elim of_log as (λ _. HasItem items (resource.Tile t)) [
      | inr part ↦ has (resource.Tile t) (low, part.0, part.1)
      | inl full ↦
          elim needed as (λ _. HasItem items (resource.Tile t)) [
            | inl part ↦ has (resource.Tile t) (low, part.1.0, part.1.1)
            | inr over ↦ absurd (none full.1 over)
          ]
    ]

-- so none is lacking
none_lacking : (H : Digest) (items : List Item) (read : Reading) → read.size < 2 ^ 32 → HasPartials read.size items
    → ((t : Tile) → t.index < level_count read.size (t.level + 1) → Any (λ index. IsOverNumber index t) read.indexes → ⊥)
    → LacksNeeded H (λ t. IsTile t → LacksItem items (resource.Tile t)) read → ⊥
none_lacking H items read small has none (t, lack) =
    let there = tile_there read.size items read.indexes t small has (none t) lack.of_log lack.lacks.1 in
    lack.lacks.0 (tile_has_path read.size t (omega (arith, small)) lack.of_log) there.0 there.1

full_of_edge : (size : ℕ) (t : Tile) → t.index < level_count size (t.level + 1) → Any (λ index. IsOverNumber index t) (numbers_below size 8) → ⊥
full_of_edge size t below =
    none_of (λ index. IsOverNumber index t) (numbers_below size 8) (all_numbers (λ index. IsOverNumber index t → ⊥) size 8 (λ level place less low high. no_full_over size level place t low below))

-- the reader of the edge finds all it asks for
not_memory : (f : ReadFault) → f ≡ read.OutOfRange → f ≡ read.OutOfMemory → ⊥
not_memory f a b = cc

not_memory_either : (f : ReadFault) → f ≡ read.Source → f ≡ read.OutOfMemory → ⊥
not_memory_either f a b = cc

pub edge_in_range : (H : Digest) (lacks : Tile → Type 0) (size : ℕ) (root : Bytes) (fetched : List (Tile × Bytes)) (f : ReadFault) → size < 2 ^ 32 → f ≡ read.OutOfRange
    → (f ≡ read.OutOfMemory) ⊎ GivesNumbersFault H lacks (record { size = size; root = root; indexes = numbers_below size 8; fetched = fetched }) f → ⊥
edge_in_range H lacks size root fetched f small is (inl same) = not_memory f is same
edge_in_range H lacks size root fetched f small is (inr either) =
    let gives : GivesNumbersFault H lacks (record { size = size; root = root; indexes = numbers_below size 8; fetched = fetched }) read.OutOfRange =
    subst (GivesNumbersFault H lacks (record { size = size; root = root; indexes = numbers_below size 8; fetched = fetched })) is either in
    none_of (λ index. readable_count size ≤ index) (numbers_below size 8) (all_numbers (λ index. readable_count size ≤ index → ⊥) size 8 (λ level place less low high. number_in_range size level place small high)) gives.0

pub edge_there : (H : Digest) (items : List Item) (size : ℕ) (root : Bytes) (fetched : List (Tile × Bytes)) (f : ReadFault) → size < 2 ^ 32 → HasPartials size items → f ≡ read.Source
    → (f ≡ read.OutOfMemory)
    ⊎ GivesNumbersFault H (λ t. IsTile t → LacksItem items (resource.Tile t)) (record { size = size; root = root; indexes = numbers_below size 8; fetched = fetched }) f
    → ⊥
edge_there H items size root fetched f small has is (inl same) = not_memory_either f is same
edge_there H items size root fetched f small has is (inr either) =
    let gives : GivesNumbersFault H (λ t. IsTile t → LacksItem items (resource.Tile t)) (record { size = size; root = root; indexes = numbers_below size 8; fetched = fetched }) read.Source =
    subst (GivesNumbersFault H (λ t. IsTile t → LacksItem items (resource.Tile t)) (record { size = size; root = root; indexes = numbers_below size 8; fetched = fetched })) is either in
    none_lacking H items (record { size = size; root = root; indexes = numbers_below size 8; fetched = fetched }) small has (full_of_edge size) gives.1

-- ---- the partial bundle

pub last_width : (size : ℕ) → bundle_width size (size / 256) ≡ size % 256
last_width size = rw (le-ltb (size / 256) (size / 256) (omega arith)) refl

full_of_leaves : (size : ℕ) (t : Tile) → t.index < level_count size (t.level + 1) → Any (λ index. IsOverNumber index t) (leaf_numbers (256 * (size / 256)) (size % 256)) → ⊥
full_of_leaves size t below =
    let same : level_count size 0 ≡ size = omega arith in
    none_of (λ index. IsOverNumber index t) (leaf_numbers (256 * (size / 256)) (size % 256))
    (all_mapped (λ index. IsOverNumber index t → ⊥) (λ i. stored_index 0 (256 * (size / 256) + i)) 0 (size % 256)
    (λ i low high. no_full_over size 0 (256 * (size / 256) + i) t (omega (arith, same)) below))

any_path : (items : List Item) (read : Reading) → LacksNeeded sha256 (λ t. LacksItem items (resource.Tile t)) read → LacksNeeded sha256 (λ t. IsTile t → LacksItem items (resource.Tile t)) read
any_path items read (t, lack) = (t, record { lacks = ((λ path. lack.lacks.0), lack.lacks.1); of_log = lack.of_log; next = lack.next })

-- no tile over the partial bundle is lacking, nor the bundle
pub entries_there : (items : List Item) (size : ℕ) (root : Bytes) (fetched : List (Tile × Bytes)) (fault : ClientFault) → size < 2 ^ 32 → 0 < size % 256 → HasPartials size items
    → fault ≡ client.Unavailable
    → RefusesEntries (λ r text. Contains items (r, text)) (λ r. LacksItem items r) (record { size = size; root = root; bundle = size / 256; fetched = fetched }) fault → ⊥
entries_there items size root fetched fault small part has is refused =
    let own : RefusesEntries (λ r text. Contains items (r, text)) (λ r. LacksItem items r) (record { size = size; root = root; bundle = size / 256; fetched = fetched }) client.Unavailable =
    subst (RefusesEntries (λ r text. Contains items (r, text)) (λ r. LacksItem items r) (record { size = size; root = root; bundle = size / 256; fetched = fetched })) is refused in
    elim own.1 as (λ _. ⊥) [
      | inl bundle ↦
          let there = has (resource.Entries (size / 256) (size % 256)) (refl, refl, part) in
          subst (λ (w : ℕ). LacksItem items (resource.Entries (size / 256) w)) (last_width size) bundle there.0 there.1
      | inr tile ↦
          none_lacking sha256 items (leaf_reading size root (256 * (size / 256)) (size % 256) fetched) small has (full_of_leaves size)
          (subst (λ (w : ℕ). LacksNeeded sha256 (λ t. IsTile t → LacksItem items (resource.Tile t)) (leaf_reading size root (256 * (size / 256)) w fetched)) (last_width size) (any_path items (bundle_leaves (record { size = size; root = root; bundle = size / 256; fetched = fetched })) tile))
    ]

-- ---- items

pub lacks_more : {A : Type 0} (items : List (Resource × Vec ℕ A)) (i : ℕ) (v : Resource × Vec ℕ A) (r : Resource) → i < length items → v ≡ get_or items i v → (v.0 ≡ r → ⊥)
    → LacksItem (items_of (take i items)) r → LacksItem (items_of (take (i + 1) items)) r
lacks_more {A = A} items i v r less is other lacks = λ text has.
    let next : i + 1 ≡ suc i = omega arith in
    let f : Resource × Vec ℕ A → Item = λ x. (x.0, vec_items x.1) in
    let split : items_of (take (i + 1) items) ≡ items_of (take i items) ++ f v ∷ [] =
    ap (λ (n : ℕ). map f (take n items)) next ∙ ap (map f) (take-suc items i v less) ∙ map-append f (take i items) (get_or items i v ∷ []) ∙ ap (λ (x : Resource × Vec ℕ A). map f (take i items) ++ f x ∷ []) (sym is) in
    elim (Contains-append_cases (items_of (take i items)) (f v ∷ []) (r, text) (subst (λ (xs : List Item). Contains xs (r, text)) split has)) as (λ _. ⊥) [
      | inl before ↦ lacks text before
      | inr last ↦
          elim (cons_cases (f v) [] (r, text) last) as (λ _. ⊥) [
            | inl same ↦ other (ap (λ (x : Item). x.0) same)
            | inr none ↦ none_has (r, text) none
          ]
    ]

-- ---- reading

pub partial_needed : (size : ℕ) (r : Resource) → IsPartial size r → Contains (needed_resources size) r
partial_needed size (resource.Tile t) (low, is, some) =
    let count : ℕ = level_count size t.level in
    let index : t.index ≡ count / 256 = ap (λ (x : Tile). x.index) is in
    let width : t.width ≡ count % 256 = ap (λ (x : Tile). x.width) is in
    needs_has (resource.Tile t) size (tile_needs t size low (inr (some, omega (arith, width), omega (arith, index, width))))
partial_needed size (resource.Entries index width) (index_is, width_is, some) =
    needs_has (resource.Entries index width) size (bundle_needs index width size (inr (some, omega (arith, width_is), omega (arith, index_is, width_is))))
partial_needed size resource.Checkpoint none = absurd none

pub level_partial : (size level : ℕ) (t : Tile) → level < 8 → t ≡ partial_tile size level → 0 < t.width → IsPartial size (resource.Tile t)
level_partial size level t low is some =
    let level_is : t.level ≡ level = ap (λ (x : Tile). x.level) is in
    (omega (arith, low, level_is), is ∙ ap (partial_tile size) (sym level_is), some)

pub read_more : (honest : Bool) (held : Held) (before after : List Item) (r : Resource) (text : Bytes) → after ≡ before ++ (r, text) ∷ [] → (honest ≡ true → held r ≡ Some text) → ReadsOn honest held before after
read_more honest held before after r text is there = record {
  keeps = λ i has. subst (λ (xs : List Item). Contains xs i) (sym is) (Contains-append_left before ((r, text) ∷ []) i has);
  still = λ so_far own q t has.
      elim (Contains-append_cases before ((r, text) ∷ []) (q, t) (subst (λ (xs : List Item). Contains xs (q, t)) is has)) as (λ _. held q ≡ Some t) [
        | inl old ↦ so_far own q t old
        | inr new ↦
            elim (cons_cases (r, text) [] (q, t) new) as (λ _. held q ≡ Some t) [
              | inl same ↦ subst (λ (i : Item). held i.0 ≡ Some i.1) same (there own)
              | inr none ↦ absurd (none_has (q, t) none)
            ]
      ];
}

pub read_last : (before after : List Item) (r : Resource) (text : Bytes) → after ≡ before ++ (r, text) ∷ [] → HasItem after r
read_last before after r text is =
    (text, subst (λ (xs : List Item). Contains xs (r, text)) (sym is) (Contains-append_right before ((r, text) ∷ []) (r, text) (has_head (r, text) [])))

pub no_levels : (size : ℕ) (items : List Item) → HasLevels size 0 items
no_levels size items level less = absurd (omega (arith, less))

pub nothing_held : (honest : Bool) (held : Held) (items : List Item) → items ≡ [] → AreHeld honest held items
nothing_held honest held items none own r text has = absurd (none_has (r, text) (subst (λ (xs : List Item). Contains xs (r, text)) none has))

pub levels_on : (honest : Bool) (held : Held) (size level : ℕ) (before after : List Item) → HasLevels size level before → ReadsOn honest held before after → HasLevel size level after → HasLevels size (level + 1) after
levels_on honest held size level before after so_far on here l less some =
    elim (cases_lt l level) as (λ _. HasItem after (resource.Tile (partial_tile size l))) [
      | inl low ↦ (let there = so_far l low some in (there.0, on.keeps (resource.Tile (partial_tile size l), there.0) there.1))
      | inr high ↦
          let same : level ≡ l = omega (arith, less, high) in
          subst (λ (x : ℕ). HasLevel size x after) same here some
    ]

pub all_partials : (honest : Bool) (held : Held) (size level : ℕ) (before after : List Item) → 8 ≤ level → HasLevels size level before → ReadsOn honest held before after → HasBundle size after → HasPartials size after
all_partials honest held size level before after end so_far on last (resource.Tile t) (low, is, some) =
    let width : t.width ≡ (partial_tile size t.level).width = ap (λ (x : Tile). x.width) is in
    let there = so_far t.level (omega (arith, low, end)) (omega (arith, some, width)) in
    let own : HasItem after (resource.Tile (partial_tile size t.level)) = (there.0, on.keeps (resource.Tile (partial_tile size t.level), there.0) there.1) in
    subst (λ (x : Tile). HasItem after (resource.Tile x)) (sym is) own
all_partials honest held size level before after end so_far on last (resource.Entries index width) (index_is, width_is, some) =
    let there = last (omega (arith, some, width_is)) in
    subst (λ (x : ℕ). HasItem after (resource.Entries x width)) (sym index_is) (subst (λ (x : ℕ). HasItem after (resource.Entries (size / 256) x)) (sym width_is) there)
all_partials honest held size level before after end so_far on last resource.Checkpoint none = absurd none

-- ---- the ledger

last_entries : (size : ℕ) (log : List Bytes) → length log ≡ size → bundle_entries size (size / 256) log ≡ drop (length log / 256 * 256) log
last_entries size log sized =
    let rest : List Bytes = drop (256 * (size / 256)) log in
    let short : length rest ≤ size % 256 = omega (arith, length-drop (256 * (size / 256)) log, sized) in
    let start : 256 * (size / 256) ≡ length log / 256 * 256 = omega (arith, ap (λ (n : ℕ). n / 256) sized) in
    ap (λ (w : ℕ). take w rest) (last_width size) ∙ take_all (size % 256) rest short ∙ ap (λ (n : ℕ). drop n log) start

pub checked_bundle : (head : Head) (entries : List Bytes) (fetched : List (Tile × Bytes)) (bundle : Bytes) → AreCheckedEntries sha256 (tiles_of fetched) head.size head.root (head.size / 256) entries
    → bundle ≡ bundle_text entries → IsBundleOf head entries fetched bundle
checked_bundle head entries fetched bundle checked is = λ log is_log.
    elim (checked.those log is_log.0 is_log.1) as (λ _. (bundle ≡ bundle_text (drop (length log / 256 * 256) log)) ⊎ (LeavesCollide sha256 entries log ⊎ TilesCollide sha256 (tiles_of fetched) head.size log)) [
      | inl same ↦ inl (is ∙ ap bundle_text (same ∙ last_entries head.size log is_log.0))
      | inr collide ↦ inr collide
    ]

pub restored : (head : Head) (edge_tiles entry_tiles : List (Tile × Bytes)) (entries : List Bytes) (edge : EdgeContents) (bundle : Bytes) (ledger : Ledger)
    → ledger ≡ record { edge = edge; bundle = bundle } → edge.size ≡ head.size
    → ((log : List Bytes) → IsLogAt head log → IsEdgeOf edge sha256 log ⊎ TilesCollide sha256 (tiles_of edge_tiles) head.size log)
    → IsBundleOf head entries entry_tiles bundle
    → Restores head (record { head = Some head; edge_tiles = edge_tiles; entries = entries; entry_tiles = entry_tiles }) ledger
restored head edge_tiles entry_tiles entries edge bundle ledger is sized at_edge at_bundle =
    let found : Found = record { head = Some head; edge_tiles = edge_tiles; entries = entries; entry_tiles = entry_tiles } in
    record {
      sized = ap (λ (x : Ledger). x.edge.size) is ∙ sized;
      stands = λ log is_log.
          elim (at_edge log is_log) as (λ _. IsStanding sha256 log ledger ⊎ FoundCollides sha256 found log) [
            | inr collide ↦ inr (inl collide)
            | inl edge_is ↦
                elim (at_bundle log is_log) as (λ _. IsStanding sha256 log ledger ⊎ FoundCollides sha256 found log) [
                  | inr collide ↦ inr (inr collide)
                  | inl bundle_is ↦ inl (subst (IsStanding sha256 log) (sym is) (record { at_edge = edge_is; at_bundle = bundle_is }))
                ]
          ];
    }

-- ---- opened

pub opens_none : (keys : List Key) (found : Found) (ledger : Ledger) → found.head ≡ None → IsStanding sha256 [] ledger → Opens sha256 keys found ledger
opens_none keys found ledger none stands = record {
  signed = subst (IsOfSigned keys) (sym none) tt;
  sized = sym stands.at_edge.0 ∙ ap found_size (sym none);
  stands = λ log is_log.
      let empty : log ≡ [] = subst (λ (h : Option Head). IsLogOf sha256 h log) none is_log in
      inl (subst (λ (xs : List Bytes). IsStanding sha256 xs ledger) (sym empty) stands);
}

pub opens_some : (keys : List Key) (found : Found) (head : Head) (ledger : Ledger) → found.head ≡ Some head → IsOfSigned keys (Some head) → Restores head found ledger → Opens sha256 keys found ledger
opens_some keys found head ledger is signed restores = record {
  signed = subst (IsOfSigned keys) (sym is) signed;
  sized = restores.sized ∙ ap found_size (sym is);
  stands = λ log is_log. restores.stands log (subst (λ (h : Option Head). IsLogOf sha256 h log) is is_log);
}

-- ---- if the shelf has all that the log needs

pub whole_tiles : (items : List Item) (held : Held) (size : ℕ) (fetched : List (Tile × Bytes)) (log : List Bytes) → size < 2 ^ 32 → AreThere held items → length log ≡ size → HasAll sha256 log held
    → AreAnswers (λ t text. Contains items (resource.Tile t, text)) size fetched → AreHonest sha256 (tiles_of fetched) log
whole_tiles items held size fetched log small there sized all answers =
    complete_tiles sha256 log held (omega (arith, small, sized)) all fetched
    (λ k d less. let own = answers k d less in (subst (λ (n : ℕ). IsTileOf n (slice_index_or fetched k d).0) (sym sized) own.0, there (resource.Tile (slice_index_or fetched k d).0) (slice_index_or fetched k d).1 own.1))

pub whole_bundle : (items : List Item) (held : Held) (size : ℕ) (bundle : Bytes) (log : List Bytes) → AreThere held items → length log ≡ size → HasAll sha256 log held
    → IsBundleRead items size bundle → bundle ≡ bundle_text (drop (length log / 256 * 256) log)
whole_bundle items held size bundle log there sized all (inl (none, empty)) =
    let end : length log ≤ length log / 256 * 256 = omega (arith, none, sized) in
    empty ∙ ap bundle_text (sym (drop_all (length log / 256 * 256) log end))
whole_bundle items held size bundle log there sized all (inr (some, has)) =
    let r : Resource = resource.Entries (size / 256) (size % 256) in
    let needed : Contains (needed_resources (length log)) r = subst (λ (n : ℕ). Contains (needed_resources n) r) (sym sized) (partial_needed size r (refl, refl, some)) in
    let same : bundle ≡ bundle_text (take (size % 256) (drop (size / 256 * 256) log)) = Some-injective _ _ (sym (there r bundle has) ∙ all r needed) in
    let rest : List Bytes = drop (size / 256 * 256) log in
    let short : length rest ≤ size % 256 = omega (arith, length-drop (size / 256 * 256) log, sized) in
    same ∙ ap bundle_text (take_all (size % 256) rest short) ∙ ap (λ (n : ℕ). bundle_text (drop (n / 256 * 256) log)) (sym sized)

pub whole_ledger : (items : List Item) (size : ℕ) (fetched : List (Tile × Bytes)) (edge : EdgeContents) (bundle : Bytes) (ledger : Ledger) → ledger ≡ record { edge = edge; bundle = bundle } → size < 2 ^ 32
    → ((log : List Bytes) → length log ≡ size → AreHonest sha256 (tiles_of fetched) log → IsEdgeOf edge sha256 log)
    → AreAnswers (λ t text. Contains items (resource.Tile t, text)) size fetched → IsBundleRead items size bundle → StandsWhereRead items size ledger
whole_ledger items size fetched edge bundle ledger is small at_edge answers read_is held there log sized all =
    subst (IsStanding sha256 log) (sym is) (record {
      at_edge = at_edge log sized (whole_tiles items held size fetched log small there sized all answers);
      at_bundle = whole_bundle items held size bundle log there sized all read_is;
    })

pub stands_whole : (items : List Item) (held : Held) (found : Found) (head : Head) (ledger : Ledger) → AreThere held items → found.head ≡ Some head → StandsWhereRead items head.size ledger
    → StandsWhereWhole sha256 held found ledger
stands_whole items held found head ledger there is stands log sized all = stands held there log (sized ∙ ap found_size is) all

-- ---- faults

more_bundle : (A B : Resource → Bytes → Type 0) (read : BundleRead) (width : ℕ) → ((r : Resource) (text : Bytes) → A r text → B r text) → IsBadBundle A read width → IsBadBundle B read width
more_bundle A B read width f (inl (text, answered, none)) = inl (text, f (resource.Entries read.bundle width) text answered, none)
more_bundle A B read width f (inr (inl (entry, (entries, are, answered, other)))) =
    inr (inl (entry, (entries, are, f (resource.Entries read.bundle (bundle_width read.size read.bundle)) (bundle_text entries) answered, other)))
more_bundle A B read width f (inr (inr other)) =
    inr (inr (record { text = other.text; entries = other.entries; answered = f (resource.Entries read.bundle width) other.text other.answered; checked = other.checked; other = other.other }))

more_damage : (A B : Resource → Bytes → Type 0) (head : Head) (edge_tiles entry_tiles : List (Tile × Bytes)) (r : Resource) → ((r : Resource) (text : Bytes) → A r text → B r text)
    → IsDamaged A head edge_tiles entry_tiles r → IsDamaged B head edge_tiles entry_tiles r
more_damage A B head edge_tiles entry_tiles (resource.Tile t) f is = is
more_damage A B head edge_tiles entry_tiles (resource.Entries index width) f is = (is.0, is.1, more_bundle A B (last_read head entry_tiles) width f is.2)
more_damage A B head edge_tiles entry_tiles resource.Checkpoint f none = absurd none

-- the checkpoint that was found
has_signed : (honest : Bool) (held : Held) (keys : List Key) (stated : Option Head) (head : Head) (found : Found) (Holds : Head → Type 0) → found.head ≡ Some head → stated ≡ Some head → IsOfSigned keys stated
    → (honest ≡ true → IsOfHeld held keys stated) → Holds head → HasSigned honest held keys found.head Holds
has_signed honest held keys stated head found Holds is own_is signed there holds = record {
  signed = subst (IsOfSigned keys) (own_is ∙ sym is) signed;
  there = λ own. subst (IsOfHeld held keys) (own_is ∙ sym is) (there own);
  head = head;
  is = is;
  holds = holds;
}

-- a part was not read, or not restored
pub head_unread : (honest : Bool) (held : Held) (may_fail : Resource → ShelfFault → Type 0) (head : Head) (found : Found) (fault : OpenFault) → ReadFails honest held may_fail head.size fault → HeadFails honest held may_fail head found fault
head_unread honest held may_fail head found opening.Checkpoint none = none
head_unread honest held may_fail head found opening.OtherLog none = none
head_unread honest held may_fail head found opening.TooLarge none = none
head_unread honest held may_fail head found (opening.Missing r) missing = missing
head_unread honest held may_fail head found (opening.Damaged r) none = absurd none
head_unread honest held may_fail head found (opening.Shelf fault) fails = fails
head_unread honest held may_fail head found opening.OutOfMemory memory = tt

pub part_failed : (honest : Bool) (held : Held) (may_fail : Resource → ShelfFault → Type 0) (items : List Item) (head : Head) (found : Found) (fault : OpenFault) → AreHeld honest held items
    → PartFails (λ r text. Contains items (r, text)) head found.edge_tiles found.entry_tiles fault → HeadFails honest held may_fail head found fault
part_failed honest held may_fail items head found opening.Checkpoint read none = none
part_failed honest held may_fail items head found opening.OtherLog read none = none
part_failed honest held may_fail items head found opening.TooLarge read none = none
part_failed honest held may_fail items head found (opening.Missing r) read none = absurd none
part_failed honest held may_fail items head found (opening.Damaged r) read damaged =
    more_damage (λ r text. Contains items (r, text)) (MayRead honest held) head found.edge_tiles found.entry_tiles r (λ q text has own. read own q text has) damaged
part_failed honest held may_fail items head found (opening.Shelf fault) read none = absurd none
part_failed honest held may_fail items head found opening.OutOfMemory read memory = tt

-- a log was not opened as its checkpoint states it
pub head_failed : (honest : Bool) (held : Held) (may_fail : Resource → ShelfFault → Type 0) (keys : List Key) (stated : Option Head) (head : Head) (found : Found) (fault : OpenFault) → found.head ≡ Some head → stated ≡ Some head
    → IsOfSigned keys stated → (honest ≡ true → IsOfHeld held keys stated) → HeadFails honest held may_fail head found fault → OpenFails honest held may_fail keys found fault
head_failed honest held may_fail keys stated head found opening.Checkpoint is own_is signed there none = absurd none
head_failed honest held may_fail keys stated head found opening.OtherLog is own_is signed there none = absurd none
head_failed honest held may_fail keys stated head found opening.TooLarge is own_is signed there none = absurd none
head_failed honest held may_fail keys stated head found (opening.Missing r) is own_is signed there missing =
    has_signed honest held keys stated head found (λ head. IsMissing honest held head.size r) is own_is signed there missing
head_failed honest held may_fail keys stated head found (opening.Damaged r) is own_is signed there damaged =
    has_signed honest held keys stated head found (λ head. IsDamaged (MayRead honest held) head found.edge_tiles found.entry_tiles r) is own_is signed there damaged
head_failed honest held may_fail keys stated head found (opening.Shelf fault) is own_is signed there fails = fails
head_failed honest held may_fail keys stated head found opening.OutOfMemory is own_is signed there memory = tt

-- a log was not opened as a note states it
pub note_failed : (honest : Bool) (held : Held) (may_fail : Resource → ShelfFault → Type 0) (note : Bytes) (keys : List Key) (head : Head) (found : Found) (fault : OpenFault) → found.head ≡ Some head
    → IsOfNote note keys head → HeadFails honest held may_fail head found fault → OpenNoteFails honest held may_fail note keys found fault
note_failed honest held may_fail note keys head found opening.Checkpoint is signed none = absurd none
note_failed honest held may_fail note keys head found opening.OtherLog is signed none = absurd none
note_failed honest held may_fail note keys head found opening.TooLarge is signed none = absurd none
note_failed honest held may_fail note keys head found (opening.Missing r) is signed missing = record { head = head; is = is; signed = signed; holds = missing }
note_failed honest held may_fail note keys head found (opening.Damaged r) is signed damaged = record { head = head; is = is; signed = signed; holds = damaged }
note_failed honest held may_fail note keys head found (opening.Shelf fault) is signed fails = fails
note_failed honest held may_fail note keys head found opening.OutOfMemory is signed memory = tt
