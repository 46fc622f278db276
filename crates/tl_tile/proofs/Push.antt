-- One fetched tile more.
use Rattle.std.proofs.Common.{◌≡◌, ℕ, ◌+◌, ◌-◌, ◌*◌, ◌/◌, ◌%◌, ◌^◌, ◌<◌, ◌≤◌, ◌⊎◌, inl, inr, Bool, true, false, ◌&&◌, eqb, List, [], ◌∷◌, ◌++◌, append_assoc, length, Option, Some, None, refl, sym, ap, subst, ◌∙◌, arith}
use Rattle.std.proofs.lemmas.Bool.{cases_Bool, cases_lt, and_parts, eqb-true, eq-eqb}
use Rattle.std.specs.Prelude.{◌≢◌}
use Rattle.std.proofs.lemmas.List.{map-append, length-append, same_from_push}
use Rattle.tl_hash.specs.Bytes.{Digest}
use Rattle.tl_tile.specs.declared.resource.Tile.{Tile}
use Rattle.tl_tile.specs.TileText.{level_count, full_tile, partial_tile, tile_with}
use Rattle.tl_tile.specs.Folds.{Tiles, IsFold, nothing, given, split, IsEdgeHash, FoldsToAbove}
use Rattle.tl_tile.specs.FetchedEdge.{HasEdge}
use Rattle.tl_tile.specs.Inner.EdgeRoot.{Part}
use Rattle.tl_tile.specs.Fetched.{same_tile, tiles_of}
use Rattle.tl_tile.specs.Source.{HasTileWith, IsHashWith}
use Rattle.tl_tile.specs.Inner.Steps.{IsNotFetched, IsThere}
use Rattle.tl_tile.specs.Fetching.{BeginsWithEdge, edge_tiles}
use Rattle.tl_tile.specs.Verified.{AreVerified, ComesNext}
use Rattle.tl_tile.specs.SourceFaults.{IsLast, IsBadTile}
use Rattle.tl_tile.proofs.Edges.{Some-injective, under_within}
use Rattle.tl_tile.proofs.Checked.{level_count-above, tile_with-full, tile_with-partial}

pub cases_option : {A : Type 0} (o : Option A) → (o ≡ None) ⊎ ((r : A) × (o ≡ Some r))
cases_option None = inl refl
cases_option (Some r) = inr (r, refl)

pub same_tile-is : (a b : Tile) → same_tile a b ≡ true → a ≡ b
same_tile-is a b same =
    let outer = and_parts (eqb a.level b.level && eqb a.index b.index) (eqb a.width b.width) same in
    let inner = and_parts (eqb a.level b.level) (eqb a.index b.index) outer.0 in
    let made : ℕ → ℕ → ℕ → Tile = λ l i w. record { level = l; index = i; width = w } in
    λ i. made (eqb-true a.level b.level inner.0 i) (eqb-true a.index b.index inner.1 i) (eqb-true a.width b.width outer.1 i)

pub same_tile-self : (a : Tile) → same_tile a a ≡ true
same_tile-self a = rw (eq-eqb a.level a.level refl, eq-eqb a.index a.index refl, eq-eqb a.width a.width refl) refl

pub tiles_of-old : (xs : List (Tile × List ℕ)) (f : Tile × List ℕ) (t : Tile) (text : List ℕ) → tiles_of xs t ≡ Some text → tiles_of (xs ++ f ∷ []) t ≡ Some text
tiles_of-old [] f t text found = absurd (cc)
tiles_of-old (x ∷ xs) f t text found =
    elim (cases_Bool (same_tile x.0 t)) as (λ _. tiles_of (x ∷ xs ++ f ∷ []) t ≡ Some text) [
      | inl same ↦ rw same (rw same at found)
      | inr differ ↦ rw differ (tiles_of-old xs f t text (rw differ at found))
    ]

pub tiles_of-new : (xs : List (Tile × List ℕ)) (f : Tile × List ℕ) (t : Tile) → f.0 ≡ t → tiles_of xs t ≡ None → tiles_of (xs ++ f ∷ []) t ≡ Some f.1
tiles_of-new [] f t is none =
    let same : same_tile f.0 t ≡ true = ap (same_tile f.0) (sym is) ∙ same_tile-self f.0 in
    rw same refl
tiles_of-new (x ∷ xs) f t is none =
    elim (cases_Bool (same_tile x.0 t)) as (λ _. tiles_of (x ∷ xs ++ f ∷ []) t ≡ Some f.1) [
      | inl same ↦ (let found = rw same at none in absurd (cc))
      | inr differ ↦ rw differ (tiles_of-new xs f t is (rw differ at none))
    ]

pub tiles_of-cases : (xs : List (Tile × List ℕ)) (f : Tile × List ℕ) (t : Tile) (text : List ℕ) → tiles_of (xs ++ f ∷ []) t ≡ Some text
    → (tiles_of xs t ≡ Some text) ⊎ ((f.0 ≡ t) × (f.1 ≡ text))
tiles_of-cases [] f t text found =
    elim (cases_Bool (same_tile f.0 t)) as (λ _. (tiles_of [] t ≡ Some text) ⊎ ((f.0 ≡ t) × (f.1 ≡ text))) [
      | inl same ↦ inr (same_tile-is f.0 t same, Some-injective f.1 text (rw same at found))
      | inr differ ↦ (let none = rw differ at found in absurd (cc))
    ]
tiles_of-cases (x ∷ xs) f t text found =
    elim (cases_Bool (same_tile x.0 t)) as (λ _. (tiles_of (x ∷ xs) t ≡ Some text) ⊎ ((f.0 ≡ t) × (f.1 ≡ text))) [
      | inl same ↦ inl (rw same (rw same at found))
      | inr differ ↦
          elim (tiles_of-cases xs f t text (rw differ at found)) as (λ _. (tiles_of (x ∷ xs) t ≡ Some text) ⊎ ((f.0 ≡ t) × (f.1 ≡ text))) [
            | inl before ↦ inl (rw differ before)
            | inr here ↦ inr here
          ]
    ]

-- a fold is one of other given hashes that are the same
pub IsFold-map : (H : Digest) (F G : ℕ → ℕ → List ℕ → Type 0) → ((s c : ℕ) (h : List ℕ) → F s c h → G s c h) → ((s c : ℕ) (h : List ℕ) → G s c h → F s c h)
    → (start count : ℕ) (hash : List ℕ) (strings : List (List ℕ)) → IsFold H F start count hash strings → IsFold H G start count hash strings
IsFold-map H F G to from start count hash strings (nothing s) = nothing s
IsFold-map H F G to from start count hash strings (given s c h some is) = given s c h some (to s c h is)
IsFold-map H F G to from start count hash strings (split s c k left right lefts rights none at first second) =
    split s c k left right lefts rights (λ h is. none h (from s c h is)) at
    (IsFold-map H F G to from s k left lefts first) (IsFold-map H F G to from (s + k) (c - k) right rights second)

-- the first tiles stay the first
pub first-push : (size : ℕ) (xs : List (Tile × List ℕ)) (f : Tile × List ℕ) → BeginsWithEdge size xs → BeginsWithEdge size (xs ++ f ∷ [])
first-push size xs f (rest, is) =
    let view : Tile × List ℕ → Tile = λ x. x.0 in
    (rest ++ f.0 ∷ [], map-append view xs (f ∷ []) ∙ ap (λ (list : List Tile). list ++ f.0 ∷ []) is ∙ append_assoc (edge_tiles size) rest (f.0 ∷ []))

-- a full tile more, with its hash in the tile above, which was fetched before
pub verified-push : (H : Digest) (size : ℕ) (root : List ℕ) (xs : List (Tile × List ℕ)) (f : Tile × List ℕ) → AreVerified H size root xs
    → (level index : ℕ) → f.0 ≡ full_tile level index → length f.1 ≡ 32 * 256
    → FoldsToAbove H (tiles_of xs) size level index f.1 → AreVerified H size root (xs ++ f ∷ [])
verified-push H size root xs f before level index is long above =
    let now : Tiles = tiles_of (xs ++ f ∷ []) in
    let was : Tiles = tiles_of xs in
    let keeps : (l i : ℕ) (text : List ℕ) → FoldsToAbove H was size l i text → FoldsToAbove H now size l i text =
    (λ l i text a. record { above = a.above; hash = a.hash; strings = a.strings; fetched = tiles_of-old xs f (tile_with size (l + 1) i) a.above a.fetched; there = a.there; folds = a.folds }) in
    let partial_was : (l : ℕ) (text : List ℕ) → now (partial_tile size l) ≡ Some text → was (partial_tile size l) ≡ Some text =
    (λ l text found. elim (tiles_of-cases xs f (partial_tile size l) text found) as (λ _. was (partial_tile size l) ≡ Some text) [
      | inl same ↦ same
      | inr other ↦ (let width : 256 ≡ level_count size l % 256 = ap (λ (t : Tile). t.width) (sym is ∙ other.0) in absurd (omega (arith, width)))
    ]) in
    let to : (s c : ℕ) (h : List ℕ) → IsEdgeHash was size s c h → IsEdgeHash now size s c h =
    (λ s c h e. record { level = e.level; place = e.place; text = e.text; starts = e.starts; counts = e.counts; on_edge = e.on_edge; fetched = tiles_of-old xs f (partial_tile size e.level) e.text e.fetched; there = e.there }) in
    let from : (s c : ℕ) (h : List ℕ) → IsEdgeHash now size s c h → IsEdgeHash was size s c h =
    (λ s c h e. record { level = e.level; place = e.place; text = e.text; starts = e.starts; counts = e.counts; on_edge = e.on_edge; fetched = partial_was e.level e.text e.fetched; there = e.there }) in
    record {
      first = first-push size xs f before.first;
      long = λ t text found.
          elim (tiles_of-cases xs f t text found) as (λ _. length text ≡ 32 * t.width) [
            | inl same ↦ before.long t text same
            | inr here ↦ sym (ap length here.1) ∙ long ∙ ap (λ (x : Tile). 32 * x.width) (sym is ∙ here.0)
          ];
      edge = λ l low wide.
          let e = before.edge l low wide in
          (e.0, record { fetched = tiles_of-old xs f (partial_tile size l) e.0 e.1.fetched; long = e.1.long });
      checked = record {
        strings = before.checked.strings;
        folds = IsFold-map H (IsEdgeHash was size) (IsEdgeHash now size) to from 0 size root before.checked.strings before.checked.folds;
        full = λ l i text less found.
            elim (tiles_of-cases xs f (full_tile l i) text found) as (λ _. FoldsToAbove H now size l i text) [
              | inl same ↦ keeps l i text (before.checked.full l i text less same)
              | inr here ↦
                  let level_is : level ≡ l = ap (λ (t : Tile). t.level) (sym is ∙ here.0) in
                  let index_is : index ≡ i = ap (λ (t : Tile). t.index) (sym is ∙ here.0) in
                  subst (λ (x : ℕ). FoldsToAbove H now size x i text) level_is
                  (subst (λ (x : ℕ). FoldsToAbove H now size level x text) index_is
                  (subst (λ (x : List ℕ). FoldsToAbove H now size level index x) here.1 (keeps level index f.1 above)))
            ];
      };
    }

pub there-more : (xs ys : List (Tile × List ℕ)) (f : Tile × List ℕ) (t : Tile) → ys ≡ xs ++ f ∷ [] → f.0 ≡ t → (text : List ℕ) × (tiles_of ys t ≡ Some text)
there-more xs ys f t pushed is =
    subst (λ (zs : List (Tile × List ℕ)). (text : List ℕ) × (tiles_of zs t ≡ Some text)) (sym pushed)
    (elim (cases_option (tiles_of xs t)) as (λ _. (text : List ℕ) × (tiles_of (xs ++ f ∷ []) t ≡ Some text)) [
      | inl none ↦ (f.1, tiles_of-new xs f t is none)
      | inr (text, found) ↦ (text, tiles_of-old xs f t text found)
    ])

-- a tile that was not fetched is a full one
pub full_when_missing : (tiles : Tiles) (size level place : ℕ) → HasEdge tiles size → size ≤ 2 ^ 62 → level ≤ 7 → place < level_count size level → tiles (tile_with size level place) ≡ None
    → IsNotFetched tiles size level place
full_when_missing tiles size level place edge small low less missing =
    elim (cases_lt (place / 256) (level_count size level / 256)) as (λ _. IsNotFetched tiles size level place) [
      | inr more ↦
          let here = edge level (omega (arith, low)) (omega (arith, more, less)) in
          let both : Some here.0 ≡ None = sym here.1.fetched ∙ ap tiles (sym (tile_with-partial size level place more)) ∙ missing in
          absurd (cc)
      | inl full ↦
          let above : place / 256 < level_count size (level + 1) = omega (arith, full, level_count-above size level) in
          let within : (place / 256 + 1) * 256 ^ (level + 1) ≤ size = under_within size (level + 1) (place / 256) above in
          let is : tile_with size level place ≡ full_tile level (place / 256) = tile_with-full size level place full in
          elim (cases_lt level 7) as (λ _. IsNotFetched tiles size level place) [
            | inl below ↦ record { low = below; above = above; full = is; none = ap tiles (sym is) ∙ missing }
            | inr top ↦
                let eight : level + 1 ≡ 8 = omega (arith, top, low) in
                let power : (place / 256 + 1) * 256 ^ (level + 1) ≡ (place / 256 + 1) * 256 ^ 8 = ap (λ (x : ℕ). (place / 256 + 1) * 256 ^ x) eight in
                absurd (omega (arith, within, power, small))
          ]
    ]

pub there-false : (tiles : Tiles) (size level place : ℕ) (answer : Bool) → IsThere tiles size level place answer → answer ≡ false → IsNotFetched tiles size level place
there-false tiles size level place true is holds = absurd (cc)
there-false tiles size level place false is holds = is

pub full-there : (tiles : Tiles) (size level place : ℕ) → tile_with size level place ≡ full_tile level (place / 256) → (text : List ℕ) × (tiles (full_tile level (place / 256)) ≡ Some text) → HasTileWith tiles size level place
full-there tiles size level place is (text, found) = (text, ap tiles is ∙ found)

-- ---- a full tile that was fetched, and is compared with the tile above

-- the text of a new tile is the last
pub new-text : (old new : List (Tile × List ℕ)) (tile t : Tile) (text seen : List ℕ) → new ≡ old ++ (tile, text) ∷ [] → IsLast t seen new → text ≡ seen
new-text old new tile t text seen pushed last =
    ap (λ (f : Tile × List ℕ). f.1) (same_from_push old last.0 (tile, text) (t, seen) (sym pushed ∙ last.1)).1

pub not-empty : (old new : List (Tile × List ℕ)) (f : Tile × List ℕ) → new ≡ old ++ f ∷ [] → new ≡ [] → ⊥
not-empty old new f pushed none = omega (arith, ap length (sym pushed ∙ none), length-append old (f ∷ []))

pub verified-full : (H : Digest) (size : ℕ) (root : List ℕ) (old new : List (Tile × List ℕ)) (level index : ℕ) (tile : Tile) (text seen own hash : List ℕ) → AreVerified H size root old
    → tile ≡ full_tile level index → tiles_of old tile ≡ None → new ≡ old ++ (tile, text) ∷ [] → length text ≡ 32 * tile.width → text ≡ seen
    → IsHashWith (tiles_of old) size (level + 1) index own → Part H seen 0 256 hash → own ≡ hash → AreVerified H size root new
verified-full H size root old new level index tile text seen own hash before is none pushed long seen_is above part same =
    let folds_to : Part H text 0 256 own = subst (λ (x : List ℕ). Part H x 0 256 own) (sym seen_is) (subst (λ (x : List ℕ). Part H seen 0 256 x) (sym same) part) in
    let in_above : FoldsToAbove H (tiles_of old) size level index text = record {
      above = above.0;
      hash = own;
      strings = folds_to.0;
      fetched = above.1;
      there = above.2;
      folds = folds_to.1;
    } in
    subst (AreVerified H size root) (sym pushed)
    (verified-push H size root old (tile, text) before level index is (long ∙ ap (λ (t : Tile). 32 * t.width) is) in_above)

pub bad-full : (H : Digest) (size : ℕ) (root : List ℕ) (old new : List (Tile × List ℕ)) (level index : ℕ) (tile : Tile) (text seen own hash : List ℕ) → tile ≡ full_tile level index
    → index < level_count size (level + 1) → tiles_of old tile ≡ None → new ≡ old ++ (tile, text) ∷ [] → text ≡ seen
    → IsHashWith (tiles_of old) size (level + 1) index own → Part H seen 0 256 hash → own ≢ hash → IsBadTile H size root new tile
bad-full H size root old new level index tile text seen own hash is below none pushed seen_is above part differ =
    let level_is : level ≡ tile.level = ap (λ (t : Tile). t.level) (sym is) in
    let index_is : index ≡ tile.index = ap (λ (t : Tile). t.index) (sym is) in
    let full : tile ≡ full_tile tile.level tile.index = is ∙ (λ i. full_tile (level_is i) (index_is i)) in
    let there : tile.index < level_count size (tile.level + 1) = subst (λ (x : ℕ). x < level_count size (tile.level + 1)) index_is (subst (λ (x : ℕ). index < level_count size (x + 1)) level_is below) in
    let still : tiles_of new (tile_with size (level + 1) index) ≡ Some above.0 =
    ap (λ (list : List (Tile × List ℕ)). tiles_of list (tile_with size (level + 1) index)) pushed ∙ tiles_of-old old (tile, text) (tile_with size (level + 1) index) above.0 above.1 in
    let later : IsHashWith (tiles_of new) size (level + 1) index own = (above.0, still, above.2) in
    record {
      of_log = inl (full, there);
      because = inr (inr (record {
        text = seen;
        last = (old, pushed ∙ ap (λ (x : List ℕ). old ++ (tile, x) ∷ []) seen_is);
        own = own;
        hash = hash;
        strings = part.0;
        full = full;
        below = there;
        above = subst (λ (x : ℕ). IsHashWith (tiles_of new) size (tile.level + 1) x own) index_is (subst (λ (x : ℕ). IsHashWith (tiles_of new) size (x + 1) index own) level_is later);
        folds = part.1;
        differ = differ;
      }));
    }

-- a full tile comes next
pub next-full : (H : Digest) (size : ℕ) (root : List ℕ) (xs : List (Tile × List ℕ)) (level index : ℕ) → AreVerified H size root xs → tiles_of xs (full_tile level index) ≡ None → HasTileWith (tiles_of xs) size (level + 1) index
    → ComesNext H size root xs (full_tile level index)
next-full H size root xs level index passed new above = record { new = new; next = inr (record { full = refl; passed = passed; above = above }) }

pub not_same : (answer : Bool) → answer ≡ true → answer ≡ false → ⊥
not_same answer is isnt = let both : true ≡ false = sym is ∙ isnt in absurd (cc)
