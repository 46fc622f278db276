-- An honest source is read.
use Rattle.std.proofs.Common.{◌≡◌, ℕ, zero, suc, ◌+◌, ◌*◌, inl, inr, List, [], ◌∷◌, ◌++◌, length, All, Some, refl, sym, ap, subst, ◌∙◌, arith}
use Rattle.std.specs.List.{flat_map, range_with_len}
use Rattle.std.proofs.lemmas.Bool.{cases_Bool}
use Rattle.std.proofs.lemmas.List.{length-append}
use Rattle.std.proofs.lemmas.List.Elements.{All-head, All-tail}
use Rattle.tl_hash.specs.Bytes.{Digest}
use Rattle.tl_hash.specs.Tree.{tree_hash}
use Rattle.tl_hash.proofs.TreeLemmas.{length-tree_hash}
use Rattle.tl_tile.proofs.Segments.{HasHashLength}
use Rattle.tl_store.specs.declared.reader.ReadFault.TheVariants.{OutOfRange, Source, OutOfMemory, BadTile}
use Rattle.tl_tile.specs.declared.resource.Tile.{Tile}
use Rattle.tl_tile.specs.TileText.{entries_under, tile_text}
use Rattle.tl_tile.specs.Fetched.{same_tile, tiles_of}
use Rattle.tl_tile.specs.Source.{AreAnswers, IsTileOf, Answers}
use Rattle.tl_tile.specs.TileLaws.{AreHonest}
use Rattle.tl_tile.specs.SourceFaults.{IsBadTile, HonestSourceIsRead}
use Rattle.tl_tile.proofs.Edges.{Some-injective}
use Rattle.tl_tile.proofs.Push.{same_tile-is}
use Rattle.tl_tile.proofs.Honest.{honest_tiles_fold_to_root, text_folds_to_above}

length-pieces : (f : ℕ → List ℕ) → ((i : ℕ) → length (f i) ≡ 32) → (a n : ℕ) → length (flat_map f (range_with_len a n)) ≡ 32 * n
length-pieces f wide a zero = refl
length-pieces f wide a (suc n) = omega (arith, length-append (f a) (flat_map f (range_with_len (a + 1) n)), wide a, length-pieces f wide (a + 1) n)

pub length-tile_text : (H : Digest) → ((message : List ℕ) → HasHashLength (H message)) → (t : Tile) (entries : List (List ℕ)) → length (tile_text H t entries) ≡ 32 * t.width
length-tile_text H wide t entries = length-pieces (λ i. tree_hash H (entries_under t.level (t.index * 256 + i) entries)) (λ i. length-tree_hash H wide (entries_under t.level (t.index * 256 + i) entries)) 0 t.width

-- what was found is an answer
pub found-answer : (R : Tile → List ℕ → Type 0) (xs : List (Tile × List ℕ)) → All (λ f. R f.0 f.1) xs → (t : Tile) (text : List ℕ) → tiles_of xs t ≡ Some text → R t text
found-answer R [] answers t text found = absurd (cc)
found-answer R (x ∷ xs) answers t text found =
    elim (cases_Bool (same_tile x.0 t)) as (λ _. R t text) [
      | inl same ↦
          let here : R x.0 x.1 = answers 0 x (omega arith) in
          let text_is : x.1 ≡ text = Some-injective x.1 text (rw same at found) in
          subst (λ (y : Tile). R y text) (same_tile-is x.0 t same) (subst (R x.0) text_is here)
      | inr differ ↦ found-answer R xs (λ k d less. answers (suc k) d (omega (arith, less))) t text (rw differ at found)
    ]

-- each fault but want of memory contradicts honesty
pub are_honest : (may_answer : Tile → List ℕ → Type 0) (H : Digest) (entries : List (List ℕ))
    → ((t : Tile) (text : List ℕ) → IsTileOf (length entries) t → may_answer t text → text ≡ tile_text H t entries)
    → (xs : List (Tile × List ℕ)) → AreAnswers may_answer (length entries) xs → AreHonest H (tiles_of xs) entries
are_honest may_answer H entries honest xs answers t text found =
    let answer = found-answer (Answers may_answer (length entries)) xs answers t text found in honest t text answer.0 answer.1

at_end : (R : Tile × List ℕ → Type 0) (before : List (Tile × List ℕ)) (f : Tile × List ℕ) → All R (before ++ f ∷ []) → R f
at_end R [] f all = All-head R f [] all
at_end R (x ∷ before) f all = at_end R before f (All-tail R x (before ++ f ∷ []) all)

-- the text that was fetched last is an answer
last-answer : (R : Tile × List ℕ → Type 0) (xs before : List (Tile × List ℕ)) (f : Tile × List ℕ) → All R xs → xs ≡ before ++ f ∷ [] → R f
last-answer R xs before f all is = at_end R before f (subst (All R) is all)

not-bad : (may_answer : Tile → List ℕ → Type 0) (H : Digest) → ((message : List ℕ) → HasHashLength (H message)) → (entries : List (List ℕ))
    → ((t : Tile) (text : List ℕ) → IsTileOf (length entries) t → may_answer t text → text ≡ tile_text H t entries)
    → (xs : List (Tile × List ℕ)) → AreAnswers may_answer (length entries) xs → (t : Tile) → IsBadTile H (length entries) (tree_hash H entries) xs t → ⊥
not-bad may_answer H wide entries honest xs answers t bad =
    let P : Tile × List ℕ → Type 0 = λ f. Answers may_answer (length entries) f.0 f.1 in
    let all : AreHonest H (tiles_of xs) entries = are_honest may_answer H entries honest xs answers in
    elim bad.because as (λ _. ⊥) [
      | inl (text, last, differ) ↦
          let answer = last-answer P xs last.0 (t, text) answers last.1 in
          differ (ap length (honest t text answer.0 answer.1) ∙ length-tile_text H wide t entries)
      | inr (inl edge) ↦ edge.differ (honest_tiles_fold_to_root H wide (tiles_of xs) entries all edge.other edge.strings edge.folds)
      | inr (inr full) ↦
          let answer = last-answer P xs full.last.0 (t, full.text) answers full.last.1 in
          let text_is : full.text ≡ tile_text H t entries = honest t full.text answer.0 answer.1 in
          full.differ (sym (text_folds_to_above H wide (tiles_of xs) entries all t.level t.index full.text full.hash full.strings full.below
          (text_is ∙ ap (λ (u : Tile). tile_text H u entries) full.full) full.folds full.above.0 full.own full.above.1 full.above.2))
    ]

pub honest_source_is_read : (may_answer : Tile → List ℕ → Type 0) (may_lack : Tile → Type 0) → HonestSourceIsRead may_answer may_lack
honest_source_is_read may_answer may_lack H wide entries honest has OutOfRange (xs, answers, gives) = absurd gives
honest_source_is_read may_answer may_lack H wide entries honest has Source (xs, answers, (t, gives)) = absurd (has t gives.of_log gives.lacks)
honest_source_is_read may_answer may_lack H wide entries honest has OutOfMemory (xs, answers, gives) = refl
honest_source_is_read may_answer may_lack H wide entries honest has (BadTile level index width) (xs, answers, bad) =
    absurd (not-bad may_answer H wide entries honest xs answers (record { level = level; index = index; width = width }) bad)
