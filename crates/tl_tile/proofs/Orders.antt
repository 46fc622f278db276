-- Tiles in the order of a read, and those that it needs.
use Rattle.std.proofs.Common.{◌≡◌, ℕ, zero, suc, ◌+◌, ◌-◌, ◌*◌, ◌/◌, ◌%◌, ◌^◌, ◌<◌, ◌≤◌, inl, inr, Bool, cond, List, [], ◌∷◌, ◌++◌, append_assoc, length, map, filter, reverse, nat_lt, All, get_or, Some, None, refl, sym, ap, subst, ◌∙◌, arith}
use Rattle.std.specs.Prelude.{◌≢◌, Result, Ok, Err, IfErr}
use Rattle.std.specs.List.{range_with_len}
use Rattle.std.proofs.Math.Nat.{pow-succ', div-div-eq-div-mul}
use Rattle.std.proofs.lemmas.Bool.{cases_Bool, lt-ltb, ltb-true}
use Rattle.std.proofs.lemmas.Grind.{reverse_onto}
use Rattle.std.proofs.lemmas.List.{append-nil, map-append, get_or_default}
use Rattle.std.proofs.lemmas.List.Elements.{All-nil, All-push, All-append, All-head, All-tail, All-cons, filter-append}
use Rattle.tl_hash.specs.Bytes.{Digest}
use Rattle.tl_store.specs.Stored.{stored_index}
use Rattle.tl_tile.specs.declared.resource.Tile.{Tile}
use Rattle.tl_tile.specs.declared.tile_reader.subtree.Subtree.{Subtree}
use Rattle.tl_tile.specs.TileText.{level_count, full_tile, partial_tile}
use Rattle.tl_tile.specs.Fetched.{same_tile, tiles_of, tiles_in}
use Rattle.tl_tile.specs.Source.{IsTileOf, Answers, AreAnswers}
use Rattle.tl_store.specs.declared.reader.ReadFault.{ReadFault}
use Rattle.tl_store.specs.declared.reader.ReadFault.TheVariants.{OutOfRange, Source, OutOfMemory, BadTile}
use Rattle.tl_tile.specs.Fetching.{IsOver, IsPartialOf, IsNeededFor, edge_from, edge_tiles}
use Rattle.tl_tile.specs.Verified.{IsNextPartial, ComesNext, AreNext, AreInOrder, AreVerified, HavePassed, AddsTiles}
use Rattle.tl_tile.specs.Inner.Steps.{AreFetched, AddsOnly}
use Rattle.tl_tile.specs.SourceFaults.{IsBadTile, GivesReadFault}
use Rattle.tl_tile.proofs.Push.{same_tile-is}

-- ---- one tile more

next-push : (H : Digest) (size : ℕ) (root : List ℕ) (before more : List (Tile × List ℕ)) (f : Tile × List ℕ) → AreNext H size root before more → ComesNext H size root (before ++ more) f.0 → AreNext H size root before (more ++ f ∷ [])
next-push H size root before [] f order next = (subst (λ (list : List (Tile × List ℕ)). ComesNext H size root list f.0) (append-nil before) next, tt)
next-push H size root before (m ∷ more) f order next =
    (order.0, next-push H size root (before ++ m ∷ []) more f order.1 (subst (λ (list : List (Tile × List ℕ)). ComesNext H size root list f.0) (sym (append_assoc before (m ∷ []) more)) next))

-- a tile more, or none
pub fetched-only : (may_answer : Tile → List ℕ → Type 0) (H : Digest) (size : ℕ) (root : List ℕ) (old new : List (Tile × List ℕ)) (tile : Tile) → AreFetched may_answer H size root old
    → AddsOnly may_answer H size root tile old new → AreFetched may_answer H size root new
fetched-only may_answer H size root old new tile before (inl same) = subst (AreFetched may_answer H size root) (sym same) before
fetched-only may_answer H size root old new tile before (inr (text, pushed, answer, next)) =
    subst (AreFetched may_answer H size root) (sym pushed) (record {
      answers = All-push (λ (f : Tile × List ℕ). Answers may_answer size f.0 f.1) old (tile, text) before.answers answer;
      order = next-push H size root [] old (tile, text) before.order next;
    })

-- a new text of another length
pub bad-length : (H : Digest) (size : ℕ) (root : List ℕ) (old new : List (Tile × List ℕ)) (tile : Tile) (text : List ℕ) → IsTileOf size tile
    → new ≡ old ++ (tile, text) ∷ [] → length text ≢ 32 * tile.width → IsBadTile H size root new tile
bad-length H size root old new tile text of pushed differ = record { of_log = of; because = inl (text, (old, pushed), differ) }

-- a fault if more tiles may be lacking
pub fault-weaker : (H : Digest) (few many : Tile → Type 0) (size : ℕ) (root : List ℕ) (fetched : List (Tile × List ℕ)) (fault : ReadFault) → ((t : Tile) → few t → many t)
    → GivesReadFault H few size root fetched fault → GivesReadFault H many size root fetched fault
fault-weaker H few many size root fetched OutOfRange weaker gives = absurd gives
fault-weaker H few many size root fetched Source weaker (t, gives) = (t, record { lacks = weaker t gives.lacks; of_log = gives.of_log; next = gives.next })
fault-weaker H few many size root fetched OutOfMemory weaker gives = tt
fault-weaker H few many size root fetched (BadTile level index width) weaker gives = gives

pub err_weaker : {X E : Type 0} (P Q : E → Type 0) (r : Result X E) → ((e : E) → P e → Q e) → IfErr r P → IfErr r Q
err_weaker P Q (Ok x) weaker holds = tt
err_weaker P Q (Err e) weaker holds = weaker e holds

-- ---- the partial tiles

edge-more : (size level : ℕ) → level ≤ 7 → edge_from size level ≡ edge_from size (level + 1) ++ cond (nat_lt 0 (level_count size level % 256)) (partial_tile size level ∷ []) []
edge-more size level low =
    let wide : Tile → Bool = λ t. nat_lt 0 t.width in
    let count : 8 - level ≡ suc (8 - (level + 1)) = omega (arith, low) in
    let levels : List ℕ = range_with_len (level + 1) (8 - (level + 1)) in
    let turned : reverse (range_with_len level (8 - level)) ≡ reverse levels ++ level ∷ [] = ap (λ (n : ℕ). reverse (range_with_len level n)) count ∙ reverse_onto levels level [] in
    ap (λ (list : List ℕ). filter wide (map (partial_tile size) list)) turned
    ∙ ap (filter wide) (map-append (partial_tile size) (reverse levels) (level ∷ []))
    ∙ filter-append wide (map (partial_tile size) (reverse levels)) (partial_tile size level ∷ [])

pub edge-skipped : (size level : ℕ) → level ≤ 7 → level_count size level % 256 ≡ 0 → edge_from size level ≡ edge_from size (level + 1)
edge-skipped size level low none =
    edge-more size level low ∙ ap (λ (n : ℕ). edge_from size (level + 1) ++ cond (nat_lt 0 n) (partial_tile size level ∷ []) []) none ∙ append-nil (edge_from size (level + 1))

pub edge-next : (size level : ℕ) → level ≤ 7 → 0 < level_count size level % 256 → edge_from size level ≡ edge_from size (level + 1) ++ partial_tile size level ∷ []
edge-next size level low some =
    edge-more size level low ∙ ap (λ (b : Bool). edge_from size (level + 1) ++ cond b (partial_tile size level ∷ []) []) (lt-ltb 0 (level_count size level % 256) some)

-- those of the upper levels are the first
edge-prefix-at : (size level : ℕ) → level ≤ 8 → (rest : List Tile) × (edge_tiles size ≡ edge_from size level ++ rest)
edge-prefix-at size zero low = ([], sym (append-nil (edge_tiles size)))
edge-prefix-at size (suc level) low =
    let before = edge-prefix-at size level (omega (arith, low)) in
    let own : List Tile = cond (nat_lt 0 (level_count size level % 256)) (partial_tile size level ∷ []) [] in
    let next : level + 1 ≡ suc level = omega arith in (
      own ++ before.0,
      before.1 ∙ ap (λ (list : List Tile). list ++ before.0) (edge-more size level (omega (arith, low)) ∙ ap (λ (l : ℕ). edge_from size l ++ own) next)
          ∙ append_assoc (edge_from size (suc level)) own before.0,
    )

pub edge-prefix : (size level : ℕ) (xs : List (Tile × List ℕ)) → level ≤ 8 → tiles_in xs ≡ edge_from size level → (rest : List Tile) × (edge_tiles size ≡ tiles_in xs ++ rest)
edge-prefix size level xs low are =
    let p = edge-prefix-at size level low in
    (p.0, p.1 ∙ ap (λ (list : List Tile). list ++ p.0) (sym are))

pub next-partial : (size level : ℕ) (xs : List (Tile × List ℕ)) (tile : Tile) → level ≤ 7 → tiles_in xs ≡ edge_from size (level + 1) → tile ≡ partial_tile size level → 0 < tile.width → IsNextPartial size xs tile
next-partial size level xs tile low are is wide =
    let p = edge-prefix-at size level (omega (arith, low)) in
    let some : 0 < level_count size level % 256 = omega (arith, wide, ap (λ (t : Tile). t.width) is) in (
      p.0,
      p.1 ∙ ap (λ (list : List Tile). list ++ p.0) (edge-next size level low some) ∙ append_assoc (edge_from size (level + 1)) (partial_tile size level ∷ []) p.0
          ∙ (λ i. sym are i ++ sym is i ∷ p.0),
    )

-- ---- what numbers need

edge-partial-in : (size : ℕ) (levels : List ℕ) → All (IsPartialOf size) (filter (λ t. nat_lt 0 t.width) (map (partial_tile size) levels))
edge-partial-in size [] = All-nil (IsPartialOf size)
edge-partial-in size (level ∷ levels) =
    let rest = edge-partial-in size levels in
    let P : Bool → Type 0 = λ b. All (IsPartialOf size) (cond b (partial_tile size level ∷ filter (λ t. nat_lt 0 t.width) (map (partial_tile size) levels)) (filter (λ t. nat_lt 0 t.width) (map (partial_tile size) levels))) in
    elim (cases_Bool (nat_lt 0 (level_count size level % 256))) as (λ _. All (IsPartialOf size) (filter (λ t. nat_lt 0 t.width) (map (partial_tile size) (level ∷ levels)))) [
      | inl yes_wide ↦ subst P (sym yes_wide) (All-cons (IsPartialOf size) (partial_tile size level) (filter (λ t. nat_lt 0 t.width) (map (partial_tile size) levels)) (refl, ltb-true 0 (level_count size level % 256) yes_wide) rest)
      | inr not_wide ↦ subst P (sym not_wide) rest
    ]

all-front : {X : Type 0} (P : X → Type 0) (xs ys : List X) → All P (xs ++ ys) → All P xs
all-front P [] ys all = All-nil P
all-front P (x ∷ xs) ys all = All-cons P x xs (All-head P x (xs ++ ys) all) (all-front P xs ys (All-tail P x (xs ++ ys) all))

partial-each : (size : ℕ) (xs : List (Tile × List ℕ)) → All (IsPartialOf size) (tiles_in xs) → All (λ f. IsPartialOf size f.0) xs
partial-each size [] all = All-nil (λ (f : Tile × List ℕ). IsPartialOf size f.0)
partial-each size (f ∷ xs) all =
    let here : IsPartialOf size f.0 = All-head (IsPartialOf size) f.0 (tiles_in xs) all in
    All-cons (λ (x : Tile × List ℕ). IsPartialOf size x.0) f xs here (partial-each size xs (All-tail (IsPartialOf size) f.0 (tiles_in xs) all))

-- all of the edge are partial tiles
pub edge-partial : (size : ℕ) → All (IsPartialOf size) (edge_tiles size)
edge-partial size = edge-partial-in size (reverse (range_with_len 0 8))

-- the tiles over a number's subtree are needed
pub over-needed : (size i : ℕ) (indexes : List ℕ) (p : Subtree) (t : Tile) → i < length indexes → stored_index p.level p.place ≡ get_or indexes i 0 → IsOver (p.level / 8) (p.place * 2 ^ (p.level % 8)) t → IsNeededFor size indexes t
over-needed size i indexes p t less number over =
    let index : ℕ = get_or indexes i 0 in
    inr (i, index, less, get_or_default indexes i index 0 less, record { subtree = p; number = number; over = over })

-- ---- tiles that were added

pub adds-none : (may_answer : Tile → List ℕ → Type 0) (H : Digest) (size : ℕ) (root : List ℕ) (Is : Tile → Type 0) (xs : List (Tile × List ℕ)) → AddsTiles may_answer H size root Is xs xs
adds-none may_answer H size root Is xs = record {
  added = [];
  joined = sym (append-nil xs);
  answers = All-nil (λ (f : Tile × List ℕ). Answers may_answer size f.0 f.1);
  order = tt;
  each = All-nil (λ (f : Tile × List ℕ). Is f.0);
}

pub adds-weaker : (may_answer : Tile → List ℕ → Type 0) (H : Digest) (size : ℕ) (root : List ℕ) (few many : Tile → Type 0) (old new : List (Tile × List ℕ)) → ((t : Tile) → few t → many t)
    → AddsTiles may_answer H size root few old new → AddsTiles may_answer H size root many old new
adds-weaker may_answer H size root few many old new weaker adds =
    record { added = adds.added; joined = adds.joined; answers = adds.answers; order = adds.order; each = λ k d less. weaker _ (adds.each k d less) }

next-append : (H : Digest) (size : ℕ) (root : List ℕ) (before xs ys : List (Tile × List ℕ)) → AreNext H size root before xs → AreNext H size root (before ++ xs) ys → AreNext H size root before (xs ++ ys)
next-append H size root before [] ys first second = subst (λ (list : List (Tile × List ℕ)). AreNext H size root list ys) (append-nil before) second
next-append H size root before (x ∷ xs) ys first second =
    (first.0, next-append H size root (before ++ x ∷ []) xs ys first.1 (subst (λ (list : List (Tile × List ℕ)). AreNext H size root list ys) (sym (append_assoc before (x ∷ []) xs)) second))

-- some, and then more
pub adds-both : (may_answer : Tile → List ℕ → Type 0) (H : Digest) (size : ℕ) (root : List ℕ) (Is : Tile → Type 0) (old middle new : List (Tile × List ℕ)) → AddsTiles may_answer H size root Is old middle
    → AddsTiles may_answer H size root Is middle new → AddsTiles may_answer H size root Is old new
adds-both may_answer H size root Is old middle new first second = record {
  added = first.added ++ second.added;
  joined = second.joined ∙ ap (λ (list : List (Tile × List ℕ)). list ++ second.added) first.joined ∙ append_assoc old first.added second.added;
  answers = All-append (λ (f : Tile × List ℕ). Answers may_answer size f.0 f.1) first.added second.added first.answers second.answers;
  order = next-append H size root old first.added second.added first.order (subst (λ (list : List (Tile × List ℕ)). AreNext H size root list second.added) first.joined second.order);
  each = All-append (λ (f : Tile × List ℕ). Is f.0) first.added second.added first.each second.each;
}

-- one tile, or none
pub adds-only : (may_answer : Tile → List ℕ → Type 0) (H : Digest) (size : ℕ) (root : List ℕ) (Is : Tile → Type 0) (t : Tile) (old new : List (Tile × List ℕ)) → Is t
    → AddsOnly may_answer H size root t old new → AddsTiles may_answer H size root Is old new
adds-only may_answer H size root Is t old new is (inl same) = subst (AddsTiles may_answer H size root Is old) (sym same) (adds-none may_answer H size root Is old)
adds-only may_answer H size root Is t old new is (inr (text, pushed, answer, next)) = record {
  added = (t, text) ∷ [];
  joined = pushed;
  answers = All-cons (λ (f : Tile × List ℕ). Answers may_answer size f.0 f.1) (t, text) [] answer (All-nil (λ (f : Tile × List ℕ). Answers may_answer size f.0 f.1));
  order = (next, tt);
  each = All-cons (λ (f : Tile × List ℕ). Is f.0) (t, text) [] is (All-nil (λ (f : Tile × List ℕ). Is f.0));
}

-- the first of the partial tiles, if there were none
pub adds-first : (may_answer : Tile → List ℕ → Type 0) (H : Digest) (size : ℕ) (root : List ℕ) (old new : List (Tile × List ℕ)) → old ≡ [] → AreFetched may_answer H size root new
    → ((rest : List Tile) × (edge_tiles size ≡ tiles_in new ++ rest)) → AddsTiles may_answer H size root (IsPartialOf size) old new
adds-first may_answer H size root old new none are (rest, front) =
    subst (λ (list : List (Tile × List ℕ)). AddsTiles may_answer H size root (IsPartialOf size) list new) (sym none) (record {
      added = new;
      joined = refl;
      answers = are.answers;
      order = are.order;
      each = partial-each size new (all-front (IsPartialOf size) (tiles_in new) rest (subst (All (IsPartialOf size)) front (edge-partial size)));
    })

-- after none they are all
pub adds-all : (may_answer : Tile → List ℕ → Type 0) (H : Digest) (size : ℕ) (root : List ℕ) (Is : Tile → Type 0) (old new : List (Tile × List ℕ)) → old ≡ [] → AddsTiles may_answer H size root Is old new
    → AreAnswers may_answer size new × AreInOrder H size root new × All (λ f. Is f.0) new
adds-all may_answer H size root Is old new none adds =
    let is : adds.added ≡ new = sym (adds.joined ∙ ap (λ (list : List (Tile × List ℕ)). list ++ adds.added) none) in (
      subst (AreAnswers may_answer size) is adds.answers,
      subst (AreNext H size root []) is (subst (λ (list : List (Tile × List ℕ)). AreNext H size root list adds.added) none adds.order),
      subst (All (λ f. Is f.0)) is adds.each,
    )

-- the partial tiles are needed
pub needed-partial : (may_answer : Tile → List ℕ → Type 0) (H : Digest) (size : ℕ) (root : List ℕ) (indexes : List ℕ) (old new : List (Tile × List ℕ)) → 0 < length indexes
    → AddsTiles may_answer H size root (IsPartialOf size) old new → AddsTiles may_answer H size root (IsNeededFor size indexes) old new
needed-partial may_answer H size root indexes old new some adds =
    adds-weaker may_answer H size root (IsPartialOf size) (IsNeededFor size indexes) old new (λ t partial. inl (some, partial)) adds

-- and those over a number's subtree
pub needed-more : (may_answer : Tile → List ℕ → Type 0) (H : Digest) (size : ℕ) (root : List ℕ) (i : ℕ) (indexes : List ℕ) (p : Subtree) (old middle new : List (Tile × List ℕ)) → i < length indexes
    → stored_index p.level p.place ≡ get_or indexes i 0 → AddsTiles may_answer H size root (IsNeededFor size indexes) old middle
    → AddsTiles may_answer H size root (IsOver (p.level / 8) (p.place * 2 ^ (p.level % 8))) middle new → AddsTiles may_answer H size root (IsNeededFor size indexes) old new
needed-more may_answer H size root i indexes p old middle new less number before adds =
    adds-both may_answer H size root (IsNeededFor size indexes) old middle new before
    (adds-weaker may_answer H size root (IsOver (p.level / 8) (p.place * 2 ^ (p.level % 8))) (IsNeededFor size indexes) middle new
    (λ t over. over-needed size i indexes p t less number over) adds)

-- after tiles that passed, in order
pub passed-more : (may_answer : Tile → List ℕ → Type 0) (H : Digest) (size : ℕ) (root : List ℕ) (Is : Tile → Type 0) (old new : List (Tile × List ℕ)) → HavePassed H size root old
    → AddsTiles may_answer H size root Is old new → AreVerified H size root new → HavePassed H size root new
passed-more may_answer H size root Is old new before adds verified =
    record { order = subst (AreNext H size root []) (sym adds.joined) (next-append H size root [] old adds.added before.order adds.order); passed = inr verified }

-- ---- tiles over a place

-- what lies over the place above lies over this one
pub over-up : (level place : ℕ) (t : Tile) → IsOver (level + 1) (place / 256) t → IsOver level place t
over-up level place t over =
    let height : level + 1 + over.up ≡ level + (over.up + 1) = omega arith in
    let power : 256 * 256 ^ (over.up + 1) ≡ 256 ^ (over.up + 1 + 1) = sym (pow-succ' 256 (over.up + 1)) ∙ ap (λ (x : ℕ). 256 ^ x) (omega arith) in
    let index : place / 256 / 256 ^ (over.up + 1) ≡ place / 256 ^ (over.up + 1 + 1) = div-div-eq-div-mul place 256 (256 ^ (over.up + 1)) ∙ ap (λ (x : ℕ). place / x) power in
    record { up = over.up + 1; tile = over.tile ∙ (λ i. full_tile (height i) (index i)) }

pub over-here : (level place : ℕ) → IsOver level place (full_tile level (place / 256))
over-here level place =
    let height : level ≡ level + 0 = omega arith in
    record { up = 0; tile = ap (λ (l : ℕ). full_tile l (place / 256)) height }

-- the tiles above, and then the one with the place
pub adds-over : (may_answer : Tile → List ℕ → Type 0) (H : Digest) (size : ℕ) (root : List ℕ) (level place : ℕ) (old middle new : List (Tile × List ℕ))
    → AddsTiles may_answer H size root (IsOver (level + 1) (place / 256)) old middle → AddsOnly may_answer H size root (full_tile level (place / 256)) middle new
    → AddsTiles may_answer H size root (IsOver level place) old new
adds-over may_answer H size root level place old middle new above only =
    adds-both may_answer H size root (IsOver level place) old middle new
    (adds-weaker may_answer H size root (IsOver (level + 1) (place / 256)) (IsOver level place) old middle (over-up level place) above)
    (adds-only may_answer H size root (IsOver level place) (full_tile level (place / 256)) middle new (over-here level place) only)

-- a tile of a lower level is none of those added
none-among : (level place : ℕ) (t : Tile) (xs : List (Tile × List ℕ)) → t.level < level → All (λ f. IsOver level place f.0) xs → tiles_of xs t ≡ None
none-among level place t [] low all = refl
none-among level place t (f ∷ xs) low all =
    let P : Tile × List ℕ → Type 0 = λ x. IsOver level place x.0 in
    elim (cases_Bool (same_tile f.0 t)) as (λ _. tiles_of (f ∷ xs) t ≡ None) [
      | inl same ↦
          let over = All-head P f xs all in
          let height : t.level ≡ level + over.up = ap (λ (x : Tile). x.level) (sym (same_tile-is f.0 t same) ∙ over.tile) in
          absurd (omega (arith, height, low))
      | inr differ ↦ rw differ (none-among level place t xs low (All-tail P f xs all))
    ]

pub none-append : (xs ys : List (Tile × List ℕ)) (t : Tile) → tiles_of xs t ≡ None → tiles_of ys t ≡ None → tiles_of (xs ++ ys) t ≡ None
none-append [] ys t none more = more
none-append (x ∷ xs) ys t none more =
    elim (cases_Bool (same_tile x.0 t)) as (λ _. tiles_of (x ∷ xs ++ ys) t ≡ None) [
      | inl same ↦ (let found = rw same at none in absurd (cc))
      | inr differ ↦ rw differ (none-append xs ys t (rw differ at none) more)
    ]

pub none-later : (may_answer : Tile → List ℕ → Type 0) (H : Digest) (size : ℕ) (root : List ℕ) (level place : ℕ) (old new : List (Tile × List ℕ)) (t : Tile) → t.level < level
    → AddsTiles may_answer H size root (IsOver level place) old new → tiles_of old t ≡ None → tiles_of new t ≡ None
none-later may_answer H size root level place old new t low adds none =
    ap (λ (list : List (Tile × List ℕ)). tiles_of list t) adds.joined ∙ none-append old adds.added t none (none-among level place t adds.added low adds.each)

-- what was fetched stays
found-append : (xs ys : List (Tile × List ℕ)) (t : Tile) (text : List ℕ) → tiles_of xs t ≡ Some text → tiles_of (xs ++ ys) t ≡ Some text
found-append [] ys t text found = absurd (cc)
found-append (x ∷ xs) ys t text found =
    elim (cases_Bool (same_tile x.0 t)) as (λ _. tiles_of (x ∷ xs ++ ys) t ≡ Some text) [
      | inl same ↦ rw same (rw same at found)
      | inr differ ↦ rw differ (found-append xs ys t text (rw differ at found))
    ]

pub found-later : (may_answer : Tile → List ℕ → Type 0) (H : Digest) (size : ℕ) (root : List ℕ) (Is : Tile → Type 0) (old new : List (Tile × List ℕ)) → AddsTiles may_answer H size root Is old new
    → (t : Tile) (text : List ℕ) → tiles_of old t ≡ Some text → tiles_of new t ≡ Some text
found-later may_answer H size root Is old new adds t text found =
    ap (λ (list : List (Tile × List ℕ)). tiles_of list t) adds.joined ∙ found-append old adds.added t text found
