-- The tree hashes of segments from stored hashes.
use Rattle.std.proofs.Common.{◌≡◌, ℕ, suc, get_or, ◌+◌, ◌-◌, ◌^◌, ◌<◌, ◌≤◌, inl, inr, min, All, List, [], ◌∷◌, ◌++◌, length, take, drop, map, refl, sym, ap, subst, ◌∙◌, append_assoc, arith}
use Rattle.std.specs.Int.RustNames.{count_ones}
use Rattle.std.proofs.Math.Seq.{take-append_seam, drop-append_seam}
use Rattle.std.proofs.lemmas.Bool.{cases_lt}
use Rattle.std.proofs.lemmas.List.{append-nil, length-append, drop_more, drop_all, drop-drop, take-append-le, drop-take, map-append, length-map, length_push}
use Rattle.std.proofs.lemmas.List.Sums.{sum_by-cons}
use Rattle.std.proofs.lemmas.List.Elements.{All-get_or, All-nil, All-cons, All-head, All-tail, All-append, All-take, All-drop, All-weaker}
use Rattle.tl_hash.specs.Bytes.{Digest}
use Rattle.tl_hash.specs.Tree.{tree_hash}
use Rattle.tl_store.specs.Stored.{stored_count, stored_hash}
use Rattle.tl_store.specs.Reader.{readable_size, GivesFault}
use Rattle.tl_store.specs.Head.{AreCovering, AddsCovering, GivesHeadFault}
use Rattle.tl_store.specs.declared.reader.ReadFault.{ReadFault}
use Rattle.tl_store.specs.declared.reader.ReadFault.TheVariants.{OutOfRange, Source, OutOfMemory, BadTile}
use Rattle.tl_store.proofs.Readable.{stored_count-mono}
use Rattle.tl_store.proofs.Covering.{covering-below, covering-within, covering-count, within_reader}
use Rattle.tl_proof.specs.Inner.Segments.{no_group, next_group, entries_in, segment_root, IsSegment, IsNeeded, AreGroups, subtree_count}
use Rattle.tl_proof.specs.declared.plan.Segment.{Segment}

-- what a read past the end would give
abbrev pub no_segment : Segment
no_segment = record { start = 0; end = 0 }

-- ---- the numbers

-- the numbers for the segments before place i, followed by those for the others
abbrev pub GroupsSoFar : List Segment → ℕ → List ℕ → Type 0
GroupsSoFar segments i indexes = (others : List ℕ) → AreGroups (drop i segments) others → AreGroups segments (indexes ++ others)

pub groups-init : (segments : List Segment) (indexes : List ℕ) → indexes ≡ [] → GroupsSoFar segments 0 indexes
groups-init segments indexes is others groups = subst (λ (list : List ℕ). AreGroups segments (list ++ others)) (sym is) groups

pub groups-more : (segments : List Segment) (i : ℕ) (d s : Segment) (group indexes next : List ℕ) → i < length segments → s ≡ get_or segments i d → AreCovering s.start s.end group → next ≡ indexes ++ group
    → GroupsSoFar segments i indexes → GroupsSoFar segments (i + 1) next
groups-more segments i d s group indexes next within is covering next_is so_far others groups =
    let at : drop i segments ≡ s ∷ drop (i + 1) segments = drop_more segments i d within ∙ ap (λ (x : Segment). x ∷ drop (i + 1) segments) (sym is) in
    let from : AreGroups (drop i segments) (group ++ others) =
    subst (λ (list : List Segment). AreGroups list (group ++ others)) (sym at) (next_group s (drop (i + 1) segments) group others covering groups) in
    subst (AreGroups segments) (sym (append_assoc indexes group others) ∙ ap (λ (list : List ℕ). list ++ others) (sym next_is)) (so_far (group ++ others) from)

pub groups-all : (segments : List Segment) (i : ℕ) (indexes : List ℕ) → length segments ≤ i → GroupsSoFar segments i indexes → AreGroups segments indexes
groups-all segments i indexes end so_far =
    subst (AreGroups segments) (append-nil indexes)
    (so_far [] (subst (λ (list : List Segment). AreGroups list []) (sym (drop_all i segments end)) no_group))

pub groups-count : (segments : List Segment) (indexes : List ℕ) → AreGroups segments indexes → length indexes ≡ subtree_count segments
groups-count [] [] no_group = refl
groups-count [] (_ ∷ _) groups = elim groups [ ]
groups-count (s ∷ segments) _ (next_group s' segments' group others covering rest) =
    length-append group others ∙ omega (arith, covering-count s.start s.end group covering, groups-count segments others rest, sum_by-cons (λ (x : Segment). count_ones (x.end - x.start)) s segments)

-- ---- what can be read

All-left : (P : ℕ → Type 0) (xs ys : List ℕ) → All P (xs ++ ys) → All P xs
All-left P xs ys all = subst (All P) (take-append_seam xs ys) (All-take P (length xs) (xs ++ ys) all)

All-right : (P : ℕ → Type 0) (xs ys : List ℕ) → All P (xs ++ ys) → All P ys
All-right P xs ys all = subst (All P) (drop-append_seam xs ys) (All-drop P (length xs) (xs ++ ys) all)

-- if all numbers are below the count of n entries, these have all the segments
pub groups-within : (n : ℕ) (segments : List Segment) (indexes : List ℕ) → AreGroups segments indexes → All IsSegment segments → All (λ index. index < stored_count n) indexes → All (λ s. s.end ≤ n) segments
groups-within n [] [] no_group parts below = All-nil (λ (s : Segment). s.end ≤ n)
groups-within n [] (_ ∷ _) groups parts below = elim groups [ ]
groups-within n (s ∷ segments) _ (next_group s' segments' group others covering rest) parts below =
    All-cons (λ (x : Segment). x.end ≤ n) s segments
    (covering-within s.start s.end group n covering (All-head IsSegment s segments parts).some (All-left (λ (index : ℕ). index < stored_count n) group others below))
    (groups-within n segments others rest (All-tail IsSegment s segments parts) (All-right (λ (index : ℕ). index < stored_count n) group others below))

-- and the other way
pub groups-below : (n : ℕ) (segments : List Segment) (indexes : List ℕ) → AreGroups segments indexes → All (λ s. s.end ≤ n) segments → All (λ index. index < stored_count n) indexes
groups-below n [] [] no_group within = All-nil (λ (index : ℕ). index < stored_count n)
groups-below n [] (_ ∷ _) groups within = elim groups [ ]
groups-below n (s ∷ segments) _ (next_group s' segments' group others covering rest) within =
    let here : s.end ≤ n = All-head (λ (x : Segment). x.end ≤ n) s segments within in
    All-append (λ (index : ℕ). index < stored_count n) group others
    (All-weaker (λ (index : ℕ). index < stored_count s.end) (λ (index : ℕ). index < stored_count n) (λ index h. omega (arith, h, stored_count-mono s.end n here)) group (covering-below s.start s.end group covering))
    (groups-below n segments others rest (All-tail (λ (x : Segment). x.end ≤ n) s segments within))

pub needed-within : (needed n : ℕ) (segments : List Segment) (indexes : List ℕ) → IsNeeded 0 needed segments → AreGroups segments indexes → All IsSegment segments → All (λ index. index < stored_count n) indexes → needed ≤ n
needed-within needed n segments indexes need groups parts below =
    elim (cases_lt 0 needed) as (λ _. needed ≤ n) [
      | inl some ↦ need.least some n (groups-within n segments indexes groups parts below)
      | inr none ↦ omega (arith, none)
    ]

-- if there is a segment, some entries are needed
pub needed-some : (needed : ℕ) (segments : List Segment) → IsNeeded 0 needed segments → All IsSegment segments → 0 < length segments → 0 < needed
needed-some needed [] need parts some = absurd (let none : length {A = Segment} [] ≡ 0 = refl in omega arith)
needed-some needed (s ∷ segments) need parts some =
    omega (arith, (All-head IsSegment s segments parts).some, All-head (λ (x : Segment). x.end ≤ needed) s segments need.most)

-- and no more than all segments have
pub needed-small : (needed most : ℕ) (segments : List Segment) → IsNeeded 0 needed segments → All (λ s. s.end ≤ most) segments → needed ≤ most
needed-small needed most segments need small =
    elim (cases_lt 0 needed) as (λ _. needed ≤ most) [
      | inl some ↦ need.least some most small
      | inr none ↦ omega (arith, none)
    ]

-- if a number is read, there is a segment
pub groups-some : (segments : List Segment) (indexes : List ℕ) → AreGroups segments indexes → 0 < length indexes → 0 < length segments
groups-some [] [] no_group some = some
groups-some [] (_ ∷ _) groups some = elim groups [ ]
groups-some (s ∷ segments) indexes groups some = let count : length (s ∷ segments) ≡ suc (length segments) = refl in omega arith

-- a fault of the read
pub segments_fault : (count : ℕ) (may_fail : ReadFault → Type 0) (needed : ℕ) (segments : List Segment) (indexes : List ℕ) (fault : ReadFault) → IsNeeded 0 needed segments → needed ≤ 2 ^ 62 → AreGroups segments indexes → All IsSegment segments
    → GivesFault count may_fail indexes fault → GivesHeadFault count may_fail needed fault
segments_fault count may_fail needed segments indexes OutOfRange need small groups parts gives =
    elim (cases_lt (readable_size count) needed) as (λ _. readable_size count < needed) [
      | inl above ↦ above
      | inr within ↦
          let all : All (λ s. s.end ≤ readable_size count) segments =
          All-weaker (λ (s : Segment). s.end ≤ needed) (λ (s : Segment). s.end ≤ readable_size count) (λ s h. omega (arith, h, within)) segments need.most in
          absurd (omega (arith, gives.3, gives.4, groups-below (readable_size count) segments indexes groups all gives.0 gives.1 gives.2))
    ]
segments_fault count may_fail needed segments indexes Source need small groups parts gives =
    (gives.0, needed-within needed (readable_size count) segments indexes need groups parts gives.1, needed-some needed segments need parts (groups-some segments indexes groups gives.2))
segments_fault count may_fail needed segments indexes OutOfMemory need small groups parts gives = (needed-some needed segments need parts (groups-some segments indexes groups gives.1), small)
segments_fault count may_fail needed segments indexes (BadTile level index width) need small groups parts gives =
    (gives.0, needed-within needed (readable_size count) segments indexes need groups parts gives.1, needed-some needed segments need parts (groups-some segments indexes groups gives.2))

-- ---- the hashes

-- entries after the end make no difference
pub entries_in-more : (start end : ℕ) (entries others : List (List ℕ)) → start ≤ end → end ≤ length entries → entries_in start end (entries ++ others) ≡ entries_in start end entries
entries_in-more start end entries others order within =
    let sum : start + (end - start) ≡ end = omega (arith, order) in
    let over : (list : List (List ℕ)) → entries_in start end list ≡ drop start (take end list) = λ list. sym (drop-take start (end - start) list) ∙ ap (λ (x : ℕ). drop start (take x list)) sum in
    over (entries ++ others) ∙ ap (drop start) (take-append-le end entries others within) ∙ sym (over entries)

-- what folds the hashes of a covered part of the entries, as `cover_hash` does
abbrev pub Folds : (List ℕ → List ℕ) → List (List ℕ) → List ℕ → Type 0
Folds H hashes result =
    (entries : List (List ℕ)) (start end : ℕ) (indexes : List ℕ) → AreCovering start end indexes → end ≤ length entries → hashes ≡ map (stored_hash H entries) indexes
    → result ≡ tree_hash H (take (end - start) (drop start entries))

-- what adds the tree hashes of the segments
abbrev pub AddsHashes : (List ℕ → List ℕ) → List Segment → List (List ℕ) → List (List ℕ) → List (List ℕ) → Type 0
AddsHashes H segments hashes before after =
    (entries others : List (List ℕ)) (indexes : List ℕ) → AreGroups segments indexes → All (λ s. s.end ≤ length entries) segments → hashes ≡ map (stored_hash H entries) indexes
    → after ≡ before ++ map (segment_root H (entries ++ others)) segments

pub hashes-none : (H : Digest) (segments : List Segment) (hashes before : List (List ℕ)) → segments ≡ [] → AddsHashes H segments hashes before before
hashes-none H segments hashes before is entries others indexes groups within from =
    sym (ap (λ (list : List Segment). before ++ map (segment_root H (entries ++ others)) list) is ∙ append-nil before)

hashes_next_at : (H : Digest) (s : Segment) (later : List Segment) (count : ℕ) (hashes before between after : List (List ℕ)) (root : List ℕ) → s.start < s.end → count ≡ count_ones (s.end - s.start)
    → Folds H (take count hashes) root → between ≡ before ++ root ∷ [] → AddsHashes H later (drop count hashes) between after
    → AddsHashes H (s ∷ later) hashes before after
hashes_next_at H s later count hashes before between after root order count_is folds between_is adds entries others _ (next_group s' segments' group numbers covering rest) within from =
    let len : length (map (stored_hash H entries) group) ≡ count = length-map group (stored_hash H entries) ∙ covering-count s.start s.end group covering ∙ sym count_is in
    let parts : hashes ≡ map (stored_hash H entries) group ++ map (stored_hash H entries) numbers = from ∙ map-append (stored_hash H entries) group numbers in
    let first : take count hashes ≡ map (stored_hash H entries) group =
    ap (take count) parts ∙ ap (λ (x : ℕ). take x (map (stored_hash H entries) group ++ map (stored_hash H entries) numbers)) (sym len) ∙ take-append_seam (map (stored_hash H entries) group) (map (stored_hash H entries) numbers) in
    let second : drop count hashes ≡ map (stored_hash H entries) numbers =
    ap (drop count) parts ∙ ap (λ (x : ℕ). drop x (map (stored_hash H entries) group ++ map (stored_hash H entries) numbers)) (sym len) ∙ drop-append_seam (map (stored_hash H entries) group) (map (stored_hash H entries) numbers) in
    let here : s.end ≤ length entries = All-head (λ (x : Segment). x.end ≤ length entries) s later within in
    let root_is : root ≡ segment_root H (entries ++ others) s =
    folds entries s.start s.end group covering here first ∙ sym (ap (tree_hash H) (entries_in-more s.start s.end entries others (omega (arith, order)) here)) in
    adds entries others numbers rest (All-tail (λ (x : Segment). x.end ≤ length entries) s later within) second
    ∙ (λ i. (between_is ∙ (λ j. before ++ root_is j ∷ [])) i ++ map (segment_root H (entries ++ others)) later)
    ∙ append_assoc before (segment_root H (entries ++ others) s ∷ []) (map (segment_root H (entries ++ others)) later)

pub hashes-next : (H : Digest) (segments : List Segment) (s : Segment) (later : List Segment) (count : ℕ) (hashes before between after : List (List ℕ)) (root : List ℕ) → segments ≡ s ∷ later → s.start < s.end
    → count ≡ count_ones (s.end - s.start) → Folds H (take count hashes) root → between ≡ before ++ root ∷ [] → AddsHashes H later (drop count hashes) between after
    → AddsHashes H segments hashes before after
hashes-next H segments s later count hashes before between after root is order count_is folds between_is adds =
    subst (λ (list : List Segment). AddsHashes H list hashes before after) (sym is)
    (hashes_next_at H s later count hashes before between after root order count_is folds between_is adds)

-- ---- in the words of the code

-- if the reader has all segments, so has each list that it stands for
pub readable-all : (count : ℕ) (entries : List (List ℕ)) (segments : List Segment) → (length entries ≡ count) × (length entries ≤ 2 ^ 62) → All (λ s. s.end ≤ readable_size count) segments → All (λ s. s.end ≤ length entries) segments
readable-all count entries segments stands within =
    All-weaker (λ (s : Segment). s.end ≤ readable_size count) (λ (s : Segment). s.end ≤ length entries) (λ s h. within_reader count s.end (length entries) h stands.0) segments within

-- ---- one segment after another

-- the roots of the segments before place i were added, and `from` hashes used
pub record RootsSoFar (H : Digest) (segments : List Segment) (hashes : List (List ℕ)) (i from : ℕ) (roots : List (List ℕ)) : Type 0 where
  pub count : from + subtree_count (drop i segments) ≡ length hashes
  pub len : length roots ≡ i
  pub adds : (after : List (List ℕ)) → AddsHashes H (drop i segments) (drop from hashes) roots after → AddsHashes H segments hashes [] after

pub roots-init : (H : Digest) (segments : List Segment) (hashes roots : List (List ℕ)) → length hashes ≡ subtree_count segments → roots ≡ [] → RootsSoFar H segments hashes 0 0 roots
roots-init H segments hashes roots len is = record {
  count = omega (arith, len);
  len = ap length is;
  adds = λ after adds. subst (λ (list : List (List ℕ)). AddsHashes H segments hashes list after) is adds;
}

segments_at : (segments : List Segment) (i : ℕ) (d s : Segment) → i < length segments → s ≡ get_or segments i d → drop i segments ≡ s ∷ drop (i + 1) segments
segments_at segments i d s within is = drop_more segments i d within ∙ ap (λ (x : Segment). x ∷ drop (i + 1) segments) (sym is)

count_at : (segments : List Segment) (i : ℕ) (d s : Segment) → i < length segments → s ≡ get_or segments i d
    → subtree_count (drop i segments) ≡ count_ones (s.end - s.start) + subtree_count (drop (i + 1) segments)
count_at segments i d s within is =
    ap (λ (list : List Segment). subtree_count list) (segments_at segments i d s within is) ∙ sum_by-cons (λ (x : Segment). count_ones (x.end - x.start)) s (drop (i + 1) segments)

-- the hashes of a segment are there
pub roots-enough : (H : Digest) (segments : List Segment) (hashes : List (List ℕ)) (i from count : ℕ) (roots : List (List ℕ)) (d s : Segment) → i < length segments → s ≡ get_or segments i d
    → count ≡ count_ones (s.end - s.start) → RootsSoFar H segments hashes i from roots → from + count ≤ length hashes
roots-enough H segments hashes i from count roots d s within is count_is so_far = omega (arith, count_at segments i d s within is, count_is, so_far.count)

pub roots-more : (H : Digest) (segments : List Segment) (hashes : List (List ℕ)) (i from count : ℕ) (roots next : List (List ℕ)) (d s : Segment) (root : List ℕ) → i < length segments → s ≡ get_or segments i d
    → IsSegment s → count ≡ count_ones (s.end - s.start) → Folds H (take (from + count - from) (drop from hashes)) root → next ≡ roots ++ root ∷ []
    → RootsSoFar H segments hashes i from roots → RootsSoFar H segments hashes (i + 1) (from + count) next
roots-more H segments hashes i from count roots next d s root within is part count_is folds next_is so_far = record {
  count = omega (arith, count_at segments i d s within is, count_is, so_far.count);
  len = ap length next_is ∙ length_push roots root ∙ ap (λ (x : ℕ). x + 1) so_far.len;
  adds = λ after adds.
      let width : from + count - from ≡ count = omega arith in
      let here : Folds H (take count (drop from hashes)) root = subst (λ (x : ℕ). Folds H (take x (drop from hashes)) root) width folds in
      let rest : AddsHashes H (drop (i + 1) segments) (drop count (drop from hashes)) next after =
      subst (λ (list : List (List ℕ)). AddsHashes H (drop (i + 1) segments) list next after) (sym (drop-drop count from hashes)) adds in
      so_far.adds after
      (hashes-next H (drop i segments) s (drop (i + 1) segments) count (drop from hashes) roots next after root (segments_at segments i d s within is) part.some count_is here next_is rest);
}

pub roots-all : (H : Digest) (segments : List Segment) (hashes : List (List ℕ)) (i from : ℕ) (roots : List (List ℕ)) → length segments ≤ i → RootsSoFar H segments hashes i from roots → AddsHashes H segments hashes [] roots
roots-all H segments hashes i from roots end so_far = so_far.adds roots (hashes-none H (drop i segments) (drop from hashes) roots (drop_all i segments end))

pub segment-at : (segments : List Segment) (i : ℕ) (d s : Segment) → i < length segments → s ≡ get_or segments i d → All IsSegment segments → IsSegment s
segment-at segments i d s within is parts = subst IsSegment (sym is) (All-get_or IsSegment segments i d within parts)

-- ---- room for the numbers

-- how many were counted before place i, so far as a list has room for them
pub count-more : (segments : List Segment) (i count next ones : ℕ) (d s : Segment) → i < length segments → s ≡ get_or segments i d → ones ≡ count_ones (s.end - s.start) → next ≡ min (count + ones) (2 ^ 64 - 1)
    → min (count + subtree_count (drop i segments)) (2 ^ 64 - 1) ≡ min (subtree_count segments) (2 ^ 64 - 1)
    → min (next + subtree_count (drop (i + 1) segments)) (2 ^ 64 - 1) ≡ min (subtree_count segments) (2 ^ 64 - 1)
count-more segments i count next ones d s within is ones_is next_is so_far = omega (arith, count_at segments i d s within is, ones_is, next_is, so_far)

no_subtree : (segments : List Segment) (i : ℕ) → length segments ≤ i → subtree_count (drop i segments) ≡ 0
no_subtree segments i end = ap (λ (list : List Segment). subtree_count list) (drop_all i segments end)

pub count-all : (segments : List Segment) (i count : ℕ) → length segments ≤ i → count < 2 ^ 64
    → min (count + subtree_count (drop i segments)) (2 ^ 64 - 1) ≡ min (subtree_count segments) (2 ^ 64 - 1)
    → count ≡ min (subtree_count segments) (2 ^ 64 - 1)
count-all segments i count end fits so_far = omega (arith, no_subtree segments i end, fits, so_far)

-- if there is a subtree, there is a segment
pub subtrees-some : (segments : List Segment) → 0 < subtree_count segments → 0 < length segments
subtrees-some [] some = some
subtrees-some (s ∷ segments) some = let count : length (s ∷ segments) ≡ suc (length segments) = refl in omega arith

-- the numbers for the segments before place i, and room for those of the others
pub record GroupsWithRoom (segments : List Segment) (i : ℕ) (indexes : List ℕ) (len room : ℕ) : Type 0 where
  pub groups : GroupsSoFar segments i indexes
  pub room_left : len + subtree_count (drop i segments) ≤ room

pub reserved-init : (segments : List Segment) (indexes : List ℕ) (len room asked : ℕ) → indexes ≡ [] → len ≡ 0 → asked ≡ min (subtree_count segments) (2 ^ 64 - 1) → len + asked ≤ room → room < 2 ^ 63
    → GroupsWithRoom segments 0 indexes len room
reserved-init segments indexes len room asked is none asked_is enough small = record {
  groups = groups-init segments indexes is;
  room_left = omega (arith, none, asked_is, enough, small);
}

pub reserved-room : (segments : List Segment) (i : ℕ) (indexes : List ℕ) (len room : ℕ) (d s : Segment) → i < length segments → s ≡ get_or segments i d → GroupsWithRoom segments i indexes len room
    → len + count_ones (s.end - s.start) ≤ room
reserved-room segments i indexes len room d s within is so_far = omega (arith, count_at segments i d s within is, so_far.room_left)

pub reserved-more : (segments : List Segment) (i : ℕ) (indexes next : List ℕ) (len room len_next room_next : ℕ) (d s : Segment) → i < length segments → s ≡ get_or segments i d → AddsCovering s.start s.end indexes next
    → len_next ≡ len + count_ones (s.end - s.start) → room_next ≡ room → GroupsWithRoom segments i indexes len room → GroupsWithRoom segments (i + 1) next len_next room_next
reserved-more segments i indexes next len room len_next room_next d s within is adds len_is room_is so_far = record {
  groups = groups-more segments i d s adds.0 indexes next within is adds.2 adds.1 so_far.groups;
  room_left = omega (arith, count_at segments i d s within is, so_far.room_left, len_is, room_is);
}
