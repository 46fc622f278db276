-- The segments of several inclusion proofs, and a list of hashes cut into as many pieces.
use Rattle.std.proofs.Common.{◌≡◌, ℕ, zero, suc, ◌+◌, ◌-◌, ◌^◌, ◌<◌, ◌≤◌, inl, inr, max, All, List, [], ◌∷◌, ◌++◌, length, take, drop, map, get_or, refl, sym, ap, subst, ◌∙◌, arith}
use Rattle.std.specs.List.{sum}
use Rattle.std.proofs.lemmas.Bool.{cases_lt}
use Rattle.std.proofs.Math.Seq.{drop-append_seam}
use Rattle.std.proofs.lemmas.List.{take_all, take-append-le, drop-append-le, length-append, length-drop, map-append, take_more, length_push}
use Rattle.std.proofs.lemmas.List.Sums.{sum_by-cons, sum_by_push}
use Rattle.std.proofs.lemmas.List.Elements.{All-nil, All-head, All-tail, All-append, All-take, All-drop, All-weaker, All-get_or}
use Rattle.tl_hash.specs.Bytes.{Digest}
use Rattle.tl_store.proofs.Covering.{aligned-all}
use Rattle.tl_proof.specs.Proofs.{inclusion_proof}
use Rattle.tl_proof.specs.Needs.{inclusion_needs, records_need}
use Rattle.tl_proof.specs.ProveFaults.{IsIndex}
use Rattle.tl_proof.specs.Inner.Segments.{GrowsBy, segment_root, IsSegment, IsNeeded, IsPathPlan}
use Rattle.tl_proof.specs.Inner.ManyPaths.{cut_into, IsPathsPlan}
use Rattle.tl_proof.specs.declared.plan.Segment.{Segment}
use Rattle.tl_proof.proofs.Plans.{needs-between, path-all}

-- ---- pieces of a list

map_take : {X Y : Type 0} (f : X → Y) (n : ℕ) (xs : List X) → take n (map f xs) ≡ map f (take n xs)
map_take f zero xs = refl
map_take f (suc n) [] = refl
map_take f (suc n) (x ∷ xs) = ap (λ list. f x ∷ list) (map_take f n xs)

map_drop : {X Y : Type 0} (f : X → Y) (n : ℕ) (xs : List X) → drop n (map f xs) ≡ map f (drop n xs)
map_drop f zero xs = refl
map_drop f (suc n) [] = refl
map_drop f (suc n) (x ∷ xs) = map_drop f n xs

pub cut_into-map : {X Y : Type 0} (f : X → Y) (counts : List ℕ) (xs : List X) → cut_into counts (map f xs) ≡ map (map f) (cut_into counts xs)
cut_into-map f [] xs = refl
cut_into-map f (count ∷ counts) xs =
    let rest : cut_into counts (drop count (map f xs)) ≡ map (map f) (cut_into counts (drop count xs)) = ap (cut_into counts) (map_drop f count xs) ∙ cut_into-map f counts (drop count xs) in
    λ i. map_take f count xs i ∷ rest i

-- one piece more at the end
pub cut_into-push : {X : Type 0} (counts : List ℕ) (xs more : List X) (n : ℕ) → sum counts ≡ length xs → n ≡ length more
    → cut_into (counts ++ n ∷ []) (xs ++ more) ≡ cut_into counts xs ++ more ∷ []
cut_into-push [] [] more n all is = ap (λ list. list ∷ []) (take_all n more (omega (arith, is)))
cut_into-push [] (x ∷ xs) more n all is = absurd (omega (arith, all))
cut_into-push (count ∷ counts) xs more n all is =
    let total : count + sum counts ≡ length xs = sym (sum_by-cons (λ (x : ℕ). x) count counts) ∙ all in
    let low : count ≤ length xs = omega (arith, total) in
    let left : sum counts ≡ length (drop count xs) = omega (arith, total, length-drop count xs) in
    let rest : cut_into (counts ++ n ∷ []) (drop count (xs ++ more)) ≡ cut_into counts (drop count xs) ++ more ∷ [] =
    ap (cut_into (counts ++ n ∷ [])) (drop-append-le count xs more low) ∙ cut_into-push counts (drop count xs) more n left is in
    λ i. take-append-le count xs more low i ∷ rest i

-- ---- how many entries are needed

pub records_need-push : (size : ℕ) (indexes : List ℕ) (index : ℕ) → records_need size (indexes ++ index ∷ []) ≡ max (records_need size indexes) (inclusion_needs size index)
records_need-push size [] index = omega arith
records_need-push size (first ∷ indexes) index = omega (arith, records_need-push size indexes index)

least_of : (needed other n : ℕ) (xs ys : List Segment) → IsNeeded 0 needed xs → IsNeeded 0 other ys → All (λ s. s.end ≤ n) xs → All (λ s. s.end ≤ n) ys → max needed other ≤ n
least_of needed other n xs ys first second within beyond =
    let low : needed ≤ n =
    elim (cases_lt 0 needed) as (λ _. needed ≤ n) [
      | inl some ↦ first.least some n within
      | inr none ↦ omega (arith, none)
    ] in
    let high : other ≤ n =
    elim (cases_lt 0 other) as (λ _. other ≤ n) [
      | inl some ↦ second.least some n beyond
      | inr none ↦ omega (arith, none)
    ] in
    omega (arith, low, high)

front : {X : Type 0} (P : X → Type 0) (xs ys : List X) → All P (xs ++ ys) → All P xs
front P xs ys all = subst (All P) (take-append-le (length xs) xs ys (omega arith) ∙ take_all (length xs) xs (omega arith)) (All-take P (length xs) (xs ++ ys) all)

back : {X : Type 0} (P : X → Type 0) (xs ys : List X) → All P (xs ++ ys) → All P ys
back P xs ys all = subst (All P) (drop-append_seam xs ys) (All-drop P (length xs) (xs ++ ys) all)

pub needed-both : (needed other : ℕ) (xs ys : List Segment) → IsNeeded 0 needed xs → IsNeeded 0 other ys → IsNeeded 0 (max needed other) (xs ++ ys)
needed-both needed other xs ys first second = record {
  most = All-append (λ (s : Segment). s.end ≤ max needed other) xs ys
      (All-weaker (λ (s : Segment). s.end ≤ needed) (λ (s : Segment). s.end ≤ max needed other) (λ s h. omega (arith, h)) xs first.most)
      (All-weaker (λ (s : Segment). s.end ≤ other) (λ (s : Segment). s.end ≤ max needed other) (λ s h. omega (arith, h)) ys second.most);
  least = λ some n within. least_of needed other n xs ys first second (front (λ (s : Segment). s.end ≤ n) xs ys within) (back (λ (s : Segment). s.end ≤ n) xs ys within);
}

pub needs-small : (size : ℕ) (indexes : List ℕ) → All (IsIndex size) indexes → records_need size indexes ≤ 2 ^ 62
needs-small size [] all = omega arith
needs-small size (index ∷ indexes) all =
    let here = All-head (IsIndex size) index indexes all in
    omega (arith, here.1, (needs-between size index here.0).1, needs-small size indexes (All-tail (IsIndex size) index indexes all))

-- ---- the segments, one proof after another

pub paths-none : (size : ℕ) → IsPathsPlan size [] [] []
paths-none size = record {
  hashes = λ H entries within. refl;
  count = refl;
  total = refl;
  parts = All-nil IsSegment;
  needed = record { most = All-nil (λ (s : Segment). s.end ≤ 0); least = λ some n within. omega arith };
}

paths-push : (size index : ℕ) (indexes counts : List ℕ) (segments plan : List Segment) (n : ℕ) → size ≤ 2 ^ 62 → n ≡ length plan → IsPathPlan index 0 size plan → IsPathsPlan size indexes segments counts
    → IsPathsPlan size (indexes ++ index ∷ []) (segments ++ plan) (counts ++ n ∷ [])
paths-push size index indexes counts segments plan n small n_is path paths =
    record {
      hashes = λ H entries within.
          let f = segment_root H entries in
          let proof = λ (x : ℕ). inclusion_proof H x (take size entries) in
          let here : map f plan ≡ proof index = path-all H index size plan entries path within in
          ap (map (map f)) (cut_into-push counts segments plan n paths.total n_is)
          ∙ map-append (map f) (cut_into counts segments) (plan ∷ [])
          ∙ (λ i. paths.hashes H entries within i ++ here i ∷ [])
          ∙ sym (map-append proof indexes (index ∷ []));
      count = length_push counts n ∙ ap (λ (x : ℕ). x + 1) paths.count ∙ sym (length_push indexes index);
      total = sum_by_push (λ (x : ℕ). x) counts n ∙ omega (arith, paths.total, n_is, length-append segments plan);
      parts = All-append IsSegment segments plan paths.parts (path.parts (aligned-all size small));
      needed = subst (λ (x : ℕ). IsNeeded 0 x (segments ++ plan)) (sym (records_need-push size indexes index)) (needed-both (records_need size indexes) (inclusion_needs size index) segments plan paths.needed path.needed);
    }

-- no index is asked for
pub none-asked : (indexes : List ℕ) → length indexes ≡ 0 → indexes ≡ []
none-asked [] none = refl
none-asked (index ∷ indexes) none = absurd (omega (arith, none))

-- the proof of one index more
pub paths-next : (size : ℕ) (indexes : List ℕ) (i d index : ℕ) (counts next : List ℕ) (segments now : List Segment) (n : ℕ) → i < length indexes → index ≡ get_or indexes i d → All (IsIndex size) indexes
    → GrowsBy (IsPathPlan index 0 size) segments now → n ≡ length now - length segments → next ≡ counts ++ n ∷ []
    → IsPathsPlan size (take i indexes) segments counts → IsPathsPlan size (take (i + 1) indexes) now next
paths-next size indexes i d index counts next segments now n within is all grows n_is next_is paths =
    let small : size ≤ 2 ^ 62 = (All-get_or (IsIndex size) indexes i d within all).1 in
    let len : n ≡ length grows.added = omega (arith, n_is, ap length grows.whole, length-append segments grows.added) in
    let one : take (i + 1) indexes ≡ take i indexes ++ index ∷ [] = take_more indexes i d within ∙ ap (λ (x : ℕ). take i indexes ++ x ∷ []) (sym is) in
    let made = paths-push size index (take i indexes) counts segments grows.added n small len grows.are paths in
    subst (λ (list : List ℕ). IsPathsPlan size list now next) (sym one)
    (subst (λ (list : List Segment). IsPathsPlan size (take i indexes ++ index ∷ []) list next) (sym grows.whole)
    (subst (λ (list : List ℕ). IsPathsPlan size (take i indexes ++ index ∷ []) (segments ++ grows.added) list) (sym next_is) made))

pub paths-all : (size : ℕ) (indexes : List ℕ) (i : ℕ) (counts : List ℕ) (segments : List Segment) → length indexes ≤ i → IsPathsPlan size (take i indexes) segments counts → IsPathsPlan size indexes segments counts
paths-all size indexes i counts segments end paths = subst (λ (list : List ℕ). IsPathsPlan size list segments counts) (take_all i indexes end) paths

pub paths-small : (size : ℕ) (indexes counts : List ℕ) (segments : List Segment) → All (IsIndex size) indexes → IsPathsPlan size indexes segments counts → All (λ s. s.end ≤ 2 ^ 62) segments
paths-small size indexes counts segments all paths =
    let most : records_need size indexes ≤ 2 ^ 62 = needs-small size indexes all in
    All-weaker (λ (s : Segment). s.end ≤ records_need size indexes) (λ (s : Segment). s.end ≤ 2 ^ 62) (λ s h. omega (arith, h, most)) segments paths.needed.most

-- the pieces of their tree hashes are the proofs
pub paths-proofs : (H : Digest) (entries : List (List ℕ)) (size : ℕ) (indexes counts : List ℕ) (segments : List Segment) (hashes : List (List ℕ)) (lists : List (List (List ℕ))) → size ≤ length entries
    → IsPathsPlan size indexes segments counts → hashes ≡ map (segment_root H entries) segments → lists ≡ cut_into counts hashes
    → lists ≡ map (λ index. inclusion_proof H index (take size entries)) indexes
paths-proofs H entries size indexes counts segments hashes lists within paths hashes_are lists_are =
    lists_are ∙ ap (cut_into counts) hashes_are ∙ cut_into-map (segment_root H entries) counts segments ∙ paths.hashes H entries within
