-- The subtrees that an entry completes.
use Rattle.std.proofs.Common.{◌≡◌, ◌≢◌, ℕ, zero, suc, ◌+◌, ◌-◌, ◌*◌, ◌/◌, ◌%◌, ◌^◌, ◌<◌, ◌≤◌, inl, inr, true, ◌==◌, List, [], ◌∷◌, ◌++◌, length, take, drop, map, filter, get_or, refl, sym, ap, subst, ◌∙◌, append_assoc, arith}
use Rattle.std.specs.List.{range_with_len}
use Rattle.std.specs.Int.{w64, bit_at, trailing_zeros}
use Rattle.std.proofs.Math.Nat.{pow-succ'}
use Rattle.std.proofs.lemmas.Nat.{pow_pos, div-add-mod', div-mul-add, mod-pow-add, mul-le}
use Rattle.std.proofs.lemmas.List.FromFn.{length-range_with_len}
use Rattle.std.proofs.lemmas.Nat.Bits.{bit_at-trailing_zeros}
use Rattle.std.proofs.lemmas.Bool.{cases_lt, cases_eq, eq-eqb, eqb-true}
use Rattle.std.proofs.lemmas.List.{length-append, map-append, length-drop, take_all, take-append-le, drop-take, drop-drop, get_or_append_left, nil_from_length}
use Rattle.std.proofs.Math.Seq.{drop-append_seam}
use Rattle.tl_hash.specs.Bytes.{Digest}
use Rattle.tl_hash.specs.Split.{IsSplit}
use Rattle.tl_hash.specs.Tree.{tree_hash, leaf_input, node_input}
use Rattle.tl_hash.proofs.SplitLemmas.{below_pow}
use Rattle.tl_hash.proofs.TreeLemmas.{tree_hash-one, tree_hash-split}
use Rattle.tl_store.specs.Stored.{stored_count, stored_index, levels_ending, stored_hashes, stored_hash}
use Rattle.tl_store.specs.Inner.Subtrees.{subtree_hash}
use Rattle.tl_store.specs.Inner.Adds.{IsBegun}
use Rattle.tl_store.proofs.StoredLemmas.{count_step, count_is_length, divides_lower, index_is_place, entry_appends_its_subtrees, range-more}
use Rattle.tl_store.proofs.Readable.{index-in_count}
use Rattle.tl_store.proofs.Splits.{kept_below}

-- a number whose lowest k bits are 0 is divided by 2 ^ k
divided_by_zeros : (n k : ℕ) → ((i : ℕ) → i < k → bit_at n i ≡ 0) → n % 2 ^ k ≡ 0
divided_by_zeros n zero zeros = omega arith
divided_by_zeros n (suc k) zeros =
    let sum : suc k ≡ 1 + k = omega arith in
    let low : n % 2 ^ k ≡ 0 = divided_by_zeros n k (λ i h. zeros i (omega (arith, h))) in
    let bit : n / 2 ^ k % 2 ^ 1 ≡ 0 = zeros k (omega arith) in
    let product : n / 2 ^ k % 2 ^ 1 * 2 ^ k ≡ 0 * 2 ^ k = ap (λ (x : ℕ). x * 2 ^ k) bit in
    omega (arith, ap (λ (x : ℕ). n % 2 ^ x) sum, mod-pow-add n 1 k, product, low)

-- the highest power of two that divides a number
pub record IsHighest (level n : ℕ) : Type 0 where
  pub divides : n % 2 ^ level ≡ 0
  pub highest : n % 2 ^ (level + 1) ≢ 0

pub highest-is : (n : ℕ) → 0 < n → n < 2 ^ 32 → (trailing_zeros w64 n < 64) × IsHighest (trailing_zeros w64 n) n
highest-is n some small =
    let k : ℕ = trailing_zeros w64 n in
    let found = bit_at-trailing_zeros w64 n some (omega (arith, small)) in
    let divides : n % 2 ^ k ≡ 0 = divided_by_zeros n k found.2 in
    let sum : k + 1 ≡ 1 + k = omega arith in
    let bit : n / 2 ^ k % 2 ^ 1 ≡ 1 = found.1 in
    let product : n / 2 ^ k % 2 ^ 1 * 2 ^ k ≡ 1 * 2 ^ k = ap (λ (x : ℕ). x * 2 ^ k) bit in
    let whole : n % 2 ^ (k + 1) ≡ 2 ^ k = omega (arith, ap (λ (x : ℕ). n % 2 ^ x) sum, mod-pow-add n 1 k, product, divides) in
    (found.0, record { divides = divides; highest = λ e. omega (arith, e, whole, pow_pos k) })

-- ---- the levels that end with an entry

ending_from : (s k a n : ℕ) → IsHighest k s → a ≤ k + 1 → k + 1 ≤ a + n → filter (λ x. s % 2 ^ x == 0) (range_with_len a n) ≡ range_with_len a (k + 1 - a)
ending_from s k a zero is low high =
    let none : 0 ≡ k + 1 - a = omega (arith, low, high) in
    ap (range_with_len a) none
ending_from s k a (suc n) is low high =
    elim (cases_lt k a) as (λ _. filter (λ x. s % 2 ^ x == 0) (range_with_len a (suc n)) ≡ range_with_len a (k + 1 - a)) [
      | inl above ↦
          let none : 0 ≡ k + 1 - a = omega (arith, above) in
          nil_from_length (filter (λ x. s % 2 ^ x == 0) (range_with_len a (suc n)))
          (omega (arith, above, kept_below (λ x. s % 2 ^ x == 0) (k + 1) a (suc n) (λ j more holds. is.highest (divides_lower s j (k + 1) more (eqb-true (s % 2 ^ j) 0 holds)))))
          ∙ ap (range_with_len a) none
      | inr within ↦
          let holds : (s % 2 ^ a == 0) ≡ true = eq-eqb (s % 2 ^ a) 0 (divides_lower s k a within is.divides) in
          let rest : filter (λ x. s % 2 ^ x == 0) (range_with_len (a + 1) n) ≡ range_with_len (a + 1) (k + 1 - (a + 1)) =
          ending_from s k (a + 1) n is (omega (arith, within)) (omega (arith, high)) in
          let count : suc (k + 1 - (a + 1)) ≡ k + 1 - a = omega (arith, within) in
          rw holds ((λ i. a ∷ rest i) ∙ ap (range_with_len a) count)
    ]

-- they are those up to the highest
pub ending_is : (s k : ℕ) → 0 < s → IsHighest k s → levels_ending s ≡ range_with_len 0 (k + 1)
unfolding levels_ending
ending_is s k some is =
    let parts : s / 2 ^ k * 2 ^ k + s % 2 ^ k ≡ s = div-add-mod' s (2 ^ k) in
    let once : 2 ^ k ≤ s =
    elim (cases_eq (s / 2 ^ k) 0) as (λ _. 2 ^ k ≤ s) [
      | inl none ↦ absurd (let product : s / 2 ^ k * 2 ^ k ≡ 0 * 2 ^ k = ap (λ (x : ℕ). x * 2 ^ k) none in omega (arith, parts, product, is.divides, some))
      | inr differ ↦ (let product : 1 * 2 ^ k ≤ s / 2 ^ k * 2 ^ k = mul-le 1 (2 ^ k) (s / 2 ^ k) (2 ^ k) (omega (arith, differ)) (omega arith) in omega (arith, product, parts))
    ] in
    let sum : k + 1 - 0 ≡ k + 1 = omega arith in
    ending_from s k 0 s is (omega arith) (omega (arith, once, below_pow k)) ∙ ap (range_with_len 0) sum

-- ---- one subtree more

-- the place of the left part of a subtree that ends with the last of `size` entries
pub record HasLeftPart (size level : ℕ) : Type 0 where
  pub two : 2 ≤ size / 2 ^ level
  pub start : (size / 2 ^ level - 2) * 2 ^ level + 2 * 2 ^ level ≡ size
  pub end : (size / 2 ^ level - 2 + 1) * 2 ^ level + 2 ^ level ≡ size

pub left_part : (size k level : ℕ) → 0 < size → IsHighest k size → level < k → HasLeftPart size level
left_part size k level some is low =
    let w : ℕ = 2 ^ level in
    let next : level + 1 ≡ suc level = omega arith in
    let twice : 2 ^ (level + 1) ≡ 2 * w = ap (λ (x : ℕ). 2 ^ x) next ∙ pow-succ' 2 level in
    let q : ℕ = size / 2 ^ (level + 1) in
    let divides : size % 2 ^ (level + 1) ≡ 0 = divides_lower size k (level + 1) (omega (arith, low)) is.divides in
    let parts : q * 2 ^ (level + 1) + size % 2 ^ (level + 1) ≡ size = div-add-mod' size (2 ^ (level + 1)) in
    let whole : q * (2 * w) ≡ size = sym (ap (λ (x : ℕ). q * x) twice) ∙ omega (arith, parts, divides) in
    let more : 0 < q =
    elim (cases_eq q 0) as (λ _. 0 < q) [
      | inl none ↦ absurd (let product : q * (2 * w) ≡ 0 * (2 * w) = ap (λ (x : ℕ). x * (2 * w)) none in omega (arith, product, whole, some))
      | inr differ ↦ omega (arith, differ)
    ] in
    let p : ℕ = q - 1 in
    let q_is : q ≡ p + 1 = omega (arith, more) in
    let size_is : size ≡ (p + 1) * (2 * w) = sym whole ∙ ap (λ (x : ℕ). x * (2 * w)) q_is in
    let quotient : size / w ≡ 2 * p + 2 =
    ap (λ (x : ℕ). x / w) (let product : size ≡ (2 * p + 2) * w + 0 = omega (arith, size_is) in product) ∙ div-mul-add (2 * p + 2) w 0 (pow_pos level) in
    let place_is : size / w - 2 ≡ 2 * p = omega (arith, quotient) in
    record {
      two = omega (arith, quotient);
      start = ap (λ (x : ℕ). x * w + 2 * w) place_is ∙ omega (arith, size_is);
      end = ap (λ (x : ℕ). (x + 1) * w + w) place_is ∙ omega (arith, size_is);
    }

-- a node over the left part and the subtree so far is the next subtree
pub next_subtree : (H : Digest) (entries : List (List ℕ)) (entry : List ℕ) (size level : ℕ) → length entries + 1 ≡ size → HasLeftPart size level
    → H (node_input (stored_hash H entries (stored_index level (size / 2 ^ level - 2))) (subtree_hash H (entries ++ entry ∷ []) size level))
    ≡ subtree_hash H (entries ++ entry ∷ []) size (level + 1)
next_subtree H entries entry size level len part =
    let w : ℕ = 2 ^ level in
    let all : List (List ℕ) = entries ++ entry ∷ [] in
    let start : ℕ = size - 2 * w in
    let place : ℕ = size / w - 2 in
    let some : 0 < w = pow_pos level in
    let all_length : length all ≡ size = length-append entries (entry ∷ []) ∙ len in
    let place_is : place * w ≡ start = omega (arith, part.start) in
    let there : start + w ≤ length entries = omega (arith, part.start, len, some) in
    let left_hash : stored_hash H entries (stored_index level place) ≡ tree_hash H (take w (drop start entries)) =
    (index_is_place H entries level place (omega (arith, part.end, len, some))).1 ∙ ap (λ (x : ℕ). tree_hash H (take w (drop x entries))) place_is in
    let next : level + 1 ≡ suc level = omega arith in
    let twice : 2 ^ (level + 1) ≡ 2 * w = ap (λ (x : ℕ). 2 ^ x) next ∙ pow-succ' 2 level in
    let whole : take size all ≡ all = ap (λ (x : ℕ). take x all) (sym all_length) ∙ take_all (length all) all (omega arith) in
    let last : List (List ℕ) = drop start all in
    let last_length : length last ≡ 2 * w = length-drop start all ∙ omega (arith, all_length, part.start) in
    let split : IsSplit w (length last) = record { power = (level, refl); below = omega (arith, last_length, some); largest = omega (arith, last_length) } in
    let first : take w last ≡ take w (drop start entries) =
    sym (drop-take start w all) ∙ ap (drop start) (take-append-le (start + w) entries (entry ∷ []) there) ∙ drop-take start w entries in
    let sum : start + w ≡ size - w = omega (arith, part.start) in
    let second : drop w last ≡ drop (size - w) all = drop-drop w start all ∙ ap (λ (x : ℕ). drop x all) sum in
    let here : subtree_hash H all size level ≡ tree_hash H (drop (size - w) all) = ap (λ (list : List (List ℕ)). tree_hash H (drop (size - w) list)) whole in
    let above : subtree_hash H all size (level + 1) ≡ tree_hash H last =
    ap (λ (list : List (List ℕ)). tree_hash H (drop (size - 2 ^ (level + 1)) list)) whole ∙ ap (λ (x : ℕ). tree_hash H (drop (size - x) all)) twice in
    (λ i. H (node_input (left_hash i) (here i)))
    ∙ sym (above ∙ tree_hash-split H w last split ∙ (λ i. H (node_input (tree_hash H (first i)) (tree_hash H (second i)))))

-- the leaf is the first
pub first_subtree : (H : Digest) (entries : List (List ℕ)) (entry : List ℕ) (size : ℕ) → length entries + 1 ≡ size
    → subtree_hash H (entries ++ entry ∷ []) size 0 ≡ H (leaf_input entry)
first_subtree H entries entry size len =
    let all : List (List ℕ) = entries ++ entry ∷ [] in
    let all_length : length all ≡ size = length-append entries (entry ∷ []) ∙ len in
    let whole : take size all ≡ all = ap (λ (x : ℕ). take x all) (sym all_length) ∙ take_all (length all) all (omega arith) in
    let start : size - 2 ^ 0 ≡ length entries = omega (arith, len) in
    ap (λ (list : List (List ℕ)). tree_hash H (drop (size - 2 ^ 0) list)) whole
    ∙ ap (λ (x : ℕ). tree_hash H (drop x all)) start
    ∙ ap (tree_hash H) (drop-append_seam entries (entry ∷ []))
    ∙ tree_hash-one H entry

-- ---- in the words of the code

pub left_part_at : (size level : ℕ) → 0 < size → size < 2 ^ 32 → level < trailing_zeros w64 size → HasLeftPart size level
left_part_at size level some small low = left_part size (trailing_zeros w64 size) level some (highest-is size some small).1 low

pub two_at : (size level power : ℕ) → 0 < size → size < 2 ^ 32 → level < trailing_zeros w64 size → power ≡ 2 ^ level → 2 ≤ size / power
two_at size level power some small low power_is = omega (arith, (left_part_at size level some small low).two, ap (λ (x : ℕ). size / x) power_is)

pub number_at : (size level power : ℕ) → 0 < size → size < 2 ^ 32 → level < trailing_zeros w64 size → power ≡ 2 ^ level → (size / power - 2 + 1) * 2 ^ level ≤ 2 ^ 62
number_at size level power some small low power_is = omega (arith, (left_part_at size level some small low).end, ap (λ (x : ℕ). (size / x - 2 + 1) * 2 ^ level) power_is, small)

left_at : (size level power number : ℕ) → power ≡ 2 ^ level → number ≡ stored_index level (size / power - 2) → number ≡ stored_index level (size / 2 ^ level - 2)
left_at size level power number power_is is = is ∙ ap (λ (x : ℕ). stored_index level (size / x - 2)) power_is

pub last_level : (size level : ℕ) → 0 < size → size < 2 ^ 32 → level ≤ trailing_zeros w64 size → trailing_zeros w64 size ≤ level → IsHighest level size
last_level size level some small low high =
    let same : trailing_zeros w64 size ≡ level = omega (arith, low, high) in
    subst (λ (x : ℕ). IsHighest x size) same (highest-is size some small).1

-- ---- the hashes that an entry adds, one after another

-- one level more
levels_more : (f : ℕ → List ℕ) (level : ℕ) → map f (range_with_len 0 (level + 1 + 1)) ≡ map f (range_with_len 0 (level + 1)) ++ f (level + 1) ∷ []
levels_more f level =
    let one : level + 1 + 1 ≡ suc (level + 1) = omega arith in
    let start : 0 + (level + 1) ≡ level + 1 = omega arith in
    ap (λ (x : ℕ). map f (range_with_len 0 x)) one
    ∙ ap (map f) (range-more 0 (level + 1) ∙ ap (λ (x : ℕ). range_with_len 0 (level + 1) ++ x ∷ []) start)
    ∙ map-append f (range_with_len 0 (level + 1)) ((level + 1) ∷ [])

-- hashes were added one after another: from those of the subtrees up to the level `low`, of which `first` is the
-- last, on to those up to `level`, of which `hash` is the last
pub record ArePushed (H : Digest) (size low : ℕ) (first : List ℕ) (level : ℕ) (hash : List ℕ) (start now : List (List ℕ)) : Type 0 where
  pub count : length now + low ≡ length start + level
  pub hashes : (entries : List (List ℕ)) (entry : List ℕ) → length entries + 1 ≡ size → IsBegun H size entries entry low start first → IsBegun H size entries entry level now hash

pub pushed-none : (H : Digest) (size low : ℕ) (first : List ℕ) (start : List (List ℕ)) → ArePushed H size low first low first start start
pushed-none H size low first start = record { count = refl; hashes = λ entries entry len begun. begun }

pub pushed-next : (H : Digest) (size low : ℕ) (first : List ℕ) (level : ℕ) (hash : List ℕ) (start now : List (List ℕ)) (power number : ℕ) (left next : List ℕ) (after : List (List ℕ))
    → 0 < size → size < 2 ^ 32 → level < trailing_zeros w64 size → power ≡ 2 ^ level → number ≡ stored_index level (size / power - 2) → ArePushed H size low first level hash start now
    → left ≡ get_or now number [] → next ≡ H (node_input left hash) → after ≡ now ++ next ∷ []
    → ArePushed H size low first (level + 1) next start after
pushed-next H size low first level hash start now power number left next after some small below_all power_is left_number pushed left_is next_is after_is =
    let part : HasLeftPart size level = left_part_at size level some small below_all in
    let number_is : number ≡ stored_index level (size / 2 ^ level - 2) = left_at size level power number power_is left_number in
    record {
      count = omega (arith, ap length after_is, length-append now (next ∷ []), pushed.count);
      hashes = λ entries entry len begun.
          let all : List (List ℕ) = entries ++ entry ∷ [] in
          let before : List (List ℕ) = stored_hashes H entries in
          let so_far = pushed.hashes entries entry len begun in
          let counted : length before ≡ stored_count (size - 1) = (let fewer : length entries ≡ size - 1 = omega (arith, len) in count_is_length H entries ∙ ap stored_count fewer) in
          let below : number < length before = omega (arith, number_is, counted, index-in_count (size - 1) level (size / 2 ^ level - 2) (omega (arith, part.end, pow_pos level))) in
          let there : left ≡ stored_hash H entries (stored_index level (size / 2 ^ level - 2)) =
          left_is
          ∙ ap (λ (list : List (List ℕ)). get_or list number []) so_far.1
          ∙ get_or_append_left before (map (subtree_hash H all size) (range_with_len 0 (level + 1))) [] number below
          ∙ ap (λ (x : ℕ). get_or before x []) number_is in
          let is : next ≡ subtree_hash H all size (level + 1) = next_is ∙ (λ i. H (node_input (there i) (so_far.0 i))) ∙ next_subtree H entries entry size level len part in
          (is, after_is ∙ (λ i. so_far.1 i ++ is i ∷ []) ∙ append_assoc before _ _ ∙ ap (λ (list : List (List ℕ)). before ++ list) (sym (levels_more (subtree_hash H all size) level)));
    }

-- the number of the left part is below the count of what was there
pub left_there : (size level power number count more : ℕ) → 0 < size → size < 2 ^ 32 → level < trailing_zeros w64 size → power ≡ 2 ^ level
    → number ≡ stored_index level (size / power - 2) → count ≡ stored_count (size - 1) + more → number < count
left_there size level power number count more some small low power_is left_number counted =
    let part : HasLeftPart size level = left_part_at size level some small low in
    let number_is : number ≡ stored_index level (size / 2 ^ level - 2) = left_at size level power number power_is left_number in
    omega (arith, number_is, counted, index-in_count (size - 1) level (size / 2 ^ level - 2) (omega (arith, part.end, pow_pos level)))

pub pushed-all : (H : Digest) (size low : ℕ) (first : List ℕ) (level : ℕ) (hash : List ℕ) (start now : List (List ℕ)) → 0 < size → IsHighest level size → ArePushed H size low first level hash start now
    → (entries : List (List ℕ)) (entry : List ℕ) → length entries + 1 ≡ size → IsBegun H size entries entry low start first
    → now ≡ stored_hashes H (entries ++ entry ∷ [])
pushed-all H size low first level hash start now some is pushed entries entry len begun =
    let all : List (List ℕ) = entries ++ entry ∷ [] in
    let next : size ≡ suc (length entries) = omega (arith, len) in
    (pushed.hashes entries entry len begun).1
    ∙ ap (λ list. stored_hashes H entries ++ map (subtree_hash H all size) list) (sym (ending_is size level some is))
    ∙ ap (λ (x : ℕ). stored_hashes H entries ++ map (subtree_hash H all x) (levels_ending x)) next
    ∙ sym (entry_appends_its_subtrees H entries entry)

pub counted-all : (size level count : ℕ) → 0 < size → IsHighest level size → count ≡ stored_count (size - 1) + (level + 1) → count ≡ stored_count size
counted-all size level count some is counted =
    let next : size ≡ suc (size - 1) = omega (arith, some) in
    omega (arith, counted, count_step (size - 1), ap stored_count next, ap (λ (x : ℕ). length (levels_ending x)) next, ap length (ending_is size level some is), length-range_with_len 0 (level + 1))

-- a level whose width divides the number is one of those that end there
pub low_enough : (size low : ℕ) → 0 < size → size < 2 ^ 32 → size % 2 ^ low ≡ 0 → low ≤ trailing_zeros w64 size
low_enough size low some small whole =
    let k : ℕ = trailing_zeros w64 size in
    elim (cases_lt k low) as (λ _. low ≤ k) [
      | inl above ↦ absurd ((highest-is size some small).1.highest (divides_lower size low (k + 1) (omega (arith, above)) whole))
      | inr within ↦ within
    ]

-- the count after an entry's subtrees fits the room
pub room_enough : (size room : ℕ) → 0 < size → size < 2 ^ 32 → stored_count size ≤ room → stored_count (size - 1) + (trailing_zeros w64 size + 1) ≤ room
room_enough size room some small fits =
    omega (arith, fits, counted-all size (trailing_zeros w64 size) (stored_count (size - 1) + (trailing_zeros w64 size + 1)) some (highest-is size some small).1 refl)

-- there is room for one more
pub one_room : (size room : ℕ) → size + 1 < 2 ^ 32 → stored_count (size + 1) ≤ room → stored_count size < room
one_room size room small fits =
    let before : stored_count (size + 1 - 1) ≡ stored_count size = (let e : size + 1 - 1 ≡ size = omega arith in ap stored_count e) in
    omega (arith, room_enough (size + 1) room (omega arith) small fits, before)
