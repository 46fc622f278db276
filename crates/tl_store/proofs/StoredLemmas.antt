-- Stored hashes: their number, what an entry adds, and the place of each.
use Rattle.std.proofs.Common.{◌≡◌, ℕ, zero, suc, ◌+◌, ◌-◌, ◌*◌, ◌/◌, ◌%◌, ◌^◌, ◌<◌, ◌≤◌, inl, inr, Bool, true, cond, ◌==◌, List, [], ◌∷◌, ◌++◌, length, take, drop, map, filter, sum_by, count_by, nat_le, get_or, refl, sym, ap, subst, ◌∙◌, arith}
use Rattle.std.specs.List.{range_with_len}
use Rattle.std.proofs.Math.Nat.{mod-lt}
use Rattle.std.proofs.lemmas.Nat.{pow_pos, div-add-mod', div-mul-add, mod-mul-add, mod-pow-add, mul-le, shr_le}
use Rattle.std.proofs.lemmas.Bool.{cases_lt, cases_eq, cases_Bool, eq-eqb, ne_eqb, le-leb, lt-leb}
use Rattle.std.proofs.lemmas.List.{length-append, length-map, take-append-le, get_or_append_left, get_or-append_right, drop-take}
use Rattle.std.proofs.lemmas.List.Sums.{sum_by-append, sum_by-cons}
use Rattle.tl_hash.specs.Bytes.{Digest}
use Rattle.tl_hash.specs.Tree.{tree_hash}
use Rattle.tl_hash.proofs.SplitLemmas.{below_pow}
use Rattle.tl_store.specs.Stored.{stored_count, stored_index, levels_ending, stored_for, stored_hashes, stored_hash}
use Rattle.tl_store.specs.Inner.Subtrees.{levels, count_at, subtree_hash}

-- ---- the places of a level

-- 1 if a test holds
abbrev one_if : Bool → ℕ
one_if test = cond test 1 0

-- how many of m places from a on, of d entries each, are within n entries
places_within : (n d a m : ℕ) → 0 < d → n / d ≤ a + m → count_by (λ place. nat_le ((place + 1) * d) n) (range_with_len a m) ≡ n / d - a
places_within n d a zero some most = omega (arith, most)
places_within n d a (suc m) some most =
    let rest : count_by (λ place. nat_le ((place + 1) * d) n) (range_with_len (a + 1) m) ≡ n / d - (a + 1) = places_within n d (a + 1) m some (omega (arith, most)) in
    let parts : n / d * d + n % d ≡ n = div-add-mod' n d in
    let small : n % d < d = mod-lt n some in
    let step : count_by (λ place. nat_le ((place + 1) * d) n) (range_with_len a (suc m)) ≡ one_if (nat_le ((a + 1) * d) n) + count_by (λ place. nat_le ((place + 1) * d) n) (range_with_len (a + 1) m) =
    sum_by-cons (λ place. one_if (nat_le ((place + 1) * d) n)) a (range_with_len (a + 1) m) in
    elim (cases_lt a (n / d)) as (λ _. count_by (λ place. nat_le ((place + 1) * d) n) (range_with_len a (suc m)) ≡ n / d - a) [
      | inl less ↦
          let within : (a + 1) * d ≤ n / d * d = mul-le (a + 1) d (n / d) d (omega (arith, less)) (omega arith) in
          let one : one_if (nat_le ((a + 1) * d) n) ≡ 1 = ap one_if (le-leb ((a + 1) * d) n (omega (arith, within, parts))) in
          omega (arith, step, one, rest, less)
      | inr more ↦
          let past : (n / d + 1) * d ≤ (a + 1) * d = mul-le (n / d + 1) d (a + 1) d (omega (arith, more)) (omega arith) in
          let none : one_if (nat_le ((a + 1) * d) n) ≡ 0 = ap one_if (lt-leb ((a + 1) * d) n (omega (arith, past, parts, small))) in
          omega (arith, step, none, rest, more)
    ]

-- a level has one complete subtree for each full 2 ^ level entries
count_at-is : (n level : ℕ) → count_at n level ≡ n / 2 ^ level
count_at-is n level = omega (arith, places_within n (2 ^ level) 0 n (pow_pos level) (omega (arith, shr_le n level)))

sum_at : (n : ℕ) (list : List ℕ) → sum_by (count_at n) list ≡ sum_by (λ level. n / 2 ^ level) list
sum_at n [] = refl
sum_at n (level ∷ list) = omega (arith, sum_by-cons (count_at n) level list, sum_by-cons (λ x. n / 2 ^ x) level list, count_at-is n level, sum_at n list)

-- the count by division
pub count-is : (n : ℕ) → stored_count n ≡ sum_by (λ level. n / 2 ^ level) (levels n)
unfolding stored_count
count-is n = sum_at n (levels n)

-- ---- division, one step on

-- 1 if the divisor divides the number
abbrev step_of : ℕ → ℕ → ℕ
step_of n d = cond (n % d == 0) 1 0

quotient_step : (n d : ℕ) → 0 < d → suc n / d ≡ n / d + step_of (suc n) d
quotient_step n d some =
    let q : ℕ = n / d in
    let r : ℕ = n % d in
    let parts : q * d + r ≡ n = div-add-mod' n d in
    let small : r < d = mod-lt n some in
    elim (cases_lt (suc r) d) as (λ _. suc n / d ≡ q + step_of (suc n) d) [
      | inl less ↦
          let sum : suc n ≡ q * d + suc r = omega (arith, parts) in
          let quotient : suc n / d ≡ q = ap (λ (x : ℕ). x / d) sum ∙ div-mul-add q d (suc r) less in
          let rest : suc n % d ≡ suc r = ap (λ (x : ℕ). x % d) sum ∙ mod-mul-add q d (suc r) less in
          let differ : suc n % d ≡ 0 → ⊥ = λ e. omega (arith, e, rest) in
          rw (ne_eqb (suc n % d) 0 differ) (omega (arith, quotient))
      | inr more ↦
          let sum : suc n ≡ (q + 1) * d + 0 = omega (arith, parts, small, more) in
          let quotient : suc n / d ≡ q + 1 = ap (λ (x : ℕ). x / d) sum ∙ div-mul-add (q + 1) d 0 some in
          let rest : suc n % d ≡ 0 = ap (λ (x : ℕ). x % d) sum ∙ mod-mul-add (q + 1) d 0 some in
          rw (eq-eqb (suc n % d) 0 rest) (omega (arith, quotient))
    ]

length-filter_cons : (p : ℕ → Bool) (x : ℕ) (xs : List ℕ) → length (filter p (x ∷ xs)) ≡ cond (p x) 1 0 + length (filter p xs)
length-filter_cons p x xs =
    elim (cases_Bool (p x)) as (λ _. length (filter p (x ∷ xs)) ≡ cond (p x) 1 0 + length (filter p xs)) [
      | inl e ↦ rw e (omega arith)
      | inr e ↦ rw e (omega arith)
    ]

sum_step : (n : ℕ) (list : List ℕ)
    → sum_by (λ level. suc n / 2 ^ level) list ≡ sum_by (λ level. n / 2 ^ level) list + length (filter (λ level. suc n % 2 ^ level == 0) list)
sum_step n [] = refl
sum_step n (level ∷ list) =
    omega (
      arith,
      sum_by-cons (λ x. suc n / 2 ^ x) level list,
      sum_by-cons (λ x. n / 2 ^ x) level list,
      length-filter_cons (λ x. suc n % 2 ^ x == 0) level list,
      quotient_step n (2 ^ level) (pow_pos level),
      sum_step n list,
    )

pub range-more : (a n : ℕ) → range_with_len a (suc n) ≡ range_with_len a n ++ (a + n) ∷ []
range-more a zero = let e : a ≡ a + 0 = omega arith in λ i. e i ∷ []
range-more a (suc n) =
    let e : a + 1 + n ≡ a + suc n = omega arith in
    (λ i. a ∷ range-more (a + 1) n i) ∙ (λ i. a ∷ (range_with_len (a + 1) n ++ e i ∷ []))

-- an entry more completes one subtree at each level that ends with it
pub count_step : (n : ℕ) → stored_count (suc n) ≡ stored_count n + length (levels_ending (suc n))
unfolding levels_ending
count_step n =
    let none : n / 2 ^ n ≡ 0 = ap (λ (x : ℕ). x / 2 ^ n) (omega arith) ∙ div-mul-add 0 (2 ^ n) n (below_pow n) in
    let more : sum_by (λ level. n / 2 ^ level) (levels (suc n)) ≡ sum_by (λ level. n / 2 ^ level) (levels n) + sum_by (λ level. n / 2 ^ level) (n ∷ []) =
    ap (sum_by (λ level. n / 2 ^ level)) (range-more 0 n ∙ ap (λ (x : ℕ). levels n ++ x ∷ []) (omega arith))
    ∙ sum_by-append (λ level. n / 2 ^ level) (levels n) (n ∷ []) in
    omega (arith, count-is n, count-is (suc n), sum_step n (levels (suc n)), more, none, sum_by-cons (λ level. n / 2 ^ level) n [])

length-stored_for : (H : Digest) (n : ℕ) (entries : List (List ℕ)) → length (stored_for H n entries) ≡ stored_count n
unfolding stored_for
length-stored_for H zero entries = unfold stored_count in refl
length-stored_for H (suc n) entries =
    omega (
      arith,
      length-append (stored_for H n entries) (map (subtree_hash H entries (suc n)) (levels_ending (suc n))),
      length-map (levels_ending (suc n)) (subtree_hash H entries (suc n)),
      length-stored_for H n entries,
      count_step n,
    )

-- as many hashes are stored as the tree has complete subtrees
pub count_is_length : (H : Digest) (entries : List (List ℕ)) → length (stored_hashes H entries) ≡ stored_count (length entries)
unfolding stored_hashes
count_is_length H entries = length-stored_for H (length entries) entries

stored_for-append : (H : Digest) (n : ℕ) (entries more : List (List ℕ)) → n ≤ length entries → stored_for H n (entries ++ more) ≡ stored_for H n entries
unfolding stored_for
stored_for-append H zero entries more within = refl
stored_for-append H (suc n) entries more within =
    let before : stored_for H n (entries ++ more) ≡ stored_for H n entries = stored_for-append H n entries more (omega (arith, within)) in
    let part : take (suc n) (entries ++ more) ≡ take (suc n) entries = take-append-le (suc n) entries more within in
    λ i. before i ++ map (λ level. tree_hash H (drop (suc n - 2 ^ level) (part i))) (levels_ending (suc n))

-- an entry more stores the hash of each complete subtree that ends with it, after all the others
pub entry_appends_its_subtrees : (H : Digest) (entries : List (List ℕ)) (entry : List ℕ)
    → stored_hashes H (entries ++ entry ∷ [])
    ≡ stored_hashes H entries ++ map (subtree_hash H (entries ++ entry ∷ []) (suc (length entries))) (levels_ending (suc (length entries)))
unfolding stored_hashes stored_for
entry_appends_its_subtrees H entries entry =
    let all : List (List ℕ) = entries ++ entry ∷ [] in
    let len : length all ≡ suc (length entries) = omega (arith, length-append entries (entry ∷ [])) in
    ap (λ (n : ℕ). stored_for H n all) len
    ∙ ap (λ list. list ++ map (subtree_hash H all (suc (length entries))) (levels_ending (suc (length entries))))
    (stored_for-append H (length entries) entries (entry ∷ []) (omega arith))

-- ---- the place of a subtree

-- if a test holds of the first numbers of a range, they are the first that it keeps
filter-range : (p : ℕ → Bool) (a n i : ℕ) → i < n → ((j : ℕ) → j ≤ i → p (a + j) ≡ true)
    → (i < length (filter p (range_with_len a n))) × (get_or (filter p (range_with_len a n)) i 0 ≡ a + i)
filter-range p a zero i within all = absurd (omega (arith, within))
filter-range p a (suc n) zero within all =
    let first : p a ≡ true = ap p (omega arith) ∙ all 0 (omega arith) in
    let sum : a ≡ a + 0 = omega arith in
    rw first (omega arith, sum)
filter-range p a (suc n) (suc i) within all =
    let first : p a ≡ true = ap p (omega arith) ∙ all 0 (omega arith) in
    let rest : (i < length (filter p (range_with_len (a + 1) n))) × (get_or (filter p (range_with_len (a + 1) n)) i 0 ≡ a + 1 + i) =
    filter-range p (a + 1) n i (omega (arith, within))
    (λ j h. let e : a + 1 + j ≡ a + suc j = omega arith in ap p e ∙ all (suc j) (omega (arith, h))) in
    let sum : a + 1 + i ≡ a + suc i = omega arith in
    rw first (omega (arith, rest.0), rest.1 ∙ sum)

pub divides_lower : (s level j : ℕ) → j ≤ level → s % 2 ^ level ≡ 0 → s % 2 ^ j ≡ 0
divides_lower s level j below divides =
    let sum : level - j + j ≡ level = omega (arith, below) in
    let whole : s % 2 ^ (level - j + j) ≡ 0 = ap (λ (x : ℕ). s % 2 ^ x) sum ∙ divides in
    omega (arith, whole, mod-pow-add s (level - j) j)

-- the level of a subtree is its place among those that end with one entry
level_is_place : (s level : ℕ) → level < s → s % 2 ^ level ≡ 0 → (level < length (levels_ending s)) × (get_or (levels_ending s) level 0 ≡ level)
unfolding levels_ending
level_is_place s level within divides =
    let found = filter-range (λ x. s % 2 ^ x == 0) 0 s level within
    (λ j h. let low : j ≤ level = h in let sum : 0 + j ≡ j = omega arith in
    ap (λ (x : ℕ). s % 2 ^ x == 0) sum ∙ eq-eqb (s % 2 ^ j) 0 (divides_lower s level j low divides)) in
    let sum : 0 + level ≡ level = omega arith in
    (found.0, found.1 ∙ sum)

get_or-map : (f : ℕ → List ℕ) (list : List ℕ) (i : ℕ) → i < length list → get_or (map f list) i [] ≡ f (get_or list i 0)
get_or-map f [] i within = absurd (omega (arith, within))
get_or-map f (x ∷ xs) zero within = refl
get_or-map f (x ∷ xs) (suc i) within = get_or-map f xs i (omega (arith, within))

-- the hash at a place among those that end with one entry
stored_for-at : (H : Digest) (entries : List (List ℕ)) (m i n : ℕ) → suc m ≤ n → i < length (levels_ending (suc m))
    → (stored_count m + i < stored_count n) × (get_or (stored_for H n entries) (stored_count m + i) [] ≡ subtree_hash H entries (suc m) (get_or (levels_ending (suc m)) i 0))
unfolding stored_for
stored_for-at H entries m i zero within inside = absurd (omega (arith, within))
stored_for-at H entries m i (suc n) within inside =
    let before : List (List ℕ) = stored_for H n entries in
    let block : List (List ℕ) = map (subtree_hash H entries (suc n)) (levels_ending (suc n)) in
    let len : length before ≡ stored_count n = length-stored_for H n entries in
    elim (cases_eq n m) as (λ _. (stored_count m + i < stored_count (suc n)) × (get_or (before ++ block) (stored_count m + i) [] ≡ subtree_hash H entries (suc m) (get_or (levels_ending (suc m)) i 0))) [
      | inl same ↦
          let here : i < length (levels_ending (suc n)) = subst (λ (x : ℕ). i < length (levels_ending (suc x))) (sym same) inside in
          let start : stored_count m ≡ stored_count n = ap stored_count (sym same) in
          let at : stored_count m + i - stored_count n ≡ i = omega (arith, start) in (
            omega (arith, count_step n, here, start),
            get_or-append_right before block (stored_count n) (stored_count m + i) [] len (omega (arith, start))
                ∙ ap (λ (x : ℕ). get_or block x []) at
                ∙ get_or-map (subtree_hash H entries (suc n)) (levels_ending (suc n)) i here
                ∙ ap (λ (x : ℕ). subtree_hash H entries (suc x) (get_or (levels_ending (suc x)) i 0)) same,
          )
      | inr differ ↦
          let deeper = stored_for-at H entries m i n (omega (arith, within, differ)) inside in (
            omega (arith, deeper.0, count_step n),
            get_or_append_left before block [] (stored_count m + i) (omega (arith, deeper.0, len)) ∙ deeper.1,
          )
    ]

-- each complete subtree's hash is stored under its number
pub index_is_place : (H : Digest) (entries : List (List ℕ)) (level place : ℕ) → (place + 1) * 2 ^ level ≤ length entries
    → (stored_index level place < stored_count (length entries))
    × (stored_hash H entries (stored_index level place) ≡ tree_hash H (take (2 ^ level) (drop (place * 2 ^ level) entries)))
unfolding stored_hashes stored_index
index_is_place H entries level place within =
    let size : ℕ = 2 ^ level in
    let start : ℕ = place * size in
    let end : ℕ = (place + 1) * size in
    let m : ℕ = end - 1 in
    let sum : end ≡ start + size = omega arith in
    let some : 0 < size = pow_pos level in
    let last : suc m ≡ end = omega (arith, sum, some) in
    let divides : end % size ≡ 0 = ap (λ (x : ℕ). x % size) (omega arith) ∙ mod-mul-add (place + 1) size 0 some in
    let low : level < end = omega (arith, below_pow level, sum) in
    let placed = level_is_place (suc m) level (omega (arith, low, last)) (ap (λ (x : ℕ). x % size) last ∙ divides) in
    let found = stored_for-at H entries m level (length entries) (omega (arith, last, within)) placed.0 in
    let before : suc m - size ≡ start = omega (arith, last, sum) in
    let whole : suc m ≡ start + size = last ∙ sum in (
      found.0,
      found.1
          ∙ ap (λ (x : ℕ). subtree_hash H entries (suc m) x) placed.1
          ∙ ap (λ (x : ℕ). tree_hash H (drop x (take (suc m) entries))) before
          ∙ ap (λ (x : ℕ). tree_hash H (drop start (take x entries))) whole
          ∙ ap (tree_hash H) (drop-take start size entries),
    )
