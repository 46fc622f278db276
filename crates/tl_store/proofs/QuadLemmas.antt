-- Four entries more, after a number of them that 4 divides.
use Rattle.std.proofs.Common.{◌≡◌, ℕ, suc, ◌+◌, ◌-◌, ◌%◌, ◌^◌, ◌<◌, ◌≤◌, List, [], ◌∷◌, ◌++◌, length, take, drop, map, get_or, refl, sym, ap, ◌∙◌, append_assoc, arith}
use Rattle.std.specs.List.{range_with_len}
use Rattle.std.specs.Int.{w64, trailing_zeros}
use Rattle.std.proofs.lemmas.List.{length-append, take_all}
use Rattle.std.proofs.lemmas.List.FromFn.{length-range_with_len}
use Rattle.std.proofs.Math.Seq.{drop-append_seam}
use Rattle.tl_hash.specs.Bytes.{Bytes, Digest}
use Rattle.tl_hash.specs.Tree.{leaf_input, node_input, tree_hash}
use Rattle.tl_hash.specs.Split.{IsSplit}
use Rattle.tl_hash.proofs.TreeLemmas.{tree_hash-one, tree_hash-split}
use Rattle.tl_store.specs.Stored.{stored_count, levels_ending, stored_for, stored_hashes}
use Rattle.tl_store.specs.Inner.Subtrees.{subtree_hash}
use Rattle.tl_store.specs.Inner.Adds.{AddsEntries, IsBegun}
use Rattle.tl_store.proofs.Completed.{IsHighest, ending_is, low_enough, room_enough}
use Rattle.tl_store.proofs.StoredLemmas.{count_step, entry_appends_its_subtrees}

-- ---- the hashes stored for four entries

quad_hashes : (H : Digest) (a b c d : Bytes)
    → stored_hashes H (a ∷ b ∷ c ∷ d ∷ [])
    ≡ tree_hash H (a ∷ []) ∷ tree_hash H (b ∷ []) ∷ tree_hash H (a ∷ b ∷ []) ∷ tree_hash H (c ∷ []) ∷ tree_hash H (d ∷ []) ∷ tree_hash H (c ∷ d ∷ []) ∷ tree_hash H (a ∷ b ∷ c ∷ d ∷ []) ∷ []
unfolding stored_hashes stored_for levels_ending
quad_hashes H a b c d = refl

-- ---- their place in a longer list

sub_is : (H : Digest) (all entries last : List Bytes) (size level : ℕ) → all ≡ entries ++ last → length last ≡ 2 ^ level → size ≡ length all
    → subtree_hash H all size level ≡ tree_hash H last
sub_is H all entries last size level all_is wide size_is =
    let start : size - 2 ^ level ≡ length entries = omega (arith, size_is, ap length all_is, length-append entries last, wide) in
    ap (λ (x : ℕ). tree_hash H (drop (size - 2 ^ level) (take x all))) size_is
    ∙ ap (λ (list : List Bytes). tree_hash H (drop (size - 2 ^ level) list)) (take_all (length all) all (omega arith) ∙ all_is)
    ∙ ap (λ (x : ℕ). tree_hash H (drop x (entries ++ last))) start
    ∙ ap (tree_hash H) (drop-append_seam entries last)

more_stored : (H : Digest) (all entries : List Bytes) (entry : Bytes) (size level : ℕ) → all ≡ entries ++ entry ∷ [] → size ≡ length all → IsHighest level size
    → stored_hashes H all ≡ stored_hashes H entries ++ map (subtree_hash H all size) (range_with_len 0 (level + 1))
more_stored H all entries entry size level all_is size_is is =
    let next : suc (length entries) ≡ size = omega (arith, size_is, ap length all_is, length-append entries (entry ∷ [])) in
    ap (stored_hashes H) all_is
    ∙ entry_appends_its_subtrees H entries entry
    ∙ ap (λ (x : ℕ). stored_hashes H entries ++ map (subtree_hash H (entries ++ entry ∷ []) x) (levels_ending x)) next
    ∙ ap (λ (list : List ℕ). stored_hashes H entries ++ map (subtree_hash H (entries ++ entry ∷ []) size) list) (ending_is size level (omega (arith, next)) is)
    ∙ ap (λ (list : List Bytes). stored_hashes H entries ++ map (subtree_hash H list size) (range_with_len 0 (level + 1))) (sym all_is)

after_one : (n : ℕ) → n % 4 ≡ 0 → IsHighest 0 (n + 1)
after_one n whole = record { divides = omega arith; highest = λ e. omega (arith, e, whole) }

after_two : (n : ℕ) → n % 4 ≡ 0 → IsHighest 1 (n + 2)
after_two n whole = record { divides = omega (arith, whole); highest = λ e. omega (arith, e, whole) }

after_three : (n : ℕ) → n % 4 ≡ 0 → IsHighest 0 (n + 3)
after_three n whole = record { divides = omega arith; highest = λ e. omega (arith, e, whole) }

-- the first three of them
three_stored : (H : Digest) (entries : List Bytes) (a b c : Bytes) → length entries % 4 ≡ 0
    → stored_hashes H (entries ++ a ∷ b ∷ c ∷ [])
    ≡ stored_hashes H entries ++ tree_hash H (a ∷ []) ∷ tree_hash H (b ∷ []) ∷ tree_hash H (a ∷ b ∷ []) ∷ tree_hash H (c ∷ []) ∷ []
three_stored H entries a b c whole =
    let n : ℕ = length entries in
    let one : List Bytes = entries ++ a ∷ [] in
    let two : List Bytes = entries ++ a ∷ b ∷ [] in
    let three : List Bytes = entries ++ a ∷ b ∷ c ∷ [] in
    let one_long : n + 1 ≡ length one = sym (length-append entries (a ∷ [])) in
    let two_long : n + 2 ≡ length two = sym (length-append entries (a ∷ b ∷ [])) in
    let three_long : n + 3 ≡ length three = sym (length-append entries (a ∷ b ∷ c ∷ [])) in
    let two_parts : two ≡ one ++ b ∷ [] = sym (append_assoc entries (a ∷ []) (b ∷ [])) in
    let three_parts : three ≡ two ++ c ∷ [] = sym (append_assoc entries (a ∷ b ∷ []) (c ∷ [])) in
    let leaf_a = sub_is H one entries (a ∷ []) (n + 1) 0 refl refl one_long in
    let leaf_b = sub_is H two one (b ∷ []) (n + 2) 0 two_parts refl two_long in
    let node_ab = sub_is H two entries (a ∷ b ∷ []) (n + 2) 1 refl refl two_long in
    let leaf_c = sub_is H three two (c ∷ []) (n + 3) 0 three_parts refl three_long in
    more_stored H three two c (n + 3) 0 three_parts three_long (after_three n whole)
    ∙ (λ i. more_stored H two one b (n + 2) 1 two_parts two_long (after_two n whole) i ++ leaf_c i ∷ [])
    ∙ (λ i. (more_stored H one entries a (n + 1) 0 refl one_long (after_one n whole) i ++ leaf_b i ∷ node_ab i ∷ []) ++ tree_hash H (c ∷ []) ∷ [])
    ∙ (λ i. ((stored_hashes H entries ++ leaf_a i ∷ []) ++ tree_hash H (b ∷ []) ∷ tree_hash H (a ∷ b ∷ []) ∷ []) ++ tree_hash H (c ∷ []) ∷ [])
    ∙ ap (λ (list : List Bytes). list ++ tree_hash H (c ∷ []) ∷ []) (append_assoc (stored_hashes H entries) (tree_hash H (a ∷ []) ∷ []) (tree_hash H (b ∷ []) ∷ tree_hash H (a ∷ b ∷ []) ∷ []))
    ∙ append_assoc (stored_hashes H entries) (tree_hash H (a ∷ []) ∷ tree_hash H (b ∷ []) ∷ tree_hash H (a ∷ b ∷ []) ∷ []) (tree_hash H (c ∷ []) ∷ [])

-- all four of them begin what the fourth adds
quad_begins : (H : Digest) (entries : List Bytes) (a b c d : Bytes) (size : ℕ) → length entries + 4 ≡ size → length entries % 4 ≡ 0
    → IsBegun H size (entries ++ a ∷ b ∷ c ∷ []) d 2 (stored_hashes H entries ++ stored_hashes H (a ∷ b ∷ c ∷ d ∷ [])) (tree_hash H (a ∷ b ∷ c ∷ d ∷ []))
quad_begins H entries a b c d size size_is whole =
    let three : List Bytes = entries ++ a ∷ b ∷ c ∷ [] in
    let all : List Bytes = three ++ d ∷ [] in
    let four : all ≡ entries ++ a ∷ b ∷ c ∷ d ∷ [] = append_assoc entries (a ∷ b ∷ c ∷ []) (d ∷ []) in
    let pair : all ≡ (entries ++ a ∷ b ∷ []) ++ c ∷ d ∷ [] = four ∙ sym (append_assoc entries (a ∷ b ∷ []) (c ∷ d ∷ [])) in
    let long : size ≡ length all = omega (arith, size_is, ap length four, length-append entries (a ∷ b ∷ c ∷ d ∷ [])) in
    let leaf = sub_is H all three (d ∷ []) size 0 refl refl long in
    let node = sub_is H all (entries ++ a ∷ b ∷ []) (c ∷ d ∷ []) size 1 pair refl long in
    let top = sub_is H all entries (a ∷ b ∷ c ∷ d ∷ []) size 2 four refl long in
    let front : List Bytes = tree_hash H (a ∷ []) ∷ tree_hash H (b ∷ []) ∷ tree_hash H (a ∷ b ∷ []) ∷ tree_hash H (c ∷ []) ∷ [] in
    let back : List Bytes = tree_hash H (d ∷ []) ∷ tree_hash H (c ∷ d ∷ []) ∷ tree_hash H (a ∷ b ∷ c ∷ d ∷ []) ∷ [] in (
      sym top,
      ap (λ (list : List Bytes). stored_hashes H entries ++ list) (quad_hashes H a b c d)
          ∙ sym (append_assoc (stored_hashes H entries) front back)
          ∙ ap (λ (list : List Bytes). list ++ back) (sym (three_stored H entries a b c whole))
          ∙ (λ i. stored_hashes H three ++ sym leaf i ∷ sym node i ∷ sym top i ∷ []),
    )

-- ---- in the words of the code

-- how many hashes are there after three
pub three_counted : (size : ℕ) → size % 4 ≡ 0 → stored_count (size + 3) ≡ stored_count size + 4
three_counted size whole =
    let step : (n level : ℕ) → 0 < n → IsHighest level n → stored_count n ≡ stored_count (n - 1) + (level + 1) =
    λ n level some is.
    let next : n ≡ suc (n - 1) = omega (arith, some) in
    omega (arith, ap stored_count next, count_step (n - 1), ap (λ (x : ℕ). length (levels_ending x)) next, ap length (ending_is n level some is), length-range_with_len 0 (level + 1)) in
    let one = step (size + 1) 0 (omega arith) (after_one size whole) in
    let two = step (size + 2) 1 (omega arith) (after_two size whole) in
    let three = step (size + 3) 0 (omega arith) (after_three size whole) in
    let before_one : stored_count (size + 1 - 1) ≡ stored_count size = (let e : size + 1 - 1 ≡ size = omega arith in ap stored_count e) in
    let before_two : stored_count (size + 2 - 1) ≡ stored_count (size + 1) = (let e : size + 2 - 1 ≡ size + 1 = omega arith in ap stored_count e) in
    let before_three : stored_count (size + 3 - 1) ≡ stored_count (size + 2) = (let e : size + 3 - 1 ≡ size + 2 = omega arith in ap stored_count e) in
    omega (arith, one, two, three, before_one, before_two, before_three)

-- there is room for the seven hashes of a quad
pub quad_room : (size room : ℕ) → size % 4 ≡ 0 → size + 4 < 2 ^ 32 → stored_count (size + 4) ≤ room → stored_count size + 7 ≤ room
quad_room size room whole small fits =
    let before : stored_count (size + 4 - 1) ≡ stored_count (size + 3) = (let e : size + 4 - 1 ≡ size + 3 = omega arith in ap stored_count e) in
    let low : 2 ≤ trailing_zeros w64 (size + 4) = low_enough (size + 4) 2 (omega arith) small (omega (arith, whole)) in
    omega (arith, room_enough (size + 4) room (omega arith) small fits, before, three_counted size whole, low)

pub adds-quad : (H : Digest) (size : ℕ) (next quad before pushed now : List Bytes) (top : Bytes) → length next ≡ 4 → size % 4 ≡ 0
    → quad ≡ stored_hashes H next → pushed ≡ before ++ quad → top ≡ get_or quad 6 [] → length now ≡ stored_count (size + 4)
    → ((entries : List Bytes) (entry : Bytes) → length entries + 1 ≡ size + 4 → IsBegun H (size + 4) entries entry 2 pushed top → now ≡ stored_hashes H (entries ++ entry ∷ []))
    → AddsEntries H size next before now
adds-quad H size [] quad before pushed now top four whole is pushed_is top_is counted added = absurd (omega (arith, four))
adds-quad H size (a ∷ []) quad before pushed now top four whole is pushed_is top_is counted added = absurd (omega (arith, four))
adds-quad H size (a ∷ b ∷ []) quad before pushed now top four whole is pushed_is top_is counted added = absurd (omega (arith, four))
adds-quad H size (a ∷ b ∷ c ∷ []) quad before pushed now top four whole is pushed_is top_is counted added = absurd (omega (arith, four))
adds-quad H size (a ∷ b ∷ c ∷ d ∷ e ∷ more) quad before pushed now top four whole is pushed_is top_is counted added = absurd (omega (arith, four))
adds-quad H size (a ∷ b ∷ c ∷ d ∷ []) quad before pushed now top four whole is pushed_is top_is counted added = record {
  counted = λ _. counted;
  hashes = λ entries len stored.
      let long : length entries + 4 ≡ size + 4 = omega (arith, len) in
      let fours : length entries % 4 ≡ 0 = ap (λ (x : ℕ). x % 4) len ∙ whole in
      let begins = quad_begins H entries a b c d (size + 4) long fours in
      let top_hash : top ≡ tree_hash H (a ∷ b ∷ c ∷ d ∷ []) = top_is ∙ ap (λ (list : List Bytes). get_or list 6 []) (is ∙ quad_hashes H a b c d) in
      let all_pushed : pushed ≡ stored_hashes H entries ++ stored_hashes H (a ∷ b ∷ c ∷ d ∷ []) = pushed_is ∙ (λ i. stored i ++ is i) in
      let three_long : length (entries ++ a ∷ b ∷ c ∷ []) + 1 ≡ size + 4 = omega (arith, length-append entries (a ∷ b ∷ c ∷ []), len) in
      added (entries ++ a ∷ b ∷ c ∷ []) d three_long (top_hash ∙ begins.0, all_pushed ∙ begins.1)
      ∙ ap (stored_hashes H) (append_assoc entries (a ∷ b ∷ c ∷ []) (d ∷ []));
}

-- the hashes over the entries of a list of four
pub quad_is : {X : Type 0} (f : X → Bytes) (H : Digest) (xs : List X) (a b c d : X) (first second left third fourth right top : Bytes) → length xs ≡ 4
    → a ≡ get_or xs 0 a → b ≡ get_or xs 1 b → c ≡ get_or xs 2 c → d ≡ get_or xs 3 d
    → first ≡ H (leaf_input (f a)) → second ≡ H (leaf_input (f b)) → third ≡ H (leaf_input (f c)) → fourth ≡ H (leaf_input (f d))
    → left ≡ H (node_input first second) → right ≡ H (node_input third fourth) → top ≡ H (node_input left right)
    → first ∷ second ∷ left ∷ third ∷ fourth ∷ right ∷ top ∷ [] ≡ stored_hashes H (map f xs)
quad_is f H [] a b c d first second left third fourth right top four a_is b_is c_is d_is one two three last ab cd abcd = absurd (omega (arith, four))
quad_is f H (x ∷ []) a b c d first second left third fourth right top four a_is b_is c_is d_is one two three last ab cd abcd = absurd (omega (arith, four))
quad_is f H (x ∷ y ∷ []) a b c d first second left third fourth right top four a_is b_is c_is d_is one two three last ab cd abcd = absurd (omega (arith, four))
quad_is f H (x ∷ y ∷ z ∷ []) a b c d first second left third fourth right top four a_is b_is c_is d_is one two three last ab cd abcd = absurd (omega (arith, four))
quad_is f H (x ∷ y ∷ z ∷ w ∷ v ∷ more) a b c d first second left third fourth right top four a_is b_is c_is d_is one two three last ab cd abcd = absurd (omega (arith, four))
quad_is f H (x ∷ y ∷ z ∷ w ∷ []) a b c d first second left third fourth right top four a_is b_is c_is d_is one two three last ab cd abcd =
    let first_is : first ≡ tree_hash H (f x ∷ []) = one ∙ ap (λ (e : _). H (leaf_input (f e))) a_is ∙ sym (tree_hash-one H (f x)) in
    let second_is : second ≡ tree_hash H (f y ∷ []) = two ∙ ap (λ (e : _). H (leaf_input (f e))) b_is ∙ sym (tree_hash-one H (f y)) in
    let third_is : third ≡ tree_hash H (f z ∷ []) = three ∙ ap (λ (e : _). H (leaf_input (f e))) c_is ∙ sym (tree_hash-one H (f z)) in
    let fourth_is : fourth ≡ tree_hash H (f w ∷ []) = last ∙ ap (λ (e : _). H (leaf_input (f e))) d_is ∙ sym (tree_hash-one H (f w)) in
    let pair : IsSplit 1 2 = record { power = (0, refl); below = omega arith; largest = omega arith } in
    let pairs : IsSplit 2 4 = record { power = (1, refl); below = omega arith; largest = omega arith } in
    let left_is : left ≡ tree_hash H (f x ∷ f y ∷ []) = ab ∙ (λ i. H (node_input (first_is i) (second_is i))) ∙ sym (tree_hash-split H 1 (f x ∷ f y ∷ []) pair) in
    let right_is : right ≡ tree_hash H (f z ∷ f w ∷ []) = cd ∙ (λ i. H (node_input (third_is i) (fourth_is i))) ∙ sym (tree_hash-split H 1 (f z ∷ f w ∷ []) pair) in
    let top_is : top ≡ tree_hash H (f x ∷ f y ∷ f z ∷ f w ∷ []) =
    abcd ∙ (λ i. H (node_input (left_is i) (right_is i))) ∙ sym (tree_hash-split H 2 (f x ∷ f y ∷ f z ∷ f w ∷ []) pairs) in
    (λ i. first_is i ∷ second_is i ∷ left_is i ∷ third_is i ∷ fourth_is i ∷ right_is i ∷ top_is i ∷ [])
    ∙ sym (quad_hashes H (f x) (f y) (f z) (f w))
