-- One hash over hashes side by side.
use Rattle.std.proofs.Common.{◌≡◌, ℕ, zero, suc, ◌+◌, ◌-◌, ◌*◌, ◌^◌, ◌<◌, ◌≤◌, List, length, map, take, drop, get_or, sym, ap, subst, ◌∙◌, arith}
use Rattle.std.specs.Int.{IsPowerOfTwo}
use Rattle.std.specs.List.{range_with_len}
use Rattle.std.proofs.lemmas.Nat.{pow-add, pow_pos}
use Rattle.std.proofs.lemmas.List.{length-take-le, length-drop, take-take, drop-take, drop-drop, drop-map}
use Rattle.std.proofs.lemmas.List.FromFn.{take-map-range_with_len, get_or-map-range_with_len}
use Rattle.tl_hash.specs.Bytes.{Digest}
use Rattle.tl_hash.specs.Split.{IsSplit}
use Rattle.tl_hash.specs.Tree.{tree_hash, node_input}
use Rattle.tl_hash.proofs.SplitLemmas.{IsSplit-narrow, IsSplit-positive}
use Rattle.tl_hash.proofs.TreeLemmas.{tree_hash-split}
use Rattle.tl_tile.specs.Inner.Run.{part, place_hash, Run, IsRun}
use Rattle.tl_tile.proofs.TileTexts.{scaled_le}

-- a split scales
pub IsSplit-scaled : (k n u : ℕ) → IsPowerOfTwo u → IsSplit k n → IsSplit (k * u) (n * u)
IsSplit-scaled k n u (j, e) s =
    let more : (k + 1) * u ≤ n * u = scaled_le (k + 1) n u (omega (arith, s.below)) in
    let most : n * u ≤ 2 * k * u = scaled_le n (2 * k) u s.largest in
    let some : 0 < u = omega (arith, e, pow_pos j) in
    let exponent = s.power in
    record {
      power = (exponent.0 + j, ap (λ (x : ℕ). x * u) exponent.1 ∙ ap (λ (x : ℕ). 2 ^ exponent.0 * x) e ∙ sym (pow-add 2 exponent.0 j));
      below = omega (arith, more, some);
      largest = omega (arith, most);
    }

-- the hash over a part is made of those over its two parts
pub part-split : (H : Digest) (start middle end : ℕ) (entries : List (List ℕ)) → start ≤ middle → IsSplit (middle - start) (end - start) → end ≤ length entries
    → tree_hash H (part start end entries) ≡ H (node_input (tree_hash H (part start middle entries)) (tree_hash H (part middle end entries)))
part-split H start middle end entries order s within =
    let w : ℕ = middle - start in
    let whole : List (List ℕ) = part start end entries in
    let some : 0 < w = IsSplit-positive w (end - start) s in
    let len : length whole ≡ end - start = length-take-le (end - start) (drop start entries) (omega (arith, length-drop start entries, within)) in
    let split : IsSplit w (length whole) = subst (λ (x : ℕ). IsSplit w x) (sym len) s in
    let left_part : take w whole ≡ part start middle entries = take-take w (end - start) (drop start entries) (omega (arith, s.below)) in
    let sum : end - start ≡ w + (end - middle) = omega (arith, s.below, order) in
    let from : start + w ≡ middle = omega (arith, order) in
    let right_part : drop w whole ≡ part middle end entries =
    ap (λ (x : ℕ). drop w (take x (drop start entries))) sum
    ∙ drop-take w (end - middle) (drop start entries)
    ∙ ap (take (end - middle)) (drop-drop w start entries ∙ ap (λ (x : ℕ). drop x entries) from) in
    tree_hash-split H w whole split ∙ (λ i. H (node_input (tree_hash H (left_part i)) (tree_hash H (right_part i))))

-- numbers side by side, from a later one on
pub drop-range_with_len : (k a n : ℕ) → drop k (range_with_len a n) ≡ range_with_len (a + k) (n - k)
drop-range_with_len zero a n =
    let from : a ≡ a + 0 = omega arith in
    let count : n ≡ n - 0 = omega arith in
    λ i. range_with_len (from i) (count i)
drop-range_with_len (suc k) a zero = (let none : 0 ≡ 0 - suc k = omega arith in ap (range_with_len (a + suc k)) none)
drop-range_with_len (suc k) a (suc n) =
    let from : a + 1 + k ≡ a + suc k = omega arith in
    let count : n - k ≡ suc n - suc k = omega arith in
    drop-range_with_len k (a + 1) n ∙ (λ i. range_with_len (from i) (count i))

abbrev pub run_of : ℕ → ℕ → ℕ → Run
run_of width place end = record { width = width; place = place; end = end }

-- the first of the places, up to one of them that is the last
pub run-places : (H : Digest) (entries : List (List ℕ)) (u place k : ℕ) (hashes : List (List ℕ)) (own : List ℕ) → IsPowerOfTwo u → 0 < k → k ≤ length hashes → (place + k) * u ≤ length entries
    → hashes ≡ map (place_hash H entries u) (range_with_len place (length hashes)) → own ≡ get_or hashes (k - 1) own → IsRun H entries (run_of u place ((place + k) * u)) (take (k - 1) hashes) own
run-places H entries u place k hashes own power some most within hashes_are own_is =
    let n : ℕ = length hashes in
    let positive : 0 < u = omega (arith, power.1, pow_pos power.0) in
    let count : length (take (k - 1) hashes) ≡ k - 1 = length-take-le (k - 1) hashes (omega (arith, most)) in
    let here : place + length (take (k - 1) hashes) ≡ place + k - 1 = omega (arith, count, some) in
    let next : place + k ≡ place + length (take (k - 1) hashes) + 1 = omega (arith, count, some) in
    let product : (place + k) * u ≡ (place + length (take (k - 1) hashes)) * u + u = ap (λ (x : ℕ). x * u) next ∙ omega arith in
    let own_hash : own ≡ place_hash H entries u (place + k - 1) =
    own_is ∙ ap (λ (xs : List (List ℕ)). get_or xs (k - 1) own) hashes_are
    ∙ get_or-map-range_with_len (place_hash H entries u) place n (k - 1) (place + k - 1) own (omega (arith, most, some)) (omega (arith, some)) in
    let from : (place + k - 1) * u ≡ (place + length (take (k - 1) hashes)) * u = ap (λ (x : ℕ). x * u) (sym here) in
    let width : u ≡ (place + k) * u - (place + length (take (k - 1) hashes)) * u = omega (arith, product) in
    record {
      power = power;
      within = within;
      some = omega (arith, product, positive);
      most = omega (arith, product);
      hashes_are =
          ap (take (k - 1)) hashes_are
          ∙ take-map-range_with_len (place_hash H entries u) place n (k - 1) (omega (arith, most))
          ∙ ap (λ (x : ℕ). map (place_hash H entries u) (range_with_len place x)) (sym count);
      last_is = own_hash ∙ (λ i. tree_hash H (take (width i) (drop (from i) entries)));
    }

-- the left part of a run
pub run-left : (H : Digest) (entries : List (List ℕ)) (u place end k : ℕ) (hashes : List (List ℕ)) (last own : List ℕ) → IsSplit k (length hashes + 1) → own ≡ get_or hashes (k - 1) own
    → IsRun H entries (run_of u place end) hashes last → IsRun H entries (run_of u place ((place + k) * u)) (take (k - 1) hashes) own
run-left H entries u place end k hashes last own s own_is run =
    let most : (place + k) * u ≤ (place + length hashes) * u = scaled_le (place + k) (place + length hashes) u (omega (arith, s.below)) in
    run-places H entries u place k hashes own run.power (IsSplit-positive k (length hashes + 1) s) (omega (arith, s.below)) (omega (arith, most, run.some, run.within)) run.hashes_are own_is

-- and its right part
pub run-right : (H : Digest) (entries : List (List ℕ)) (u place end k : ℕ) (hashes : List (List ℕ)) (last : List ℕ) → IsSplit k (length hashes + 1)
    → IsRun H entries (run_of u place end) hashes last → IsRun H entries (run_of u (place + k) end) (drop k hashes) last
run-right H entries u place end k hashes last s run =
    let n : ℕ = length hashes in
    let count : length (drop k hashes) ≡ n - k = length-drop k hashes in
    let here : place + n ≡ place + k + length (drop k hashes) = omega (arith, count, s.below) in
    let start : (place + n) * u ≡ (place + k + length (drop k hashes)) * u = ap (λ (x : ℕ). x * u) here in
    let stop : (place + n + 1) * u ≡ (place + k + length (drop k hashes) + 1) * u = ap (λ (x : ℕ). (x + 1) * u) here in
    record {
      power = run.power;
      within = run.within;
      some = omega (arith, run.some, start);
      most = omega (arith, run.most, stop);
      hashes_are =
          ap (drop k) run.hashes_are
          ∙ drop-map (place_hash H entries u) k (range_with_len place n)
          ∙ ap (map (place_hash H entries u)) (drop-range_with_len k place n)
          ∙ ap (λ (x : ℕ). map (place_hash H entries u) (range_with_len (place + k) x)) (sym count);
      last_is = run.last_is ∙ ap (λ (x : ℕ). tree_hash H (part x end entries)) start;
    }

-- the two give the whole
pub run-node : (H : Digest) (entries : List (List ℕ)) (u place end k : ℕ) (hashes : List (List ℕ)) (last left right result : List ℕ) → IsSplit k (length hashes + 1)
    → IsRun H entries (run_of u place end) hashes last → left ≡ tree_hash H (part (place * u) ((place + k) * u) entries) → right ≡ tree_hash H (part ((place + k) * u) end entries)
    → result ≡ H (node_input left right) → result ≡ tree_hash H (part (place * u) end entries)
run-node H entries u place end k hashes last left right result s run left_is right_is result_is =
    let n : ℕ = length hashes in
    let sum : (place + k) * u ≡ place * u + k * u = omega arith in
    let whole : (place + n + 1) * u ≡ place * u + (n + 1) * u = omega arith in
    let middle : (place + k) * u ≤ (place + n) * u = scaled_le (place + k) (place + n) u (omega (arith, s.below)) in
    let scaled : IsSplit (k * u) ((n + 1) * u) = IsSplit-scaled k (n + 1) u run.power s in
    let first : k * u ≡ (place + k) * u - place * u = omega (arith, sum) in
    let narrow : IsSplit (k * u) (end - place * u) =
    IsSplit-narrow (k * u) (end - place * u) ((n + 1) * u) scaled (omega (arith, run.some, middle, sum)) (omega (arith, run.most, whole)) in
    let split : IsSplit ((place + k) * u - place * u) (end - place * u) = subst (λ (x : ℕ). IsSplit x (end - place * u)) first narrow in
    result_is ∙ (λ i. H (node_input (left_is i) (right_is i)))
    ∙ sym (part-split H (place * u) ((place + k) * u) end entries (omega (arith, sum)) split run.within)
