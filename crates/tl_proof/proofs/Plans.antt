-- The segments of a proof: their tree hashes are its hashes, step by step.
use Rattle.std.proofs.Common.{◌≡◌, ℕ, ◌+◌, ◌-◌, ◌*◌, ◌^◌, ◌<◌, ◌≤◌, ◌⊎◌, inl, inr, Some, Bool, false, true, cond, All, List, [], ◌∷◌, ◌++◌, length, take, drop, map, if◌then◌else◌, refl, sym, ap, subst, ◌∙◌, append_assoc, arith}
use Rattle.std.proofs.Math.Pow.{pow_mono}
use Rattle.std.proofs.lemmas.Nat.{pow-add}
use Rattle.std.proofs.lemmas.Bool.{cases_lt, cases_eq, eq-eqb, ne_eqb, true≢false}
use Rattle.std.proofs.lemmas.List.{append-nil, length-take-le, length-drop, take-take, drop-take, drop-drop, map-append}
use Rattle.std.proofs.lemmas.List.Elements.{All-nil, All-push, All-pop, All-weaker}
use Rattle.tl_hash.specs.Bytes.{Digest}
use Rattle.tl_hash.specs.Split.{IsSplit}
use Rattle.tl_hash.specs.Tree.{tree_hash, tree_of, tree_within}
use Rattle.tl_hash.proofs.SplitLemmas.{IsSplit-positive}
use Rattle.tl_store.specs.Head.{IsAligned}
use Rattle.tl_proof.specs.Proofs.{inclusion_proof, path_in, subproof, consistency_proof}
use Rattle.tl_proof.specs.Needs.{inclusion_needs, consistency_needs}
use Rattle.tl_proof.specs.Inner.Segments.{GrowsBy, entries_in, segment_root, IsSegment, IsNeeded, IsPathPlan, IsProofPlan}
use Rattle.tl_proof.specs.declared.plan.Segment.{Segment}
use Rattle.tl_proof.proofs.Equations.{inclusion_proof-left, inclusion_proof-right, subproof-whole, subproof-left, subproof-right}

-- ---- parts of the entries

pub length-entries_in : (start end : ℕ) (entries : List (List ℕ)) → start ≤ end → end ≤ length entries → length (entries_in start end entries) ≡ end - start
length-entries_in start end entries order within = length-take-le (end - start) (drop start entries) (omega (arith, length-drop start entries, within))

pub entries_in-first : (start middle end : ℕ) (entries : List (List ℕ)) → start ≤ middle → middle ≤ end → take (middle - start) (entries_in start end entries) ≡ entries_in start middle entries
entries_in-first start middle end entries low high = take-take (middle - start) (end - start) (drop start entries) (omega (arith, low, high))

pub entries_in-rest : (start middle end : ℕ) (entries : List (List ℕ)) → start ≤ middle → middle ≤ end → drop (middle - start) (entries_in start end entries) ≡ entries_in middle end entries
entries_in-rest start middle end entries low high =
    let sum : end - start ≡ middle - start + (end - middle) = omega (arith, low, high) in
    let from : start + (middle - start) ≡ middle = omega (arith, low) in
    ap (λ (x : ℕ). drop (middle - start) (take x (drop start entries))) sum
    ∙ drop-take (middle - start) (end - middle) (drop start entries)
    ∙ ap (take (end - middle)) (drop-drop (middle - start) start entries ∙ ap (λ (x : ℕ). drop x entries) from)

-- ---- their beginning

-- a power of two below another
lower_power : (i j : ℕ) → 2 ^ i < 2 ^ j → i < j
lower_power i j less =
    elim (cases_lt i j) as (λ _. i < j) [
      | inl below ↦ below
      | inr above ↦ absurd (let most : 2 ^ j ≤ 2 ^ i = pow_mono above in omega (arith, most, less))
    ]

-- both parts of a tree begin with a complete subtree that has all of them
pub aligned-parts : (start middle end : ℕ) → start ≤ middle → IsSplit (middle - start) (end - start) → IsAligned start end → IsAligned start middle × IsAligned middle end
aligned-parts start middle end order s (level, place, at, fits) =
    let j : ℕ = s.power.0 in
    let k_is : middle - start ≡ 2 ^ j = s.power.1 in
    let low : j < level = lower_power j level (omega (arith, k_is, s.below, fits)) in
    let sum : level ≡ level - j + j = omega (arith, low) in
    let power : 2 ^ level ≡ 2 ^ (level - j) * 2 ^ j = ap (λ (x : ℕ). 2 ^ x) sum ∙ pow-add 2 (level - j) j in
    let product : start ≡ place * 2 ^ (level - j) * 2 ^ j = at ∙ ap (λ (x : ℕ). place * x) power ∙ omega arith in (
      (j, place * 2 ^ (level - j), product, omega (arith, k_is, order)),
      (j, place * 2 ^ (level - j) + 1, omega (arith, product, k_is, order), omega (arith, k_is, s.largest, order, s.below)),
    )

-- ---- one segment more

pub All-last : {X : Type 0} (P : X → Type 0) → (xs : List X) (x : X) → All P (xs ++ x ∷ []) → P x
All-last P xs x all = (All-pop P (xs ++ x ∷ []) xs (Some x) refl all).1

pub All-before : {X : Type 0} (P : X → Type 0) → (xs : List X) (x : X) → All P (xs ++ x ∷ []) → All P xs
All-before P xs x all = (All-pop P (xs ++ x ∷ []) xs (Some x) refl all).0

pub hashes-push : (H : Digest) (entries : List (List ℕ)) (below : List Segment) (s : Segment) (start end : ℕ) (hashes : List (List ℕ)) → s.start ≡ start → s.end ≡ end
    → map (segment_root H entries) below ≡ hashes
    → map (segment_root H entries) (below ++ s ∷ []) ≡ hashes ++ tree_hash H (entries_in start end entries) ∷ []
hashes-push H entries below s start end hashes start_is end_is is =
    map-append (segment_root H entries) below (s ∷ []) ∙ (λ i. is i ++ tree_hash H (entries_in (start_is i) (end_is i) entries) ∷ [])

-- ---- the numbers of entries that are needed

needs-last : (size index : ℕ) → index + 1 ≡ size → inclusion_needs size index ≡ index
needs-last size index last = rw (eq-eqb (index + 1) size last) refl

needs-other : (size index : ℕ) → index + 1 < size → inclusion_needs size index ≡ size
needs-other size index before = rw (ne_eqb (index + 1) size (λ e. omega (arith, e, before))) refl

-- it is `size`, or one less
pub needs-between : (size index : ℕ) → index < size → (index ≤ inclusion_needs size index) × (inclusion_needs size index ≤ size)
needs-between size index within =
    elim (cases_lt (index + 1) size) as (λ _. (index ≤ inclusion_needs size index) × (inclusion_needs size index ≤ size)) [
      | inl before ↦ (omega (arith, needs-other size index before, within), omega (arith, needs-other size index before))
      | inr after ↦ (let last : index + 1 ≡ size = omega (arith, after, within) in (omega (arith, needs-last size index last), omega (arith, needs-last size index last, last)))
    ]

-- ---- the segments of an inclusion proof

path_of_one : (H : Digest) (index : ℕ) (entries : List (List ℕ)) → length entries ≡ 1 → inclusion_proof H index entries ≡ []
unfolding inclusion_proof path_in tree_of tree_within
path_of_one H index [] one = absurd (omega (arith, one))
path_of_one H index (entry ∷ []) one = refl
path_of_one H index (entry ∷ next ∷ rest) one = absurd (omega (arith, one))

pub path-one : (index start end : ℕ) → start ≤ index → index < end → end - start ≡ 1 → IsPathPlan index start end []
path-one index start end first last one = record {
  hashes = λ H entries within. sym (path_of_one H (index - start) (entries_in start end entries) (length-entries_in start end entries (omega (arith, one)) within ∙ one));
  parts = λ aligned. All-nil IsSegment;
  needed = record {
    most = All-nil (λ (s : Segment). s.end ≤ inclusion_needs end index);
    least = λ some. absurd (omega (arith, some, needs-last end index (omega (arith, first, last, one)), first, last, one));
  };
}

pub path-left : (index start middle end : ℕ) (below : List Segment) (s : Segment) → start ≤ index → start ≤ middle → IsSplit (middle - start) (end - start) → index < middle
    → IsPathPlan index start middle below → s.start ≡ middle → s.end ≡ end → IsPathPlan index start end (below ++ s ∷ [])
path-left index start middle end below s first order split less plan start_is end_is =
    let high : middle < end = omega (arith, split.below, order) in
    let all : inclusion_needs end index ≡ end = needs-other end index (omega (arith, less, high)) in
    let most : inclusion_needs middle index ≤ middle = (needs-between middle index less).1 in
    record {
      hashes = λ H entries within.
          let len : length (entries_in start end entries) ≡ end - start = length-entries_in start end entries (omega (arith, order, high)) within in
          let there : IsSplit (middle - start) (length (entries_in start end entries)) = subst (IsSplit (middle - start)) (sym len) split in
          let left : take (middle - start) (entries_in start end entries) ≡ entries_in start middle entries = entries_in-first start middle end entries order (omega (arith, high)) in
          let right : drop (middle - start) (entries_in start end entries) ≡ entries_in middle end entries = entries_in-rest start middle end entries order (omega (arith, high)) in
          hashes-push H entries below s middle end (inclusion_proof H (index - start) (entries_in start middle entries)) start_is end_is (plan.hashes H entries (omega (arith, within, high)))
          ∙ sym (inclusion_proof-left H (middle - start) (index - start) (entries_in start end entries) there (omega (arith, less, first))
          ∙ (λ i. inclusion_proof H (index - start) (left i) ++ tree_hash H (right i) ∷ []));
      parts = λ aligned.
          let both = aligned-parts start middle end order split aligned in
          let right : IsAligned s.start s.end = rw (start_is, end_is) both.1 in
          All-push IsSegment below s (plan.parts both.0) (record { some = omega (arith, start_is, end_is, high); aligned = right });
      needed = record {
        most = All-push (λ (x : Segment). x.end ≤ inclusion_needs end index) below s
            (All-weaker (λ (x : Segment). x.end ≤ inclusion_needs middle index) (λ (x : Segment). x.end ≤ inclusion_needs end index) (λ x h. omega (arith, h, most, all, high)) below plan.needed.most)
            (omega (arith, all, end_is));
        least = λ some n within. omega (arith, all, end_is, All-last (λ (x : Segment). x.end ≤ n) below s within);
      };
    }

pub path-right : (index start middle end : ℕ) (below : List Segment) (s : Segment) → start ≤ middle → IsSplit (middle - start) (end - start) → middle ≤ index → index < end
    → IsPathPlan index middle end below → s.start ≡ start → s.end ≡ middle → IsPathPlan index start end (below ++ s ∷ [])
path-right index start middle end below s order split more last plan start_is end_is =
    let high : middle < end = omega (arith, split.below, order) in
    let some : start < middle = omega (arith, IsSplit-positive (middle - start) (end - start) split) in
    let enough : index ≤ inclusion_needs end index = (needs-between end index last).0 in
    record {
      hashes = λ H entries within.
          let len : length (entries_in start end entries) ≡ end - start = length-entries_in start end entries (omega (arith, order, high)) within in
          let there : IsSplit (middle - start) (length (entries_in start end entries)) = subst (IsSplit (middle - start)) (sym len) split in
          let left : take (middle - start) (entries_in start end entries) ≡ entries_in start middle entries = entries_in-first start middle end entries order (omega (arith, high)) in
          let right : drop (middle - start) (entries_in start end entries) ≡ entries_in middle end entries = entries_in-rest start middle end entries order (omega (arith, high)) in
          let place : index - start - (middle - start) ≡ index - middle = omega (arith, order, more) in
          hashes-push H entries below s start middle (inclusion_proof H (index - middle) (entries_in middle end entries)) start_is end_is (plan.hashes H entries within)
          ∙ sym (inclusion_proof-right H (middle - start) (index - start) (entries_in start end entries) there (omega (arith, more, order))
          ∙ (λ i. inclusion_proof H (place i) (right i) ++ tree_hash H (left i) ∷ []));
      parts = λ aligned.
          let both = aligned-parts start middle end order split aligned in
          let left : IsAligned s.start s.end = rw (start_is, end_is) both.0 in
          All-push IsSegment below s (plan.parts both.1) (record { some = omega (arith, start_is, end_is, some); aligned = left });
      needed = record {
        most = All-push (λ (x : Segment). x.end ≤ inclusion_needs end index) below s plan.needed.most (omega (arith, end_is, enough, more));
        least = λ above n within.
            elim (cases_lt middle (inclusion_needs end index)) as (λ _. inclusion_needs end index ≤ n) [
              | inl past ↦ plan.needed.least past n (All-before (λ (x : Segment). x.end ≤ n) below s within)
              | inr here ↦ omega (arith, here, end_is, All-last (λ (x : Segment). x.end ≤ n) below s within)
            ];
      };
    }

-- ---- what a call adds

pub appends-none : {X : Type 0} (P : List X → Type 0) (old new : List X) → new ≡ old → P [] → GrowsBy P old new
appends-none P old new same is = record { added = []; whole = same ∙ sym (append-nil old); are = is }

pub appends-push : {X : Type 0} (P Q : List X → Type 0) (old between new : List X) (x : X) → GrowsBy P old between → new ≡ between ++ x ∷ [] → ((added : List X) → P added → Q (added ++ x ∷ [])) → GrowsBy Q old new
appends-push P Q old between new x below new_is step = record {
  added = below.added ++ x ∷ [];
  whole = new_is ∙ ap (λ (list : List _). list ++ x ∷ []) below.whole ∙ append_assoc old below.added (x ∷ []);
  are = step below.added below.are;
}

-- ---- in the words of the code

split_at : (start k end : ℕ) → IsSplit k (end - start) → IsSplit (start + k - start) (end - start)
split_at start k end s = subst (λ (x : ℕ). IsSplit x (end - start)) (let same : k ≡ start + k - start = omega arith in same) s

pub pushed_path-left : (index start end k : ℕ) (old between new : List Segment) (s : Segment) → start ≤ index → IsSplit k (end - start) → index < start + k
    → GrowsBy (IsPathPlan index start (start + k)) old between → new ≡ between ++ s ∷ [] → s.start ≡ start + k → s.end ≡ end → GrowsBy (IsPathPlan index start end) old new
pushed_path-left index start end k old between new s first split less below new_is start_is end_is =
    appends-push (IsPathPlan index start (start + k)) (IsPathPlan index start end) old between new s below new_is
    (λ added plan. path-left index start (start + k) end added s first (omega arith) (split_at start k end split) less plan start_is end_is)

pub pushed_path-right : (index start end k : ℕ) (old between new : List Segment) (s : Segment) → IsSplit k (end - start) → start + k ≤ index → index < end
    → GrowsBy (IsPathPlan index (start + k) end) old between → new ≡ between ++ s ∷ [] → s.start ≡ start → s.end ≡ start + k → GrowsBy (IsPathPlan index start end) old new
pushed_path-right index start end k old between new s split more last below new_is start_is end_is =
    appends-push (IsPathPlan index (start + k) end) (IsPathPlan index start end) old between new s below new_is
    (λ added plan. path-right index start (start + k) end added s (omega arith) (split_at start k end split) more last plan start_is end_is)

-- what was added to nothing
pub appended-all : {X : Type 0} (P : List X → Type 0) (new : List X) → GrowsBy P [] new → P new
appended-all P new a = subst P (sym a.whole) a.are

-- ---- the segments of a consistency proof

proof_of_all : (H : Digest) (old : ℕ) (known : Bool) (entries : List (List ℕ)) → old ≡ length entries → subproof H old (tree_of entries) known ≡ (if known then [] else tree_hash H entries ∷ [])
unfolding tree_hash
proof_of_all H old known entries same = subproof-whole H old known entries same

pub proof-known : (old start end : ℕ) → start < old → old ≡ end → IsProofPlan old start end true []
proof-known old start end some same = record {
  hashes = λ H entries within. sym (proof_of_all H (old - start) true (entries_in start end entries) (omega (arith, same, length-entries_in start end entries (omega (arith, some, same)) within)));
  parts = λ aligned. All-nil IsSegment;
  most = All-nil (λ (s : Segment). s.end ≤ end);
  least = λ less. absurd (omega (arith, less, same));
  known_least = λ e. absurd (true≢false e);
}

pub proof-whole : (old start end : ℕ) (s : Segment) → start < old → old ≡ end → s.start ≡ start → s.end ≡ end → IsProofPlan old start end false (s ∷ [])
proof-whole old start end s some same start_is end_is = record {
  hashes = λ H entries within.
      (λ i. tree_hash H (entries_in (start_is i) (end_is i) entries) ∷ [])
      ∙ sym (proof_of_all H (old - start) false (entries_in start end entries) (omega (arith, same, length-entries_in start end entries (omega (arith, some, same)) within)));
  parts = λ aligned.
      let here : IsAligned s.start s.end = rw (start_is, end_is) aligned in
      All-push IsSegment [] s (All-nil IsSegment) (record { some = omega (arith, some, same, start_is, end_is); aligned = here });
  most = All-push (λ (x : Segment). x.end ≤ end) [] s (All-nil (λ (x : Segment). x.end ≤ end)) (omega (arith, end_is));
  least = λ less. absurd (omega (arith, less, same));
  known_least = λ e n within. omega (arith, end_is, All-last (λ (x : Segment). x.end ≤ n) [] s within);
}

pub proof-left : (old start middle end : ℕ) (known : Bool) (below : List Segment) (s : Segment) → start < old → start ≤ middle → IsSplit (middle - start) (end - start) → old ≤ middle
    → IsProofPlan old start middle known below → s.start ≡ middle → s.end ≡ end → IsProofPlan old start end known (below ++ s ∷ [])
proof-left old start middle end known below s first order split less plan start_is end_is =
    let high : middle < end = omega (arith, split.below, order) in
    record {
      hashes = λ H entries within.
          let len : length (entries_in start end entries) ≡ end - start = length-entries_in start end entries (omega (arith, order, high)) within in
          let there : IsSplit (middle - start) (length (entries_in start end entries)) = subst (IsSplit (middle - start)) (sym len) split in
          let left : take (middle - start) (entries_in start end entries) ≡ entries_in start middle entries = entries_in-first start middle end entries order (omega (arith, high)) in
          let right : drop (middle - start) (entries_in start end entries) ≡ entries_in middle end entries = entries_in-rest start middle end entries order (omega (arith, high)) in
          hashes-push H entries below s middle end (subproof H (old - start) (tree_of (entries_in start middle entries)) known) start_is end_is (plan.hashes H entries (omega (arith, within, high)))
          ∙ sym (subproof-left H (middle - start) (old - start) known (entries_in start end entries) there (omega (arith, less, first))
          ∙ (λ i. subproof H (old - start) (tree_of (left i)) known ++ tree_hash H (right i) ∷ []));
      parts = λ aligned.
          let both = aligned-parts start middle end order split aligned in
          let right : IsAligned s.start s.end = rw (start_is, end_is) both.1 in
          All-push IsSegment below s (plan.parts both.0) (record { some = omega (arith, start_is, end_is, high); aligned = right });
      most = All-push (λ (x : Segment). x.end ≤ end) below s
          (All-weaker (λ (x : Segment). x.end ≤ middle) (λ (x : Segment). x.end ≤ end) (λ x h. omega (arith, h, high)) below plan.most)
          (omega (arith, end_is));
      least = λ some n within. omega (arith, end_is, All-last (λ (x : Segment). x.end ≤ n) below s within);
      known_least = λ e n within. omega (arith, end_is, All-last (λ (x : Segment). x.end ≤ n) below s within);
    }

pub proof-right : (old start middle end : ℕ) (known : Bool) (below : List Segment) (s : Segment) → start ≤ middle → IsSplit (middle - start) (end - start) → middle < old → old < end
    → IsProofPlan old middle end false below → s.start ≡ start → s.end ≡ middle → IsProofPlan old start end known (below ++ s ∷ [])
proof-right old start middle end known below s order split more last plan start_is end_is =
    let high : middle < end = omega (arith, split.below, order) in
    let some : start < middle = omega (arith, IsSplit-positive (middle - start) (end - start) split) in
    record {
      hashes = λ H entries within.
          let len : length (entries_in start end entries) ≡ end - start = length-entries_in start end entries (omega (arith, order, high)) within in
          let there : IsSplit (middle - start) (length (entries_in start end entries)) = subst (IsSplit (middle - start)) (sym len) split in
          let left : take (middle - start) (entries_in start end entries) ≡ entries_in start middle entries = entries_in-first start middle end entries order (omega (arith, high)) in
          let right : drop (middle - start) (entries_in start end entries) ≡ entries_in middle end entries = entries_in-rest start middle end entries order (omega (arith, high)) in
          let place : old - start - (middle - start) ≡ old - middle = omega (arith, order, more) in
          hashes-push H entries below s start middle (subproof H (old - middle) (tree_of (entries_in middle end entries)) false) start_is end_is (plan.hashes H entries within)
          ∙ sym (subproof-right H (middle - start) (old - start) known (entries_in start end entries) there (omega (arith, more, order)) (omega (arith, len, last, order, more))
          ∙ (λ i. subproof H (place i) (tree_of (right i)) false ++ tree_hash H (left i) ∷ []));
      parts = λ aligned.
          let both = aligned-parts start middle end order split aligned in
          let left : IsAligned s.start s.end = rw (start_is, end_is) both.0 in
          All-push IsSegment below s (plan.parts both.1) (record { some = omega (arith, start_is, end_is, some); aligned = left });
      most = All-push (λ (x : Segment). x.end ≤ end) below s plan.most (omega (arith, end_is, high));
      least = λ less n within. plan.known_least refl n (All-before (λ (x : Segment). x.end ≤ n) below s within);
      known_least = λ e n within. plan.known_least refl n (All-before (λ (x : Segment). x.end ≤ n) below s within);
    }

pub pushed_proof-left : (old start end k : ℕ) (known : Bool) (before between new : List Segment) (s : Segment) → start < old → IsSplit k (end - start) → old ≤ start + k
    → GrowsBy (IsProofPlan old start (start + k) known) before between → new ≡ between ++ s ∷ [] → s.start ≡ start + k → s.end ≡ end → GrowsBy (IsProofPlan old start end known) before new
pushed_proof-left old start end k known before between new s first split less below new_is start_is end_is =
    appends-push (IsProofPlan old start (start + k) known) (IsProofPlan old start end known) before between new s below new_is
    (λ added plan. proof-left old start (start + k) end known added s first (omega arith) (split_at start k end split) less plan start_is end_is)

pub pushed_proof-right : (old start end k : ℕ) (known : Bool) (before between new : List Segment) (s : Segment) → IsSplit k (end - start) → start + k < old → old < end
    → GrowsBy (IsProofPlan old (start + k) end false) before between → new ≡ between ++ s ∷ [] → s.start ≡ start → s.end ≡ start + k → GrowsBy (IsProofPlan old start end known) before new
pushed_proof-right old start end k known before between new s split more last below new_is start_is end_is =
    appends-push (IsProofPlan old (start + k) end false) (IsProofPlan old start end known) before between new s below new_is
    (λ added plan. proof-right old start (start + k) end known added s (omega arith) (split_at start k end split) more last plan start_is end_is)

pub appends-one : {X : Type 0} (P : List X → Type 0) (old new : List X) (x : X) → new ≡ old ++ x ∷ [] → P (x ∷ []) → GrowsBy P old new
appends-one P old new x new_is is = record { added = x ∷ []; whole = new_is; are = is }

pub proof-whole_at : (old start end : ℕ) (known : Bool) (s : Segment) → start < old → old ≡ end → known ≡ false → s.start ≡ start → s.end ≡ end → IsProofPlan old start end known (s ∷ [])
proof-whole_at old start end known s some same unknown start_is end_is =
    subst (λ (b : Bool). IsProofPlan old start end b (s ∷ [])) (sym unknown) (proof-whole old start end s some same start_is end_is)

-- ---- in the words of the provers

pub path-all : (H : Digest) (index size : ℕ) (segments : List Segment) (entries : List (List ℕ)) → IsPathPlan index 0 size segments → size ≤ length entries
    → map (segment_root H entries) segments ≡ inclusion_proof H index (take size entries)
path-all H index size segments entries plan within =
    let place : index - 0 ≡ index = omega arith in
    let count : size - 0 ≡ size = omega arith in
    plan.hashes H entries within ∙ (λ i. inclusion_proof H (place i) (take (count i) entries))

pub proof-all : (H : Digest) (old size : ℕ) (segments : List Segment) (entries : List (List ℕ)) → 0 < old → IsProofPlan old 0 size true segments → size ≤ length entries
    → map (segment_root H entries) segments ≡ consistency_proof H old (take size entries)
unfolding consistency_proof
proof-all H old size segments entries some plan within =
    let place : old - 0 ≡ old = omega arith in
    let count : size - 0 ≡ size = omega arith in
    plan.hashes H entries within ∙ (λ i. subproof H (place i) (tree_of (take (count i) entries)) true)
    ∙ sym (ap (λ (b : Bool). cond b [] (subproof H old (tree_of (take size entries)) true)) (ne_eqb old 0 (λ e. omega (arith, e, some))))

pub proof_of_none : (H : Digest) (old : ℕ) (entries : List (List ℕ)) → old ≡ 0 → consistency_proof H old entries ≡ []
unfolding consistency_proof
proof_of_none H old entries none = rw (eq-eqb old 0 none) refl

pub proof_of_same : (H : Digest) (old size : ℕ) (entries : List (List ℕ)) → 0 < old → old ≡ size → size ≤ length entries → consistency_proof H old (take size entries) ≡ []
unfolding consistency_proof
proof_of_same H old size entries some same within =
    let len : old ≡ length (take size entries) = same ∙ sym (length-take-le size entries within) in
    ap (λ (b : Bool). cond b [] (subproof H old (tree_of (take size entries)) true)) (ne_eqb old 0 (λ e. omega (arith, e, some)))
    ∙ subproof-whole H old true (take size entries) len

needs-none : (size old : ℕ) → old ≡ 0 → consistency_needs size old ≡ 0
needs-none size old none = rw (eq-eqb old 0 none) refl

pub needs_some : (size old : ℕ) → 0 < old → old < size → consistency_needs size old ≡ size
needs_some size old some less =
    rw (ne_eqb old 0 (λ e. omega (arith, e, some)), ne_eqb old size (λ e. omega (arith, e, less))) refl

pub needs_no_hash : (size old : ℕ) → (old ≡ 0) ⊎ (old ≡ size) → consistency_needs size old ≡ 0
needs_no_hash size old (inl none) = needs-none size old none
needs_no_hash size old (inr same) =
    elim (cases_eq old 0) as (λ _. consistency_needs size old ≡ 0) [
      | inl none ↦ needs-none size old none
      | inr some ↦ rw (ne_eqb old 0 some, eq-eqb old size same) refl
    ]

-- what a proof needs
pub needed-path : (index size : ℕ) (segments : List Segment) → IsPathPlan index 0 size segments → IsNeeded 0 (inclusion_needs size index) segments
needed-path index size segments plan = plan.needed

pub needed-proof : (old size : ℕ) (segments : List Segment) → 0 < old → old < size → IsProofPlan old 0 size true segments → IsNeeded 0 (consistency_needs size old) segments
needed-proof old size segments some less plan =
    let all : consistency_needs size old ≡ size = needs_some size old some less in
    subst (λ (n : ℕ). IsNeeded 0 n segments) (sym all) (record { most = plan.most; least = λ _. plan.least less })

-- all within the largest size
pub path-small : (index size : ℕ) (segments : List Segment) → index < size → size ≤ 2 ^ 62 → IsPathPlan index 0 size segments → All (λ s. s.end ≤ 2 ^ 62) segments
path-small index size segments within small plan =
    All-weaker (λ (s : Segment). s.end ≤ inclusion_needs size index) (λ (s : Segment). s.end ≤ 2 ^ 62) (λ s h. omega (arith, h, (needs-between size index within).1, small)) segments plan.needed.most

pub proof-small : (old size : ℕ) (segments : List Segment) → size ≤ 2 ^ 62 → IsProofPlan old 0 size true segments → All (λ s. s.end ≤ 2 ^ 62) segments
proof-small old size segments small plan =
    All-weaker (λ (s : Segment). s.end ≤ size) (λ (s : Segment). s.end ≤ 2 ^ 62) (λ s h. omega (arith, h, small)) segments plan.most
