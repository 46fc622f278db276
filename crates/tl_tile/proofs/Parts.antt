-- The steps of a fold over the hashes of a tile.
use Rattle.std.proofs.Common.{◌≡◌, ℕ, ◌+◌, ◌-◌, ◌*◌, ◌<◌, List, [], length, get_or, refl, sym, subst, arith}
use Rattle.std.specs.Int.{IsPowerOfTwo}
use Rattle.std.proofs.lemmas.List.{get_or_default}
use Rattle.tl_hash.specs.Bytes.{Digest}
use Rattle.tl_hash.specs.Split.{IsSplit}
use Rattle.tl_hash.specs.Tree.{node_input}
use Rattle.tl_tile.specs.Folds.{given, split, IsHashAt}
use Rattle.tl_tile.specs.Inner.EdgeRoot.{Part}
use Rattle.tl_hash.proofs.SplitLemmas.{IsSplit-positive, IsSplit-twice, IsPowerOfTwo-twice}

pub part-one : (H : Digest) (text : List ℕ) (start count : ℕ) (hash : List ℕ) → count ≡ 1 → IsHashAt text start hash → Part H text start count hash
part-one H text start count hash one is = ([], given start count hash (omega (arith, one)) (one, is))

pub part-split : (H : Digest) (text : List ℕ) (start count k : ℕ) (left right hash : List ℕ) → IsSplit k count
    → Part H text start k left → Part H text (start + k) (count - k) right → hash ≡ H (node_input left right) → Part H text start count hash
part-split H text start count k left right hash s first second is =
    subst (Part H text start count) (sym is)
    (_, split start count k left right first.0 second.0 (λ h one. absurd (omega (arith, one.0, s.below, IsSplit-positive k count s))) s first.1 second.1)

-- the same part, by other words for its place and for how many hashes it has
pub part-same : (H : Digest) (text : List ℕ) (start start' count count' : ℕ) (hash : List ℕ) → start ≡ start' → count ≡ count'
    → Part H text start count hash → Part H text start' count' hash
part-same H text start start' count count' hash place many part =
    subst (λ (x : ℕ). Part H text start' x hash) many (subst (λ (x : ℕ). Part H text x count hash) place part)

-- a part's hash as it is read from a list
pub part-at : (H : Digest) (text : List ℕ) (start count j : ℕ) (hashes : List (List ℕ)) (other : List ℕ) → j < length hashes
    → Part H text start count (get_or hashes j []) → Part H text start count (get_or hashes j other)
part-at H text start count j hashes other within part =
    subst (Part H text start count) (sym (get_or_default hashes j other [] within)) part

-- four parts side by side, each as wide as a power of two
pub part-quarters : (H : Digest) (text : List ℕ) (start q : ℕ) (a b c d left right hash : List ℕ) → IsPowerOfTwo q → 0 < q
    → Part H text start q a → Part H text (start + q) q b → Part H text (start + 2 * q) q c → Part H text (start + 3 * q) q d
    → left ≡ H (node_input a b) → right ≡ H (node_input c d) → hash ≡ H (node_input left right) → Part H text start (4 * q) hash
part-quarters H text start q a b c d left right hash power some first second third fourth left_is right_is is =
    let half = IsSplit-twice q power some in
    let whole : IsSplit (2 * q) (4 * q) = subst (λ (x : ℕ). IsSplit (2 * q) x) (omega arith) (IsSplit-twice (2 * q) (IsPowerOfTwo-twice q power) (omega arith)) in
    let front = part-split H text start (2 * q) q a b left half first (part-same H text (start + q) (start + q) q (2 * q - q) b refl (omega arith) second) left_is in
    let back = part-split H text (start + 2 * q) (2 * q) q c d right half third
    (part-same H text (start + 3 * q) (start + 2 * q + q) q (2 * q - q) d (omega arith) (omega arith) fourth) right_is in
    part-split H text start (4 * q) (2 * q) left right hash whole front
    (part-same H text (start + 2 * q) (start + 2 * q) (2 * q) (4 * q - 2 * q) right refl (omega arith) back) is
