-- The parts of the entries whose tree hashes make up a proof, for the contracts of the provers.
use Rattle.std.specs.Prelude.{◌≡◌, ℕ, ◌-◌, ◌<◌, ◌≤◌, Bool, false, List, [], ◌∷◌, ◌++◌, length, take, drop, map, All, sum_by}
use Rattle.std.specs.Int.RustNames.{count_ones}
use Rattle.tl_hash.specs.Bytes.{Bytes, Digest}
use Rattle.tl_hash.specs.Tree.{tree_of, tree_hash}
use Rattle.tl_store.specs.Head.{IsAligned, AreCovering}
use Rattle.tl_proof.specs.Proofs.{inclusion_proof, subproof}
use Rattle.tl_proof.specs.Needs.{inclusion_needs}
use Rattle.tl_proof.specs.declared.plan.Segment.{Segment}

-- the new list is the old one, and then some elements with this property
pub record GrowsBy {X : Type 0} (P : List X → Type 0) (old new : List X) : Type 0 where
  pub added : List X
  pub whole : new ≡ old ++ added
  pub are : P added

-- the entries from `start` up to `end`
abbrev pub entries_in : ℕ → ℕ → List Bytes → List Bytes
entries_in start end entries = take (end - start) (drop start entries)

-- the tree hash of a segment of the entries
abbrev pub segment_root : Digest → List Bytes → Segment → Bytes
segment_root H entries s = tree_hash H (entries_in s.start s.end entries)

-- the segment isn't empty, and begins with the first entry of a complete subtree that has all of it
pub record IsSegment (s : Segment) : Type 0 where
  pub some : s.start < s.end
  pub aligned : IsAligned s.start s.end

-- the least number of entries that include all the segments, if it is above `low`
pub record IsNeeded (low needed : ℕ) (segments : List Segment) : Type 0 where
  pub most : All (λ s. s.end ≤ needed) segments
  pub least : low < needed → (n : ℕ) → All (λ s. s.end ≤ n) segments → needed ≤ n

-- the segments of an inclusion proof in the tree over the entries from `start` up to `end`
pub record IsPathPlan (index start end : ℕ) (segments : List Segment) : Type 0 where
  pub hashes : (H : Digest) (entries : List Bytes) → end ≤ length entries
      → map (segment_root H entries) segments ≡ inclusion_proof H (index - start) (entries_in start end entries)
  pub parts : IsAligned start end → All IsSegment segments
  pub needed : IsNeeded start (inclusion_needs end index) segments

-- the segments of a consistency proof in the tree over the entries from `start` up to `end`
pub record IsProofPlan (old start end : ℕ) (known : Bool) (segments : List Segment) : Type 0 where
  pub hashes : (H : Digest) (entries : List Bytes) → end ≤ length entries
      → map (segment_root H entries) segments ≡ subproof H (old - start) (tree_of (entries_in start end entries)) known
  pub parts : IsAligned start end → All IsSegment segments
  pub most : All (λ s. s.end ≤ end) segments
  pub least : old < end → (n : ℕ) → All (λ s. s.end ≤ n) segments → end ≤ n
  pub known_least : known ≡ false → (n : ℕ) → All (λ s. s.end ≤ n) segments → end ≤ n

-- these are the numbers of the complete subtrees that cover each segment, one segment after another
pub data AreGroups : List Segment → List ℕ → Type 0 where
  no_group : AreGroups [] []
  next_group : (s : Segment) (segments : List Segment) (group others : List ℕ)
      → AreCovering s.start s.end group → AreGroups segments others
      → AreGroups (s ∷ segments) (group ++ others)

-- the number of complete subtrees: one for each binary digit 1 of the number of entries of a segment
abbrev pub subtree_count : List Segment → ℕ
subtree_count segments = sum_by (λ s. count_ones (s.end - s.start)) segments
