-- The parts of the entries whose tree hashes make up several inclusion proofs, for the contracts of the provers.
use Rattle.std.specs.Prelude.{◌≡◌, ℕ, ◌≤◌, List, [], ◌∷◌, length, take, drop, map, sum, All}
use Rattle.tl_hash.specs.Bytes.{Bytes, Digest}
use Rattle.tl_proof.specs.Proofs.{inclusion_proof}
use Rattle.tl_proof.specs.Needs.{records_need}
use Rattle.tl_proof.specs.Inner.Segments.{IsSegment, IsNeeded, segment_root}
use Rattle.tl_proof.specs.declared.plan.Segment.{Segment}

-- a list cut into pieces of these lengths, from its beginning
abbrev pub cut_into : {X : Type 0} → List ℕ → List X → List (List X)
cut_into [] xs = []
cut_into (count ∷ counts) xs = take count xs ∷ cut_into counts (drop count xs)

-- the segments of the inclusion proofs of the entries at these indexes among the first `size`, one proof after
-- another, and the number of segments of each
pub record IsPathsPlan (size : ℕ) (indexes : List ℕ) (segments : List Segment) (counts : List ℕ) : Type 0 where
  pub hashes : (H : Digest) (entries : List Bytes) → size ≤ length entries
      → map (map (segment_root H entries)) (cut_into counts segments) ≡ map (λ index. inclusion_proof H index (take size entries)) indexes
  pub count : length counts ≡ length indexes
  pub total : sum counts ≡ length segments
  pub parts : All IsSegment segments
  pub needed : IsNeeded 0 (records_need size indexes) segments
