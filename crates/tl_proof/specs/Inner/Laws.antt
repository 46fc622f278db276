-- The laws as definitions, for proofs.
use Rattle.std.specs.Prelude.{◌≡◌, ℕ, ◌<◌, ◌≤◌, ◌⊎◌, List, [], length, take, All, slice_index_or}
use Rattle.tl_hash.specs.Bytes.{Bytes, Digest}
use Rattle.tl_hash.specs.Tree.{leaf_input, tree_hash, inputs}
use Rattle.tl_hash.specs.Collision.{Collides}
use Rattle.tl_proof.specs.Proofs.{inclusion_proof, consistency_proof}
use Rattle.tl_proof.specs.Acceptance.{AcceptsInclusion, AcceptsConsistency, Step, Linked, EndsWith}
use Rattle.tl_proof.specs.Collisions.{IsPrefix, Exhibits, path_inputs, audit_inputs}
use Rattle.tl_proof.specs.Laws.{HasHashLength, MadeOfHashes}

-- the inclusion proof of each entry is accepted
abbrev pub InclusionIsAccepted : Type 0
InclusionIsAccepted =
    (H : Digest) (entries : List Bytes) (index : ℕ) → index < length entries
    → AcceptsInclusion H (inclusion_proof H index entries) (length entries) (tree_hash H entries)
    index (H (leaf_input (slice_index_or entries index [])))

-- the consistency proof for each prefix is accepted
abbrev pub ConsistencyIsAccepted : Type 0
ConsistencyIsAccepted =
    (H : Digest) (entries : List Bytes) (old : ℕ) → old ≤ length entries
    → AcceptsConsistency H (consistency_proof H old entries) (length entries) (tree_hash H entries)
    old (tree_hash H (take old entries))

-- if an inclusion proof is accepted for an entry under the root of a list, the entry is the list's own at this index,
-- or one of the byte strings hashed for its check and one of those hashed for the list are different and have one
-- digest
abbrev pub InclusionShowsEntry : Type 0
InclusionShowsEntry =
    (H : Digest) → ((message : Bytes) → HasHashLength (H message))
    → (entries : List Bytes) (index : ℕ) (entry : Bytes) (proof : List Bytes) → All HasHashLength proof
    → AcceptsInclusion H proof (length entries) (tree_hash H entries) index (H (leaf_input entry))
    → (entry ≡ slice_index_or entries index [])
    ⊎ ((x : Bytes) × (y : Bytes) × Collides H x y (path_inputs H index (length entries) proof entry) (inputs H entries))

-- if accepted proofs lead, step by step, from the root of one list to the root of another, the first is a prefix of
-- the second, or two of the byte strings hashed for the audit have one digest. The roots in between need not be roots
-- of any list
abbrev pub LinksExtendOrCollide : Type 0
LinksExtendOrCollide =
    (H : Digest) → ((message : Bytes) → HasHashLength (H message))
    → (old new : List Bytes) (steps : List Step) → All MadeOfHashes steps
    → Linked H (length old) (tree_hash H old) steps
    → EndsWith (length old) (tree_hash H old) steps (length new) (tree_hash H new)
    → IsPrefix old new
    ⊎ ((x : Bytes) × (y : Bytes) × Exhibits H x y (audit_inputs H old new steps))
