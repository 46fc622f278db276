-- Whether an entry is where a proof says, and what that shows (RFC 6962, section 2.1.1).
use Rattle.std.specs.Prelude.{◌≡◌, ℕ, ◌<◌, ◌≤◌, ◌⊎◌, ◌^◌, List, length, Some, slice_get, Result, Ok, Err}
use Rattle.tl_hash.specs.Bytes.{Bytes, Digest}
use Rattle.tl_hash.specs.Tree.{leaf_input, tree_hash, inputs}
use Rattle.tl_hash.specs.Collision.{Collides}
use Rattle.tl_proof.specs.Acceptance.{AcceptsInclusion}
use Rattle.tl_proof.specs.Collisions.{path_inputs}
use Rattle.tl_proof.specs.Laws.{HasHashLength}
use Rattle.tl_offline.specs.declared.checking.EntryFault.{EntryFault}
use Rattle.tl_offline.specs.declared.checking.EntryFault.TheVariants.{IndexOutOfRange, NotIncluded}
use Rattle.tl_offline.specs.ProofText.{TlogProof, IsProof}

-- the proof is accepted for the leaf hash under the root of `size` entries
abbrev pub Accepts : Digest → TlogProof → ℕ → Bytes → Bytes → Type 0
Accepts H p size root leaf = AcceptsInclusion H p.hashes size root p.index leaf

-- the proof is accepted, or why it isn't
abbrev pub ChecksEntry : {U : Type 0} → Digest → TlogProof → ℕ → Bytes → Bytes → Result U EntryFault → Type 0
ChecksEntry H p size root leaf (Ok done) = Accepts H p size root leaf
ChecksEntry H p size root leaf (Err IndexOutOfRange) = size ≤ p.index
ChecksEntry H p size root leaf (Err NotIncluded) = (p.index < size) × ¬ (Accepts H p size root leaf)

-- a proof that is accepted in a log of fewer than 2^63 entries has at most 63 hashes, so it has a text
abbrev pub AcceptedProofsAreShort : Type 0
AcceptedProofsAreShort =
    (H : Digest) (hashes : List Bytes) (size : ℕ) (root : Bytes) (index : ℕ) (leaf : Bytes)
    → size < 2 ^ 63 → AcceptsInclusion H hashes size root index leaf → (index < 2 ^ 63) × (length hashes ≤ 63)

-- an entry that is accepted under the size and root of a list is in it, at the proof's index, or one of the byte
-- strings hashed for the check and one of those hashed for the list are different and have one digest
abbrev pub AcceptedEntriesAreListed : Type 0
AcceptedEntriesAreListed =
    (H : Digest) → ((message : Bytes) → HasHashLength (H message))
    → (p : TlogProof) (entries : List Bytes) (entry : Bytes) → IsProof p
    → Accepts H p (length entries) (tree_hash H entries) (H (leaf_input entry))
    → (slice_get entries p.index ≡ Some entry)
    ⊎ ((x : Bytes) × (y : Bytes) × Collides H x y (path_inputs H p.index (length entries) p.hashes entry) (inputs H entries))
