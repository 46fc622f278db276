-- Texts of inclusion and consistency proofs (formats of this project).
use Rattle.std.specs.Prelude.{ℕ, List, ◌∷◌, ◌++◌, All, map, codes, Option, Some, None}
use Rattle.tl_hash.specs.Bytes.{Bytes, Digest, IsHash}
use Rattle.tl_text.specs.Text.{number_text, base64_text, IsSize}
use Rattle.tl_proof.specs.Acceptance.{AcceptsInclusion, AcceptsConsistency}
use Rattle.tl_command.specs.Lines.{lines_text}

-- an inclusion proof (RFC 6962, section 2.1.1), with the leaf, the index and the tree that it is about
pub record Inclusion : Type 0 where
  pub index : ℕ
  pub size : ℕ
  pub leaf : Bytes
  pub root : Bytes
  pub proof : List Bytes

-- a consistency proof (RFC 6962, section 2.1.2), with the two trees that it is about
pub record Consistency : Type 0 where
  pub old : ℕ
  pub old_root : Bytes
  pub size : ℕ
  pub root : Bytes
  pub proof : List Bytes

-- the proofs that have a text: their numbers are below 2^63, and the rest are hashes
pub record IsInclusion (p : Inclusion) : Type 0 where
  pub index : IsSize p.index
  pub size : IsSize p.size
  pub leaf : IsHash p.leaf
  pub root : IsHash p.root
  pub proof : All IsHash p.proof

pub record IsConsistency (p : Consistency) : Type 0 where
  pub old : IsSize p.old
  pub old_root : IsHash p.old_root
  pub size : IsSize p.size
  pub root : IsHash p.root
  pub proof : All IsHash p.proof

-- the lines of an inclusion proof's text
abbrev pub inclusion_lines : Inclusion → List Bytes
inclusion_lines p = codes "inclusion" ∷ (codes "index " ++ number_text p.index) ∷ (codes "size " ++ number_text p.size)
    ∷ (codes "leaf " ++ base64_text p.leaf) ∷ (codes "root " ++ base64_text p.root) ∷ map base64_text p.proof

-- the lines of a consistency proof's text
abbrev pub consistency_lines : Consistency → List Bytes
consistency_lines p = codes "consistency" ∷ (codes "old " ++ number_text p.old) ∷ (codes "oldroot " ++ base64_text p.old_root)
    ∷ (codes "size " ++ number_text p.size) ∷ (codes "root " ++ base64_text p.root) ∷ map base64_text p.proof

abbrev pub inclusion_text : Inclusion → Bytes
inclusion_text p = lines_text (inclusion_lines p)

abbrev pub consistency_text : Consistency → Bytes
consistency_text p = lines_text (consistency_lines p)

-- a proof of either kind
pub data Proof : Type 0 where
  Included : Inclusion → Proof
  Consistent : Consistency → Proof

abbrev pub IsProof : Proof → Type 0
IsProof (Included p) = IsInclusion p
IsProof (Consistent p) = IsConsistency p

abbrev pub proof_lines : Proof → List Bytes
proof_lines (Included p) = inclusion_lines p
proof_lines (Consistent p) = consistency_lines p

abbrev pub proof_text : Proof → Bytes
proof_text p = lines_text (proof_lines p)

-- the proof is accepted under this digest function
abbrev pub Accepts : Digest → Proof → Type 0
Accepts H (Included p) = AcceptsInclusion H p.proof p.size p.root p.index p.leaf
Accepts H (Consistent p) = AcceptsConsistency H p.proof p.size p.root p.old p.old_root

-- the tree that a proof leads to, and the hash of the entry that it shows, if it shows one
abbrev pub proof_size : Proof → ℕ
proof_size (Included p) = p.size
proof_size (Consistent p) = p.size

abbrev pub proof_root : Proof → Bytes
proof_root (Included p) = p.root
proof_root (Consistent p) = p.root

abbrev pub proof_leaf : Proof → Option Bytes
proof_leaf (Included p) = Some p.leaf
proof_leaf (Consistent p) = None
