-- Proofs followed side by side, from their roots down to their leaves (RFC 6962, section 2.1.1).
use Rattle.std.specs.Prelude.{◌≡◌, Bool, List, Option, Some, reverse, if◌then◌else◌}
use Rattle.tl_hash.specs.Bytes.{Bytes, Digest}
use Rattle.tl_hash.specs.Tree.{node_input}
use Rattle.tl_proof.specs.Acceptance.{root_from_leaf}
use Rattle.tl_records.specs.declared.checking.ClaimWalk.{ClaimWalk}

-- the root that a proof leads to from a leaf; the proof is given from its last hash to its first
abbrev pub lane_root : Digest → ClaimWalk → List Bytes → Option Bytes
lane_root H lane proof = root_from_leaf H lane.index lane.size proof lane.leaf

-- the node over a root and the hash beside it; `on_left` says whether the root is the left child
abbrev pub node_with : Digest → Bool → Bytes → Bytes → Bytes
node_with H on_left beside root = H (node_input (if on_left then root else beside) (if on_left then beside else root))

-- the proof leads from the leaf to this root; its last hash is beside the uppermost node of the path
abbrev pub LeadsTo : Digest → ClaimWalk → List Bytes → Bytes → Type 0
LeadsTo H walk proof root = lane_root H walk (reverse proof) ≡ Some root
