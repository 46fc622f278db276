-- What an audit shows if one list doesn't extend another: two of the byte strings that were hashed (RFC 6962,
-- sections 2.1 and 2.1.2).
use Rattle.std.specs.Prelude.{◌≡◌, ℕ, ◌-◌, Bool, true, false, List, [], ◌∷◌, ◌++◌, length, take, reverse, nat_lt, nat_le, ◌==◌, if◌then◌else◌}
use Rattle.tl_hash.specs.Bytes.{Bytes, Digest}
use Rattle.tl_hash.specs.Split.{split_point}
use Rattle.tl_hash.specs.Tree.{leaf_input, tree_hash, inputs}
use Rattle.tl_hash.specs.Collision.{Collides}
use Rattle.tl_proof.specs.Acceptance.{Step, root_from_leaf, input_on_left, input_on_right, roots_from, inputs_on_left, inputs_on_right}

-- the first list is a prefix of the second
abbrev pub IsPrefix : List Bytes → List Bytes → Type 0
IsPrefix old new = old ≡ take (length old) new

-- the byte strings that `root_from_leaf` hashes, case by case
unfoldable pub path_inputs_from : Digest → ℕ → ℕ → List Bytes → Bytes → List Bytes
path_inputs_from H index size [] leaf = []
path_inputs_from H index size (last ∷ others) leaf =
    let k : ℕ = split_point size in
    if nat_lt index k
    then input_on_left (root_from_leaf H index k others leaf) last ++ path_inputs_from H index k others leaf
    else input_on_right (root_from_leaf H (index - k) (size - k) others leaf) last ++ path_inputs_from H (index - k) (size - k) others leaf

-- the byte strings hashed for an entry's leaf and for the check of its inclusion proof
unfoldable pub path_inputs : Digest → ℕ → ℕ → List Bytes → Bytes → List Bytes
path_inputs H index size proof entry =
    leaf_input entry ∷ path_inputs_from H index size (reverse proof) (H (leaf_input entry))

-- the byte strings that `roots_from` hashes, case by case
unfoldable pub fold_inputs_from : Digest → ℕ → ℕ → Bool → List Bytes → Bytes → List Bytes
-- no hash is left: none
fold_inputs_from H old new known [] root = []
fold_inputs_from H old new known (last ∷ others) root =
    let k : ℕ = split_point new in
    -- all entries are old: none
    if old == new then []
    -- all old entries are in the left part: that of the node over it, and those for the left part
    else if nat_le old k
    then inputs_on_left (roots_from H old k known others root) last ++ fold_inputs_from H old k known others root
    -- the left part is old: those of the two nodes over the right part, and those for the right part
    else inputs_on_right (roots_from H (old - k) (new - k) false others root) last ++ fold_inputs_from H (old - k) (new - k) false others root

-- the byte strings hashed for the check of a consistency proof
unfoldable pub fold_inputs : Digest → ℕ → ℕ → List Bytes → Bytes → List Bytes
fold_inputs H old new proof root = if old == 0 then [] else fold_inputs_from H old new true (reverse proof) root

-- two different byte strings of a list with one digest
abbrev pub Exhibits : Digest → Bytes → Bytes → List Bytes → Type 0
Exhibits H x y strings = Collides H x y strings strings

-- the byte strings hashed for the steps from this size and root: those of the new list's prefix of each step's size,
-- and those of the check of each step's proof
unfoldable pub step_inputs : Digest → List Bytes → ℕ → Bytes → List Step → List Bytes
step_inputs H new old old_root [] = []
step_inputs H new old old_root (step ∷ steps) =
    inputs H (take step.size new) ++ fold_inputs H old step.size step.proof old_root ++ step_inputs H new step.size step.root steps

-- the byte strings hashed for an audit from the old list over the steps to the new list
unfoldable pub audit_inputs : Digest → List Bytes → List Bytes → List Step → List Bytes
audit_inputs H old new steps =
    inputs H old ++ inputs H new ++ inputs H (take (length old) new) ++ step_inputs H new (length old) (tree_hash H old) steps
