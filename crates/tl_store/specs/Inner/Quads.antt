-- The hashes over four quads of entries.
use Rattle.std.specs.Prelude.{◌≡◌, ℕ, List, [], ◌∷◌, slice_index_or}
use Rattle.tl_hash.specs.Bytes.{Bytes, Digest}
use Rattle.tl_hash.specs.Tree.{leaf_input}
use Rattle.tl_store.specs.declared.quads.FourQuads.{FourQuads}

-- the hashes of one quad, in the order in which they are stored
abbrev pub quad_of : FourQuads → ℕ → List Bytes
quad_of quads lane =
    slice_index_or quads.first lane []
    ∷ slice_index_or quads.second lane []
    ∷ slice_index_or quads.left lane []
    ∷ slice_index_or quads.third lane []
    ∷ slice_index_or quads.fourth lane []
    ∷ slice_index_or quads.right lane []
    ∷ slice_index_or quads.top lane []
    ∷ []

-- the hash is the leaf hash of the entry at this place
abbrev pub IsLeafAt : {X : Type 0} → (X → Bytes) → Digest → List X → ℕ → Bytes → Type 0
IsLeafAt {X} bytes_of H entries place hash = (entry : X) × (entry ≡ slice_index_or entries place entry) × (hash ≡ H (leaf_input (bytes_of entry)))
