-- The chain of an origin: what the witness has cosigned for it, in order (C2SP tlog-witness, "add-checkpoint"). H is
-- the digest function.
use Rattle.std.specs.Prelude.{ℕ, List, [], ◌∷◌, All}
use Rattle.tl_hash.specs.Bytes.{Bytes, Digest}
use Rattle.tl_proof.specs.Acceptance.{AcceptsConsistency, Step, Linked}
use Rattle.tl_proof.specs.Laws.{MadeOfHashes}

-- a tree head: a size and a root hash
pub record TreeHead : Type 0 where
  pub size : ℕ
  pub root : Bytes

-- the tree head that a step leads to
abbrev pub head_after : Step → TreeHead
head_after step = record { size = step.size; root = step.root }

-- the step's proof is accepted for its tree head, from this older one
abbrev pub Follows : Digest → TreeHead → Step → Type 0
Follows H old step = AcceptsConsistency H step.proof step.size step.root old.size old.root

-- each step follows the one before, and the first follows this tree head
abbrev pub IsLinked : Digest → TreeHead → List Step → Type 0
IsLinked H old steps = Linked H old.size old.root steps

-- the tree head that the steps lead to from this one
abbrev pub last_head : TreeHead → List Step → TreeHead
last_head old [] = old
last_head old (step ∷ steps) = last_head (head_after step) steps

-- the tree head from which every origin begins: size 0 and the hash of no bytes
abbrev pub first_head : Digest → TreeHead
first_head H = record { size = 0; root = H [] }

-- the steps are linked from the first tree head, and made of hashes
pub record IsChain (H : Digest) (steps : List Step) : Type 0 where
  pub linked : IsLinked H (first_head H) steps
  pub made : All MadeOfHashes steps
