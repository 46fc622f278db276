-- Proofs, as contracts see the values of the program.
use Rattle.std.specs.Prelude.{vec_items}
use Rattle.tl_command.specs.declared.proof_text.ConsistencyProof.{ConsistencyProof}
use Rattle.tl_command.specs.declared.proof_text.InclusionProof.{InclusionProof}
use Rattle.tl_command.specs.ProofText.{Consistency, Inclusion}

-- what an inclusion proof says, whichever allocator holds its hashes
abbrev pub inclusion_shown : {A : Type 0} → InclusionProof A → Inclusion
inclusion_shown p = record { index = p.index; size = p.size; leaf = p.leaf; root = p.root; proof = vec_items p.proof }

-- what a consistency proof says, whichever allocator holds its hashes
abbrev pub consistency_shown : {A : Type 0} → ConsistencyProof A → Consistency
consistency_shown p = record { old = p.old; old_root = p.old_root; size = p.size; root = p.root; proof = vec_items p.proof }
