-- What an audit finds (RFC 6962, sections 2.1 and 2.1.2): two nodes over different hashes, or the entries at one
-- place.
use Rattle.std.specs.Prelude.{◌≡◌, ◌≢◌, ℕ, ◌<◌, Bool, List, [], ◌∷◌, length, take, Option, Some, None, Result, Ok, Err, slice_index_or}
use Rattle.tl_hash.specs.Bytes.{Bytes, Digest}
use Rattle.tl_hash.specs.Tree.{tree_hash, inputs, leaf_input, node_input}
use Rattle.tl_hash.specs.Collision.{Collides}
use Rattle.tl_proof.specs.Acceptance.{roots_from, Step}
use Rattle.tl_proof.specs.Collisions.{Exhibits, fold_inputs_from, step_inputs, audit_inputs}
use Rattle.tl_proof.specs.declared.audit.fork.Children.{Children}
use Rattle.tl_proof.specs.declared.audit.fork.Fork.{Fork}
use Rattle.tl_proof.specs.declared.audit.fork.CheckWalk.{CheckWalk}
use Rattle.tl_proof.specs.declared.audit.fork.Walk.{Walk}
use Rattle.tl_proof.specs.declared.verdict.Verdict.{Verdict}
use Rattle.tl_proof.specs.declared.verdict.Verdict.TheVariants.{Extends, Collision}
use Rattle.tl_proof.specs.declared.verdict.AuditFault.{AuditFault}
use Rattle.tl_proof.specs.declared.verdict.AuditFault.TheVariants.{NotAccepted, OutOfMemory}

-- the byte string hashed for a node over two hashes
abbrev pub input_of : Children → Bytes
input_of children = node_input children.left children.right

-- two hashes are the same if there is no fork; otherwise the two nodes of the fork collide
abbrev pub SameOrForks : Digest → Option Fork → Bytes → Bytes → List Bytes → List Bytes → Type 0
SameOrForks H None a b firsts seconds = a ≡ b
SameOrForks H (Some fork) a b firsts seconds = Collides H (input_of fork.first) (input_of fork.second) firsts seconds

-- two nodes, the first over the first two hashes and the second over the others
abbrev pub fork_of : Bytes → Bytes → Bytes → Bytes → Fork
fork_of a b c d = record { first = record { left = a; right = b }; second = record { left = c; right = d } }

-- the fork of two nodes over what was found below them: these two if they are over different hashes, and otherwise
-- what was found below
pub record IsForkOver (fork : Fork) (below result : Option Fork) : Type 0 where
  pub hashes : input_of fork.first ≡ input_of fork.second → (fork.first.left ≡ fork.second.left) × (fork.first.right ≡ fork.second.right)
  pub same : input_of fork.first ≡ input_of fork.second → result ≡ below
  pub differ : input_of fork.first ≢ input_of fork.second → result ≡ Some fork

-- the size with which steps from this size end, and the root with which steps from this root end
unfoldable pub end_size : ℕ → List Step → ℕ
end_size old [] = old
end_size old (step ∷ steps) = end_size step.size steps

unfoldable pub end_root : Bytes → List Step → Bytes
end_root old_root [] = old_root
end_root old_root (step ∷ steps) = end_root step.root steps

-- the entry at a place
abbrev pub entry_at : List Bytes → ℕ → Bytes
entry_at entries place = slice_index_or entries place []

-- the old list has an entry at this place, and the new list another
abbrev pub DifferAt : List Bytes → List Bytes → ℕ → Type 0
DifferAt old new place = (place < length old) × (entry_at old place ≢ entry_at new place)

-- the byte string hashed for the first node of a fork, or for the leaf of an entry if there is no fork
abbrev pub first_string : Option Fork → Bytes → Bytes
first_string None entry = leaf_input entry
first_string (Some fork) entry = input_of fork.first

-- the byte string hashed for the second node of a fork, or for the leaf of an entry if there is no fork
abbrev pub second_string : Option Fork → Bytes → Bytes
second_string None entry = leaf_input entry
second_string (Some fork) entry = input_of fork.second

-- the walk down a check and the tree of a list: its roots; and if the new root is the list's, the old root is that of
-- the list's first `old` entries, or two nodes collide
pub record IsCheckWalk (H : Digest) (old : ℕ) (known : Bool) (proof : List Bytes) (root : Bytes) (entries : List Bytes) (walk : CheckWalk) : Type 0 where
  pub leads : roots_from H old (length entries) known proof root ≡ Some (walk.old, walk.new)
  pub list : walk.list ≡ tree_hash H entries
  pub meets : walk.new ≡ walk.list → SameOrForks H walk.fork walk.old (tree_hash H (take old entries)) (fold_inputs_from H old (length entries) known proof root) (inputs H entries)

-- the walk down the trees of two lists to one place: their roots; and if these are the same, the leaf hashes there
-- are the same, or two nodes collide
pub record IsListsWalk (H : Digest) (place : ℕ) (old new : List Bytes) (walk : Walk) : Type 0 where
  pub old_root : walk.first ≡ tree_hash H old
  pub new_root : walk.second ≡ tree_hash H new
  pub meets : walk.first ≡ walk.second → SameOrForks H walk.fork (H (leaf_input (entry_at old place))) (H (leaf_input (entry_at new place))) (inputs H old) (inputs H new)

-- the root of the old list is that of the new list's prefix if there is no fork; otherwise the two nodes of the fork
-- collide, and were hashed for the steps from the old list to the new one
abbrev pub LinksFork : Digest → Option Fork → List Bytes → List Bytes → List Step → Type 0
LinksFork H fork old new steps =
    let strings : List Bytes = step_inputs H new (length old) (tree_hash H old) steps in
    SameOrForks H fork (tree_hash H old) (tree_hash H (take (length old) new)) strings strings

-- the strings of a fork, or of the leaves at a place if there is no fork, collide, and were hashed for the audit
abbrev pub ForksAt : Digest → Option Fork → List Bytes → List Bytes → ℕ → List Step → Type 0
ForksAt H fork old new place steps =
    Exhibits H (first_string fork (entry_at old place)) (second_string fork (entry_at new place)) (audit_inputs H old new steps)

-- the result with the strings of a fork, or with those of the leaves of two entries if there is no fork
abbrev pub ShowsFork : {A : Type 0} → Option Fork → Bytes → Bytes → Result (Verdict A) AuditFault → Type 0
ShowsFork fork a b (Ok Extends) = ⊥
ShowsFork fork a b (Ok (Collision x y)) = (x.items ≡ first_string fork a) × (y.items ≡ second_string fork b)
ShowsFork fork a b (Err NotAccepted) = ⊥
ShowsFork fork a b (Err OutOfMemory) = Unit {0}
