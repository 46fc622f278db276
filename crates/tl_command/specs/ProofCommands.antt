-- The commands `inclusion`, `consistency` and `check`.
use Rattle.std.specs.Prelude.{◌≡◌, ◌≢◌, ℕ, ◌<◌, ◌≤◌, List, [], length, take, slice_index_or, codes, Option, Some, None}
use Rattle.sha2.specs.Sha256.{sha256}
use Rattle.tl_hash.specs.Bytes.{Bytes}
use Rattle.tl_hash.specs.Tree.{leaf_input, tree_hash}
use Rattle.tl_text.specs.Text.{line}
use Rattle.tl_proof.specs.Proofs.{inclusion_proof, consistency_proof}
use Rattle.tl_command.specs.Lines.{entries_of, first_too_long}
use Rattle.tl_command.specs.ProofText.{Inclusion, Consistency, Proof, IsProof, inclusion_text, consistency_text, proof_text, Accepts, proof_size, proof_root, proof_leaf}
use Rattle.tl_run.specs.Run.{Output, Prints, PrintsRefusal, Fails}
use Rattle.tl_command.specs.Entries.{IsEntryFault}
use Rattle.tl_run.specs.declared.fault.RunFault.TheVariants.{BadIndex, BadOld, Malformed}

-- the inclusion proof of the entry at this index (RFC 6962, section 2.1.1)
abbrev pub inclusion_of : ℕ → List Bytes → Inclusion
inclusion_of index entries = record {
  index = index;
  size = length entries;
  leaf = sha256 (leaf_input (slice_index_or entries index []));
  root = tree_hash sha256 entries;
  proof = inclusion_proof sha256 index entries;
}

-- the consistency proof for the first `old` entries (RFC 6962, section 2.1.2)
abbrev pub consistency_of : ℕ → List Bytes → Consistency
consistency_of old entries = record {
  old = old;
  old_root = tree_hash sha256 (take old entries);
  size = length entries;
  root = tree_hash sha256 entries;
  proof = consistency_proof sha256 old entries;
}

-- the output of `inclusion` for an input: the proof over its lines, or a line that is too long, or no entry at the
-- index
abbrev pub InclusionComes : ℕ → Bytes → Output → Type 0
InclusionComes index input (Prints text) =
    (first_too_long (entries_of input) ≡ None) × (index < length (entries_of input)) × (text ≡ inclusion_text (inclusion_of index (entries_of input)))
InclusionComes index input (PrintsRefusal text) = ⊥
InclusionComes index input (Fails BadIndex) = (first_too_long (entries_of input) ≡ None) × (length (entries_of input) ≤ index)
InclusionComes index input (Fails fault) = IsEntryFault (entries_of input) fault

-- the output of `consistency` for an input: the proof over its lines, or a line that is too long, or fewer lines than
-- the old size
abbrev pub ConsistencyComes : ℕ → Bytes → Output → Type 0
ConsistencyComes old input (Prints text) =
    (first_too_long (entries_of input) ≡ None) × (old ≤ length (entries_of input)) × (text ≡ consistency_text (consistency_of old (entries_of input)))
ConsistencyComes old input (PrintsRefusal text) = ⊥
ConsistencyComes old input (Fails BadOld) = (first_too_long (entries_of input) ≡ None) × (length (entries_of input) < old)
ConsistencyComes old input (Fails fault) = IsEntryFault (entries_of input) fault

-- the input is the text of a proof that has this property
pub record IsTextOf (Fact : Proof → Type 0) (input : Bytes) : Type 0 where
  pub proof : Proof
  pub lawful : IsProof proof
  pub spelled : input ≡ proof_text proof
  pub fact : Fact proof

-- the output of `check` for an input: a proof is accepted or refused, and an input that is no proof's text is
-- malformed
abbrev pub ChecksBy : (Proof → Type 0) → Bytes → Output → Type 0
ChecksBy IsGood input (Prints text) = IsTextOf IsGood input × (text ≡ line (codes "accepted"))
ChecksBy IsGood input (PrintsRefusal text) = IsTextOf (λ p. ¬ (IsGood p)) input × (text ≡ line (codes "refused"))
ChecksBy IsGood input (Fails Malformed) = (p : Proof) → IsProof p → input ≢ proof_text p
ChecksBy IsGood input (Fails fault) = ⊥

-- a proof is good if it is accepted
abbrev pub CheckComes : Bytes → Output → Type 0
CheckComes input outcome = ChecksBy (Accepts sha256) input outcome

-- what a proof has to be about: the size and the root of a trusted checkpoint, and the entry that it has to show, if
-- one is given
pub record Subject : Type 0 where
  pub size : ℕ
  pub root : Bytes
  pub entry : Option Bytes

-- the hash is that of the entry to show, if one is given
abbrev pub Shows : Option Bytes → Option Bytes → Type 0
Shows None leaf = Unit {0}
Shows (Some entry) leaf = leaf ≡ Some (sha256 (leaf_input entry))

-- the tree and the entry's hash are the subject's
pub record AreOf (s : Subject) (size : ℕ) (root : Bytes) (leaf : Option Bytes) : Type 0 where
  pub same_size : size ≡ s.size
  pub same_root : root ≡ s.root
  pub shown : Shows s.entry leaf

-- a proof is good if it is accepted, leads to the subject's tree, and shows the subject's entry
abbrev pub IsAbout : Subject → Proof → Type 0
IsAbout s p = Accepts sha256 p × AreOf s (proof_size p) (proof_root p) (proof_leaf p)

abbrev pub CheckAboutComes : Subject → Bytes → Output → Type 0
CheckAboutComes s input outcome = ChecksBy (IsAbout s) input outcome
