-- SUBPROOF over the lines of a part of a log, with the roots that it leads to.
use Rattle.std.specs.Prelude.{ℕ, Bool, List, length, take}
use Rattle.sha2.specs.Sha256.{sha256}
use Rattle.tl_hash.specs.Bytes.{Bytes}
use Rattle.tl_hash.specs.Tree.{tree_of, tree_hash}
use Rattle.tl_proof.specs.Proofs.{subproof}
use Rattle.tl_command.specs.ProofText.{Consistency}

-- the subproof for the first `old` entries; `known` says whether the verifier has the hash of these entries if they
-- are a whole tree (RFC 6962, section 2.1.2)
abbrev pub subproof_of : ℕ → Bool → List Bytes → Consistency
subproof_of old known entries = record {
  old = old;
  old_root = tree_hash sha256 (take old entries);
  size = length entries;
  root = tree_hash sha256 entries;
  proof = subproof sha256 old (tree_of entries) known;
}
