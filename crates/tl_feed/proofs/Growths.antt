-- The proof from a log's first entries.
use Rattle.std.proofs.Common.{◌≡◌, ◌≤◌, ◌++◌, ◌∙◌, ℕ, List, [], ap, arith, length, sym, take}
use Rattle.std.proofs.lemmas.List.{append-nil, take_all}
use Rattle.sha2.specs.Sha256.{sha256}
use Rattle.tl_hash.specs.Bytes.{Bytes}
use Rattle.tl_hash.specs.Tree.{tree_hash}
use Rattle.tl_hash.specs.declared.head.Head.{Head}
use Rattle.tl_proof.specs.Acceptance.{AcceptsConsistency}
use Rattle.tl_proof.specs.Proofs.{consistency_proof}
use Rattle.tl_proof.proofs.Consistency.{consistency_is_accepted}
use Rattle.tl_tile.specs.declared.resource.Resource.{Resource}
use Rattle.tl_feed.specs.Growing.{IsGrowthFrom, IsLogOf}

-- what a prover makes over a reader of a log with this head, for lists that may go on after the log
abbrev pub IsMadeOver : (Resource → Bytes → Type 0) → Head → ℕ → List Bytes → Type 0
IsMadeOver answers head old proof =
    (entries more : List Bytes) → IsLogOf answers head entries → head.size ≤ length (entries ++ more)
    → proof ≡ consistency_proof sha256 old (take head.size (entries ++ more))

-- that proof is the one of the log's own entries
pub made_from : (answers : Resource → Bytes → Type 0) (head : Head) (old : ℕ) (proof : List Bytes) → old ≤ head.size → IsMadeOver answers head old proof
    → IsGrowthFrom answers head old proof
made_from answers head old proof within made = record {
  within = within;
  made = λ entries log.
      let none : entries ++ [] ≡ entries = append-nil entries in
      let long : head.size ≤ length (entries ++ []) = omega (arith, ap (λ (xs : List Bytes). length xs) none, log.0) in
      let same : take head.size (entries ++ []) ≡ entries = ap (take head.size) none ∙ take_all head.size entries (omega (arith, log.0)) in
      made entries [] log long ∙ ap (consistency_proof sha256 old) same;
}

-- a witness with the log's first `old` entries accepts the proof
pub accepted_from : (answers : Resource → Bytes → Type 0) (head : Head) (old : ℕ) (proof entries : List Bytes) → IsGrowthFrom answers head old proof
    → IsLogOf answers head entries → AcceptsConsistency sha256 proof head.size head.root old (tree_hash sha256 (take old entries))
accepted_from answers head old proof entries growth log =
    let accepted = consistency_is_accepted sha256 entries old (omega (arith, growth.within, log.0)) in
    rw (growth.made entries log, sym log.0, sym log.3) accepted
