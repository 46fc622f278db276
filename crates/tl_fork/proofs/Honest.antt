-- Evidence accuses no log whose checkpoints are each of a prefix of one list.
use Rattle.std.proofs.Common.{◌≡◌, ℕ, ◌≤◌, ◌⊎◌, inl, inr, List, length, take, take-take, sym, ◌∙◌, ap, arith}
use Rattle.sha2.specs.Sha256.{sha256}
use Rattle.tl_hash.specs.Sha256Length.{length-sha256}
use Rattle.tl_hash.specs.Tree.{tree_hash}
use Rattle.tl_proof.proofs.Audits.{link_meets}
use Rattle.tl_checkpoint.specs.Checkpoint.{Head}
use Rattle.tl_command.specs.ProofText.{Consistency, IsConsistency}
use Rattle.tl_fork.specs.Evidence.{AccusesNoHonestLog, IsOfBeginning, LeadsElsewhere, ProofCollides}

abbrev root_at : List (List ℕ) → ℕ → List ℕ
root_at log n = tree_hash sha256 (take n log)

-- a proof that leads elsewhere between prefixes of one list shows a collision
elsewhere_collides : (a b : Head) (p : Consistency) → IsConsistency p → LeadsElsewhere a b p
    → (log : List (List ℕ)) → IsOfBeginning log a → IsOfBeginning log b → ProofCollides log p
elsewhere_collides a b p lawful leads log of_a of_b =
    let sized : length (take p.size log) ≡ p.size = rw (leads.size) of_b.within in
    let rooted : p.root ≡ root_at log p.size = leads.root ∙ of_b.root ∙ ap (root_at log) (sym leads.size) in
    let met = link_meets sha256 length-sha256 p.proof p.size p.root p.old p.old_root (take p.size log) sized rooted lawful.old_root.length (λ i d lt. (lawful.proof i d lt).length) leads.accepted in
    elim met.1 as (λ _. ProofCollides log p) [
      | inl same ↦
          let within : p.old ≤ p.size = met.0 in
          let before : tree_hash sha256 (take p.old (take p.size log)) ≡ root_at log p.old = ap (tree_hash sha256) (take-take p.old p.size log within) in
          absurd (leads.other (same ∙ before ∙ ap (root_at log) leads.old ∙ sym of_a.root))
      | inr collision ↦ collision
    ]

pub accuses_no_honest_log : AccusesNoHonestLog
accuses_no_honest_log a b text (inl (none, two)) log of_a of_b =
    absurd (two.roots (of_a.root ∙ ap (root_at log) two.size ∙ sym of_b.root))
accuses_no_honest_log a b text (inr (p, lawful, spelled, inl leads)) log of_a of_b =
    (p, spelled, elsewhere_collides a b p lawful leads log of_a of_b)
accuses_no_honest_log a b text (inr (p, lawful, spelled, inr leads)) log of_a of_b =
    (p, spelled, elsewhere_collides b a p lawful leads log of_b of_a)
