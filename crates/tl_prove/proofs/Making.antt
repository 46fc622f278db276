-- What making a proof comes to.
use Rattle.std.proofs.Common.{◌≡◌, ℕ, List, Option, Result, Ok, Err, sym, ap, subst, ◌∙◌, inl, inr}
use Rattle.sha2.specs.Sha256.{sha256}
use Rattle.tl_hash.specs.Bytes.{Bytes}
use Rattle.tl_hash.specs.Tree.{leaf_input}
use Rattle.tl_hash.specs.declared.head.Head.{Head}
use Rattle.tl_tile.specs.declared.resource.Resource.{Resource}
use Rattle.tl_tile.specs.declared.resource.Resource.TheVariants.{Checkpoint}
use Rattle.tl_checkpoint.specs.Checkpoint as checkpoint
use Rattle.tl_client.specs.Refused.{RefusesEntry}
use Rattle.tl_client.specs.declared.fault.ClientFault.{ClientFault}
use Rattle.tl_fetch.specs.Faults.{after_client}
use Rattle.tl_fetch.specs.Printed.{FailsChecking}
use Rattle.tl_fetch.specs.declared.fault.FetchFault.{FetchFault}
use Rattle.tl_offline.specs.ProofText.{TlogProof}
use Rattle.tl_policy.specs.Terms.{Terms}
use Rattle.tl_policy.specs.Trust.{IsTrusted}
use Rattle.tl_prove.specs.Prove.{FailsUnder, IsFound, IsOpened, IsProofFor, Proves, RefusesFinding, RefusesLeaf, RefusesProving, tree_of}
use Rattle.tl_prove.specs.declared.fault.ProveFault.{ProveFault}
use Rattle.tl_prove.specs.declared.proving.Wanted.{Wanted}
use Rattle.tl_prove.specs.SubmitCommand.{IsProofOf}
use Rattle.tl_prove.specs.Verify.{IsAccepted}

-- there is no proof of a leaf hash
pub no_proof : (answers : Resource → Bytes → Type 0) (lacks : Resource → Type 0) (head h : Head) (index : ℕ) (leaf : Bytes) (why : ClientFault) (fault : FetchFault) → h ≡ head
    → RefusesEntry answers lacks (record { size = h.size; root = h.root; index = index; leaf = leaf }) why → fault ≡ after_client why
    → FailsChecking (RefusesEntry answers lacks (record { size = head.size; root = head.root; index = index; leaf = leaf })) fault
no_proof answers lacks head h index leaf why fault same refused is =
    inr (why, subst (λ (t : Head). RefusesEntry answers lacks (record { size = t.size; root = t.root; index = index; leaf = leaf }) why) same refused, is)

module _ (answers : Resource → Bytes → Type 0) (lacks : Resource → Type 0) (p : Terms) (note : Bytes) (c : checkpoint.Head) (log : ℕ) (times : List (Option ℕ)) (opened : IsOpened answers p note c log times) where
  -- a proof under a trusted checkpoint is accepted
  pub accepted_by : (index : ℕ) (leaf : Bytes) (extra : Option Bytes) (text : Bytes) (proof : TlogProof) → IsProofFor (tree_of c) note index leaf extra text proof → IsAccepted p text leaf proof c log times
  accepted_by index leaf extra text proof of =
      record { spelled = of.spelled; trusted = subst (λ (n : Bytes). IsTrusted p n c log times) (sym of.note_is) opened.trusted; included = of.accepted }

  pub proves : (wanted : Wanted) (index : ℕ) (leaf : Bytes) (extra : Option Bytes) (text : Bytes) (h : Head) → h ≡ tree_of c → IsFound h wanted index leaf
      → ((proof : TlogProof) × IsProofFor (tree_of c) note index leaf extra text proof) → Proves answers p wanted extra text
  proves wanted index leaf extra text h same found made = record {
    proof = made.0;
    c = c;
    log = log;
    times = times;
    leaf = leaf;
    accepted = accepted_by index leaf extra text made.0 made.1;
    answered = subst (λ (n : Bytes). answers Checkpoint n) (sym made.1.note_is) opened.answered;
    found = subst (λ (n : ℕ). IsFound (tree_of c) wanted n leaf) (sym made.1.index_is) (subst (λ (t : Head). IsFound t wanted index leaf) same found);
    extra_is = made.1.extra_is;
  }

  -- a proof of an entry that the log took
  pub taken : (entry : Bytes) (index : ℕ) (leaf : Bytes) (extra : Option Bytes) (text : Bytes) → leaf ≡ sha256 (leaf_input entry)
      → ((proof : TlogProof) × IsProofFor (tree_of c) note index leaf extra text proof) → IsProofOf answers p entry index extra text
  taken entry index leaf extra text is made = record {
    proof = made.0;
    c = c;
    log = log;
    times = times;
    accepted = subst (λ (l : Bytes). IsAccepted p text l made.0 c log times) is (accepted_by index leaf extra text made.0 made.1);
    answered = subst (λ (n : Bytes). answers Checkpoint n) (sym made.1.note_is) opened.answered;
    index_is = made.1.index_is;
    extra_is = made.1.extra_is;
  }

  pub not_found : (wanted : Wanted) (fault : ProveFault) (h : Head) → h ≡ tree_of c → RefusesFinding answers lacks h wanted fault → RefusesProving answers lacks p wanted fault
  not_found wanted fault h same why =
      inr (record { note = note; c = c; log = log; times = times; opened = opened; why = inl (subst (λ (t : Head). RefusesFinding answers lacks t wanted fault) same why) })

  pub not_made : (wanted : Wanted) (fault : ProveFault) (index : ℕ) (leaf : Bytes) → RefusesLeaf answers lacks (tree_of c) index leaf fault → RefusesProving answers lacks p wanted fault
  not_made wanted fault index leaf why =
      inr (record { note = note; c = c; log = log; times = times; opened = opened; why = inr (index, leaf, why) })
