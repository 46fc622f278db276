-- What `prove` makes of what a source has: a proof that the policy accepts (C2SP tlog-proof, tlog-policy).
use Rattle.std.specs.Prelude.{◌≡◌, ◌≢◌, ◌⊎◌, ℕ, ◌<◌, List, Option, Result, Ok, Err, IsUtf8, String, option_map, string_bytes, vec_items}
use Rattle.std.specs.Global.{Global}
use Rattle.sha2.specs.Sha256.{sha256}
use Rattle.tl_hash.specs.Bytes.{Bytes}
use Rattle.tl_hash.specs.Tree.{leaf_input}
use Rattle.tl_hash.specs.declared.head.Head.{Head}
use Rattle.tl_tile.specs.declared.resource.Resource.{Resource}
use Rattle.tl_tile.specs.declared.resource.Resource.TheVariants.{Checkpoint}
use Rattle.tl_checkpoint.specs.Checkpoint as checkpoint
use Rattle.tl_client.specs.Refused.{RefusesEntry}
use Rattle.tl_client.specs.declared.fault.ClientFault.{ClientFault}
use Rattle.tl_fetch.specs.Entries.{IsCheckedEntry, RefusesBundle, RefusesOne}
use Rattle.tl_fetch.specs.Printed.{FailsChecking}
use Rattle.tl_fetch.specs.declared.fault.FetchFault.TheVariants as fetch
use Rattle.tl_offline.specs.ProofText.{TlogProof}
use Rattle.tl_offline.specs.ParseProof.{IsProofText}
use Rattle.tl_offline.specs.CheckEntry.{Accepts}
use Rattle.tl_policy.specs.Terms.{Terms}
use Rattle.tl_policy.specs.Trust.{IsTrusted, OpensUnder}
use Rattle.tl_policy.specs.declared.trust_fault.TrustFault.TheVariants as trust
use Rattle.tl_prove.specs.Faults.{out_of_memory}
use Rattle.tl_prove.specs.Verify.{IsAccepted}
use Rattle.tl_prove.specs.declared.fault.ProveFault.{ProveFault}
use Rattle.tl_prove.specs.declared.fault.ProveFault.TheVariants.{Fetch, NoEntry, Untrusted}
use Rattle.tl_prove.specs.declared.proving.Wanted.{Wanted}
use Rattle.tl_prove.specs.declared.proving.Wanted.TheVariants.{Index, Entry}

-- the size and the root of a checkpoint
abbrev pub tree_of : checkpoint.Head → Head
tree_of c = record { size = c.size; root = c.root }

-- ---- the source's checkpoint

-- The source may answer this note, and the policy trusts it.
pub record IsOpened (answers : Resource → Bytes → Type 0) (p : Terms) (note : Bytes) (c : checkpoint.Head) (log : ℕ) (times : List (Option ℕ)) : Type 0 where
  pub answered : answers Checkpoint note
  pub trusted : IsTrusted p note c log times

-- bytes are no note that the policy trusts, for this reason
abbrev pub IsUntrusted : Terms → Bytes → ProveFault → Type 0
IsUntrusted p bytes (Untrusted why) = (¬ (IsUtf8 bytes) × (why ≡ trust.NoNote)) ⊎ (OpensUnder {A = Global} p bytes (Err why) × (why ≢ trust.OutOfMemory))
IsUntrusted p bytes fault = ⊥

-- why the source's checkpoint isn't trusted: it isn't there, memory ran out, or its bytes are refused
abbrev pub RefusesSource : (Resource → Bytes → Type 0) → (Resource → Type 0) → Terms → ProveFault → Type 0
RefusesSource answers lacks p fault =
    ((fault ≡ Fetch fetch.Unavailable) × lacks Checkpoint)
    ⊎ ((fault ≡ out_of_memory) ⊎ ((bytes : Bytes) × answers Checkpoint bytes × IsUntrusted p bytes fault))

-- ---- the entry

-- the entry that is wanted has this index and this leaf hash: that with the index, or the one given
abbrev pub IsFound : Head → Wanted → ℕ → Bytes → Type 0
IsFound head (Index n) index leaf = (index ≡ n) × ((entry : Bytes) × IsCheckedEntry sha256 head n entry × (leaf ≡ sha256 (leaf_input entry)))
IsFound head (Entry entry) index leaf = leaf ≡ sha256 (leaf_input entry.now)

-- the log's entry with this index is another one
abbrev pub IsOther : Head → Bytes → ℕ → Type 0
IsOther head wanted index = (entry : Bytes) × IsCheckedEntry sha256 head index entry × (entry ≢ wanted)

-- so are all of them
abbrev pub IsNowhere : Head → Bytes → Type 0
IsNowhere head wanted = (index : ℕ) → index < head.size → IsOther head wanted index

-- why an entry isn't found
abbrev pub RefusesFinding : (Resource → Bytes → Type 0) → (Resource → Type 0) → Head → Wanted → ProveFault → Type 0
RefusesFinding answers lacks head (Index n) (Fetch fault) = FailsChecking (RefusesOne answers lacks head n) fault
RefusesFinding answers lacks head (Entry entry) NoEntry = IsNowhere head entry.now
RefusesFinding answers lacks head (Entry entry) (Fetch fault) = FailsChecking (λ why. (bundle : ℕ) × RefusesBundle answers lacks head bundle why) fault
RefusesFinding answers lacks head wanted fault = ⊥

-- ---- the proof

-- The text is a proof of this leaf hash at this index, with these extra data and this note, and is accepted under the
-- note's size and root.
pub record IsProofFor (head : Head) (note : Bytes) (index : ℕ) (leaf : Bytes) (extra : Option Bytes) (text : Bytes) (proof : TlogProof) : Type 0 where
  pub spelled : IsProofText text proof
  pub note_is : proof.note ≡ note
  pub index_is : proof.index ≡ index
  pub extra_is : proof.extra ≡ extra
  pub accepted : Accepts sha256 proof head.size head.root leaf

-- why there is no proof of a leaf hash
abbrev pub RefusesLeaf : (Resource → Bytes → Type 0) → (Resource → Type 0) → Head → ℕ → Bytes → ProveFault → Type 0
RefusesLeaf answers lacks head index leaf (Fetch fault) =
    FailsChecking (RefusesEntry answers lacks (record { size = head.size; root = head.root; index = index; leaf = leaf })) fault
RefusesLeaf answers lacks head index leaf fault = ⊥

-- The text is a proof that the policy accepts, under a checkpoint that the source may answer, of the entry that is
-- wanted, with these extra data.
pub record Proves (answers : Resource → Bytes → Type 0) (p : Terms) (wanted : Wanted) (extra : Option Bytes) (text : Bytes) : Type 0 where
  pub proof : TlogProof
  pub c : checkpoint.Head
  pub log : ℕ
  pub times : List (Option ℕ)
  pub leaf : Bytes
  pub accepted : IsAccepted p text leaf proof c log times
  pub answered : answers Checkpoint proof.note
  pub found : IsFound (tree_of c) wanted proof.index leaf
  pub extra_is : proof.extra ≡ extra

-- the checkpoint is trusted, and there is no proof of the entry under it, for this reason
pub record FailsUnder (answers : Resource → Bytes → Type 0) (lacks : Resource → Type 0) (p : Terms) (wanted : Wanted) (fault : ProveFault) : Type 0 where
  pub note : Bytes
  pub c : checkpoint.Head
  pub log : ℕ
  pub times : List (Option ℕ)
  pub opened : IsOpened answers p note c log times
  pub why : RefusesFinding answers lacks (tree_of c) wanted fault ⊎ ((index : ℕ) × (leaf : Bytes) × RefusesLeaf answers lacks (tree_of c) index leaf fault)

-- why there is no proof
abbrev pub RefusesProving : (Resource → Bytes → Type 0) → (Resource → Type 0) → Terms → Wanted → ProveFault → Type 0
RefusesProving answers lacks p wanted fault = RefusesSource answers lacks p fault ⊎ FailsUnder answers lacks p wanted fault
