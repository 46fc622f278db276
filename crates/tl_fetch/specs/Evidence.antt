-- Evidence that a log forked, as it is printed, and why there is none (RFC 6962, section 2.1.2).
use Rattle.std.specs.Prelude.{◌≡◌, ◌≢◌, ◌⊎◌, ◌++◌, ℕ, [], Some}
use Rattle.sha2.specs.Sha256.{sha256}
use Rattle.tl_hash.specs.Bytes.{Bytes}
use Rattle.tl_hash.specs.declared.head.Head.{Head}
use Rattle.tl_store.specs.Head.{GivesHeadFault}
use Rattle.tl_store.specs.declared.reader.ReadFault.{ReadFault}
use Rattle.tl_tile.specs.Path.{IsTile}
use Rattle.tl_tile.specs.SourceFaults.{MayGive}
use Rattle.tl_tile.specs.declared.resource.Resource.{Resource}
use Rattle.tl_tile.specs.declared.resource.Resource.TheVariants as resource
use Rattle.tl_client.specs.Faults.{after_read}
use Rattle.tl_client.specs.Refused.{IsFork, RefusesGrowth}
use Rattle.tl_client.specs.declared.fault.ClientFault.{ClientFault}
use Rattle.tl_client.specs.declared.fault.ClientFault.TheVariants as client
use Rattle.tl_fork.specs.Evidence.{IsEvidence}
use Rattle.tl_fetch.specs.Trusting.{Policy, Two}

-- both notes, the one that was trusted last first, and then what shows that they disagree
abbrev pub evidence_text : Bytes → Bytes → Bytes → Bytes
evidence_text last note shown = last ++ (note ++ shown)

-- the text is evidence, by these two notes, that the log forked
pub record IsEvidenceOf (policy : Policy) (two : Two) (text : Bytes) : Type 0 where
  pub last : Bytes
  pub had : two.last ≡ Some last
  pub shown : Bytes
  pub is : text ≡ evidence_text last two.note shown
  pub evidence : IsEvidence policy.trust.keys policy.origin text

-- a checkpoint of no entries whose root isn't that of an empty log: no log has it
pub record IsOfNoLog (head : Head) : Type 0 where
  pub empty : head.size ≡ 0
  pub other : head.root ≢ sha256 []

-- ---- why there is no evidence

abbrev pub head_of : ℕ → Bytes → Head
head_of size root = record { size = size; root = root }

-- a source that may answer these texts and may lack these resources gives no proof to the larger tree from its root
-- at this size: that root can't be read, a proof from a root isn't accepted, or memory ran out
abbrev pub LacksProof : (Resource → Bytes → Type 0) → (Resource → Type 0) → ℕ → Head → ClientFault → Type 0
LacksProof answers lacks old larger why =
    ((fault : ReadFault)
    × GivesHeadFault larger.size (MayGive sha256 (λ t. answers (resource.Tile t)) (λ t. IsTile t → lacks (resource.Tile t)) larger.size larger.root) old fault
    × (why ≡ after_read fault))
    ⊎ (((root : Bytes) × RefusesGrowth answers lacks (head_of old root) larger why)
    ⊎ (why ≡ client.OutOfMemory))

-- it isn't known whether the smaller tree begins the larger one: a check fails for a reason that accuses nobody, or
-- it shows a fork between two sizes and the proof for the evidence is lacking
abbrev pub RefusesComparison : (Resource → Bytes → Type 0) → (Resource → Type 0) → Head → Head → ClientFault → Type 0
RefusesComparison answers lacks smaller larger why =
    (RefusesGrowth answers lacks smaller larger why × (why ≢ client.Forked))
    ⊎ (IsFork sha256 smaller larger × (smaller.size ≢ larger.size) × LacksProof answers lacks smaller.size larger why)
