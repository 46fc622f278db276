-- The proof that a log extends its first entries (RFC 6962, section 2.1.2).
use Rattle.std.specs.Prelude.{◌≡◌, ◌≤◌, ℕ, List}
use Rattle.sha2.specs.Sha256.{sha256}
use Rattle.tl_hash.specs.Bytes.{Bytes}
use Rattle.tl_hash.specs.declared.head.Head.{Head}
use Rattle.tl_store.specs.declared.reader.ReadFault.{ReadFault}
use Rattle.tl_proof.specs.Needs.{consistency_needs}
use Rattle.tl_proof.specs.Proofs.{consistency_proof}
use Rattle.tl_proof.specs.ProveFaults.{GivesProveFault, IsOldSize}
use Rattle.tl_proof.specs.declared.fault.ProveFault.{ProveFault}
use Rattle.tl_tile.specs.declared.resource.Resource.{Resource}
use Rattle.tl_tile.specs.declared.resource.Resource.TheVariants as resource
use Rattle.tl_tile.specs.Path.{IsTile}
use Rattle.tl_tile.specs.SourceFaults.{MayGive}
use Rattle.tl_tile.specs.TileReader.{StandsAgainst}
use Rattle.tl_client.specs.Faults.{after_prove}
use Rattle.tl_client.specs.declared.fault.ClientFault.{ClientFault}

-- the entries of the log with this head, over tiles that the source may answer: any list with its size and root, no
-- input of which collides with a string that is hashed for such tiles
abbrev pub IsLogOf : (Resource → Bytes → Type 0) → Head → List Bytes → Type 0
IsLogOf answers head entries = StandsAgainst sha256 (λ t. answers (resource.Tile t)) head.size head.root sha256 entries

-- the proof is the consistency proof from the first `old` entries of the log to all of them
pub record IsGrowthFrom (answers : Resource → Bytes → Type 0) (head : Head) (old : ℕ) (proof : List Bytes) : Type 0 where
  pub within : old ≤ head.size
  pub made : (entries : List Bytes) → IsLogOf answers head entries → proof ≡ consistency_proof sha256 old entries

-- why a tile can't be read, from a source that may answer these texts and may lack these resources
abbrev pub MayLackTiles : (Resource → Bytes → Type 0) → (Resource → Type 0) → Head → ReadFault → Type 0
MayLackTiles answers lacks head fault =
    MayGive sha256 (λ t. answers (resource.Tile t)) (λ t. IsTile t → lacks (resource.Tile t)) head.size head.root fault

-- why that proof isn't made: the old size is above the log's, or the log's is above 2 ^ 62; or the proof has a hash,
-- and a tile is missing or bad, or an allocation failed
abbrev pub RefusesGrowthFrom : (Resource → Bytes → Type 0) → (Resource → Type 0) → Head → ℕ → ClientFault → Type 0
RefusesGrowthFrom answers lacks head old fault =
    (why : ProveFault) × (fault ≡ after_prove why)
    × GivesProveFault (IsOldSize head.size old) head.size (MayLackTiles answers lacks head) (consistency_needs head.size old) why
