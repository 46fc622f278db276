-- A consistency proof that a client makes.
use Rattle.std.specs.Prelude.{◌≡◌, ℕ, ◌-◌, List}
use Rattle.tl_hash.specs.Bytes.{Bytes, Digest}
use Rattle.tl_proof.specs.Proofs.{consistency_proof}
use Rattle.tl_tile.specs.declared.resource.Resource.{Resource}
use Rattle.tl_client.specs.Blame.{ServesBadTile, WantsTile}
use Rattle.tl_client.specs.Refused.{HoldsByTiles, IsBetween}
use Rattle.tl_client.specs.declared.fault.ClientFault.{ClientFault}
use Rattle.tl_client.specs.declared.fault.ClientFault.TheVariants as client

-- this is the proof for every list of this size and root that is apart from the tiles that the proof was made from
abbrev pub IsMadeProof : Digest → ℕ → ℕ → Bytes → List Bytes → Type 0
IsMadeProof H old size root proof = HoldsByTiles H size root (λ all. proof ≡ consistency_proof H old all)

-- why a source gives no proof between sizes in range, to this root
abbrev pub RefusesProof : (Resource → Bytes → Type 0) → (Resource → Type 0) → ℕ → ℕ → Bytes → ClientFault → Type 0
RefusesProof answers lacks old size root client.Range = ⊥
RefusesProof answers lacks old size root client.Unavailable =
    IsBetween old size × WantsTile answers lacks size root (old - 1)
RefusesProof answers lacks old size root (client.BadTile level index width) =
    IsBetween old size × ServesBadTile answers size root (record { level = level; index = index; width = width })
RefusesProof answers lacks old size root (client.BadBundle _) = ⊥
RefusesProof answers lacks old size root (client.BadEntry _) = ⊥
RefusesProof answers lacks old size root client.Shrunk = ⊥
RefusesProof answers lacks old size root client.Forked = ⊥
RefusesProof answers lacks old size root client.OutOfMemory = IsBetween old size
