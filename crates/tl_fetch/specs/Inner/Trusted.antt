-- A step of trusting a log's two checkpoints.
use Rattle.std.specs.Prelude.{◌≡◌, ◌⊎◌, IsUtf8}
use Rattle.tl_hash.specs.Bytes.{Bytes}
use Rattle.tl_tile.specs.declared.resource.Resource.{Resource}
use Rattle.tl_tile.specs.declared.resource.Resource.TheVariants.{Checkpoint}
use Rattle.tl_run.specs.declared.fault.RunFault.TheVariants.{OutOfMemory}
use Rattle.tl_fetch.specs.declared.fault.FetchFault.{FetchFault}
use Rattle.tl_fetch.specs.declared.fault.FetchFault.TheVariants.{Run, Unavailable}
use Rattle.tl_fetch.specs.Faults.{bad_checkpoint}

-- a source gives no text for the checkpoint
abbrev pub RefusesText : (Resource → Bytes → Type 0) → (Resource → Type 0) → FetchFault → Type 0
RefusesText answers lacks fault =
    ((fault ≡ Unavailable) × lacks Checkpoint)
    ⊎ ((fault ≡ Run OutOfMemory)
    ⊎ ((bytes : Bytes) × answers Checkpoint bytes × (¬ (IsUtf8 bytes) × (fault ≡ Run bad_checkpoint))))
