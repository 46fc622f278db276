-- Bytes that are no cosignature.
use Rattle.std.specs.Prelude.{◌≡◌, ℕ}
use Rattle.tl_hash.specs.Bytes.{Bytes}
use Rattle.tl_checkpoint.specs.Cosignature.{cosignature}

-- the bytes are not a time and a signature
abbrev pub IsNoCosignature : Bytes → Type 0
IsNoCosignature bytes = (time : ℕ) (signature : Bytes) → bytes ≡ cosignature time signature → ⊥
