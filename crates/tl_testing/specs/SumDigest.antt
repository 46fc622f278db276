-- A digest for which collisions are easily found: the sum of all bytes modulo 256, and 31 zero bytes.
use Rattle.std.proofs.Common.{◌≡◌, ◌%◌, ◌∷◌, length, refl}
use Rattle.std.specs.Prelude.{sum, replicate}
use Rattle.tl_hash.specs.Bytes.{Bytes}

abbrev pub sum_digest : Bytes → Bytes
sum_digest message = (sum message % 256) ∷ replicate 31 0

-- every digest has 32 bytes
pub length-sum_digest : (message : Bytes) → length (sum_digest message) ≡ 32
length-sum_digest message = refl
