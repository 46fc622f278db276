-- The laws of proofs (RFC 6962, sections 2.1.1 and 2.1.2), over any digest function H.
use Rattle.std.specs.Prelude.{◌≡◌, length, All}
use Rattle.tl_hash.specs.Bytes.{Bytes}
use Rattle.tl_proof.specs.Acceptance.{Step}

-- the length of a hash is 32
abbrev pub HasHashLength : Bytes → Type 0
HasHashLength hash = length hash ≡ 32

-- the root and the proof of a step are made of hashes
abbrev pub MadeOfHashes : Step → Type 0
MadeOfHashes step = HasHashLength step.root × All HasHashLength step.proof
