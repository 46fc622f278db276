-- HMAC with SHA-256 (RFC 2104, with a block of 64 bytes).
use Rattle.std.specs.Prelude.{ℕ, ◌-◌, ◌++◌, length, map, replicate, nat_lt, if◌then◌else◌, bit_xor}
use Rattle.sha2.specs.Sha256.{sha256}
use Rattle.tl_hash.specs.Bytes.{Bytes}

-- the secret, or its digest if it is longer than a block of 64 bytes
abbrev pub short_secret : Bytes → Bytes
short_secret secret = if nat_lt 64 (length secret) then sha256 secret else secret

-- the same, filled up with zeros to a block
abbrev pub secret_block : Bytes → Bytes
secret_block secret = short_secret secret ++ replicate (64 - length (short_secret secret)) 0

-- the block with each byte combined with the pad by exclusive or
abbrev pub padded_secret : Bytes → ℕ → Bytes
padded_secret secret pad = map (λ byte. bit_xor byte pad) (secret_block secret)

-- HMAC of a message (RFC 2104, section 2)
abbrev pub hmac : Bytes → Bytes → Bytes
hmac secret message = sha256 (padded_secret secret 0x5c ++ sha256 (padded_secret secret 0x36 ++ message))
