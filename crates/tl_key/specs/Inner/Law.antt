-- The laws as definitions, for proofs.
use Rattle.std.specs.Prelude.{◌≡◌, ℕ}
use Rattle.tl_hash.specs.Bytes.{Bytes}
use Rattle.tl_key.specs.NoteKey.{PublicKey, SeedKey}
use Rattle.tl_key.specs.KeyText.{IsVerifierText, IsSignerText}

-- two keys of verifiers have the same text exactly if they are the same key
abbrev pub VerifierTextIsOne : Type 0
VerifierTextIsOne = (m n : ℕ) (s t : Bytes) (k l : PublicKey) → IsVerifierText m s k → IsVerifierText n t l → (s ≡ t → k ≡ l) × (k ≡ l → s ≡ t)

-- two keys of signers have the same text exactly if they are the same key
abbrev pub SignerTextIsOne : Type 0
SignerTextIsOne = (m n : ℕ) (s t : Bytes) (k l : SeedKey) → IsSignerText m s k → IsSignerText n t l → (s ≡ t → k ≡ l) × (k ≡ l → s ≡ t)
