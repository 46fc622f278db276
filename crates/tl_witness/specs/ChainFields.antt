-- The fields of a chain line, and adding a step to the chains.
use Rattle.std.specs.Prelude.{◌≡◌, ◌≢◌, ℕ, ◌⊎◌, List, [], ◌∷◌, ◌++◌, length, All, IsUtf8, Some, slice_get, slice_set}
use Rattle.tl_hash.specs.Bytes.{Bytes, IsHash}
use Rattle.tl_text.specs.Text.{number_text, base64_text}
use Rattle.tl_proof.specs.Acceptance.{Step}
use Rattle.tl_witness.specs.ChainLine.{ChainLine}
use Rattle.tl_witness.specs.Open.{SavedChain, chain_origins, saved_chain}

-- no byte of the text is `mark`
abbrev pub IsWithout : ℕ → Bytes → Type 0
IsWithout mark text = All (λ byte. byte ≢ mark) text

-- a field, the space after it, and what follows
abbrev pub field : Bytes → Bytes → Bytes
field words rest = words ++ 32 ∷ rest

-- the hashes, each as a field, and what follows
abbrev pub hashes_before : List Bytes → Bytes → Bytes
hashes_before [] rest = rest
hashes_before (hash ∷ hashes) rest = field (base64_text hash) (hashes_before hashes rest)

-- a chain line without its newline
abbrev pub chain_words : ChainLine → Bytes
chain_words l =
    field (number_text l.step.size) (field (base64_text l.step.root) (field (number_text (length l.step.proof)) (hashes_before l.step.proof l.origin)))

-- the bytes don't begin with a line of text
abbrev pub HasNoLine : Bytes → Type 0
HasNoLine bytes = (words rest : Bytes) → IsWithout 10 words → IsUtf8 words → bytes ≢ words ++ 10 ∷ rest

-- the text is `count` fields with these hashes, and what follows
pub record AreHashes (count : ℕ) (text : Bytes) (hashes : List Bytes) (rest : Bytes) : Type 0 where
  pub each : All IsHash hashes
  pub number : length hashes ≡ count
  pub whole : text ≡ hashes_before hashes rest

-- the step is added to those of its origin, or begins a new chain at the end
abbrev pub PutsStep : Bytes → Step → List SavedChain → List SavedChain → Type 0
PutsStep origin step old new =
    ((place : ℕ) × (before : List Step) × (slice_get old place ≡ Some (saved_chain origin before)) × (new ≡ slice_set old place (saved_chain origin (before ++ step ∷ []))))
    ⊎ (((place : ℕ) → slice_get (chain_origins old) place ≢ Some origin) × (new ≡ old ++ saved_chain origin (step ∷ []) ∷ []))
