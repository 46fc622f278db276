-- When a book can be opened with these trusts and saved chains, and what it then keeps (C2SP tlog-witness,
-- "Configuration" and "add-checkpoint"). H is the digest function.
use Rattle.std.specs.Prelude.{◌≡◌, ℕ, ◌⊎◌, List, [], ◌∷◌, Some, slice_get, take, map, All, length, ◌<◌}
use Rattle.std.specs.List.{AllZip}
use Rattle.tl_hash.specs.Bytes.{Bytes, Digest}
use Rattle.tl_note.specs.Key.{Key, SigningKey, IsKeyName}
use Rattle.tl_proof.specs.Acceptance.{Step}
use Rattle.tl_witness.specs.declared.opening.BookFault.{BookFault}
use Rattle.tl_witness.specs.declared.opening.BookFault.TheVariants.{TwiceNamed, NoTrust, BadName, BadChain, OutOfMemory}
use Rattle.tl_witness.specs.Chain.{first_head, last_head, Follows, IsChain}
use Rattle.tl_witness.specs.Witnessed.{Witnessed}

-- a log that the witness trusts: its origin, the keys of its verifiers, and the key that cosigns for it
pub record Trusted : Type 0 where
  pub origin : Bytes
  pub verifiers : List Key
  pub cosigner : SigningKey

-- a saved chain and its origin
pub record SavedChain : Type 0 where
  pub origin : Bytes
  pub steps : List Step

abbrev pub saved_chain : Bytes → List Step → SavedChain
saved_chain origin steps = record { origin = origin; steps = steps }

-- the origins of trusts, and those of chains
abbrev pub trusted_origins : List Trusted → List Bytes
trusted_origins trusts = map (λ trust. trust.origin) trusts

abbrev pub chain_origins : List SavedChain → List Bytes
chain_origins chains = map (λ chain. chain.origin) chains

-- x is in the list
abbrev pub IsAmong : {A : Type 0} → A → List A → Type 0
IsAmong x [] = ⊥
IsAmong x (y ∷ ys) = (y ≡ x) ⊎ IsAmong x ys

-- some element is in the list twice
abbrev pub HasTwice : {A : Type 0} → List A → Type 0
HasTwice [] = ⊥
HasTwice (x ∷ xs) = IsAmong x xs ⊎ HasTwice xs

-- a key's name and identifier
abbrev pub key_name : Key → Bytes × ℕ
key_name key = (key.name, key.id)

-- no two verifiers have the same name and identifier
abbrev pub HasEachKeyOnce : List Key → Type 0
HasEachKeyOnce keys = ¬ (HasTwice (map key_name keys))

-- no origin is in two trusts or two chains, and no trust has two verifiers of the same name and identifier
pub record AreNamedOnce (trusts : List Trusted) (chains : List SavedChain) : Type 0 where
  pub trusts_once : ¬ (HasTwice (trusted_origins trusts))
  pub chains_once : ¬ (HasTwice (chain_origins chains))
  pub keys_once : All HasEachKeyOnce (map (λ t. t.verifiers) trusts)

-- the first element of which this isn't true is at this position
pub record IsFirstNot {A : Type 0} (IsSo : A → Type 0) (xs : List A) (place : ℕ) : Type 0 where
  pub first : A
  pub there : slice_get xs place ≡ Some first
  pub is_not : ¬ (IsSo first)
  pub before : All IsSo (take place xs)

-- the origin has a trust
abbrev pub IsTrusted : List Trusted → Bytes → Type 0
IsTrusted trusts origin = IsAmong origin (trusted_origins trusts)

-- the names of the cosigners
abbrev pub cosigner_names : List Trusted → List Bytes
cosigner_names trusts = map (λ t. t.cosigner.name) trusts

-- the first step that isn't accepted from the one before is at this position
pub record IsFirstBreak (H : Digest) (steps : List Step) (place : ℕ) : Type 0 where
  pub step : Step
  pub there : slice_get steps place ≡ Some step
  pub before : IsChain H (take place steps)
  pub breaks : ¬ (Follows H (last_head (first_head H) (take place steps)) step)

-- the first chain that breaks is at this position, and its first bad link at that one
pub record IsFirstBroken (H : Digest) (chains : List SavedChain) (place link : ℕ) : Type 0 where
  pub broken : SavedChain
  pub there : slice_get chains place ≡ Some broken
  pub before : All (λ chain. IsChain H chain.steps) (take place chains)
  pub breaks : IsFirstBreak H broken.steps link

-- why a book is not opened: the first of these that applies, or that memory ran out, which needs a trust or a chain
abbrev pub RefusesBook : Digest → List Trusted → List SavedChain → BookFault → Type 0
RefusesBook H trusts chains TwiceNamed = ¬ (AreNamedOnce trusts chains)
RefusesBook H trusts chains (NoTrust place) = AreNamedOnce trusts chains × IsFirstNot (IsTrusted trusts) (chain_origins chains) place
RefusesBook H trusts chains (BadName place) =
    AreNamedOnce trusts chains × All (IsTrusted trusts) (chain_origins chains) × IsFirstNot IsKeyName (cosigner_names trusts) place
RefusesBook H trusts chains (BadChain place link) =
    AreNamedOnce trusts chains × All (IsTrusted trusts) (chain_origins chains) × All IsKeyName (cosigner_names trusts) × IsFirstBroken H chains place link
RefusesBook H trusts chains OutOfMemory = (0 < length trusts) ⊎ (0 < length chains)

-- what is kept for a trust: its chain, or one of no steps if none was saved
pub record IsKept (chains : List SavedChain) (trust : Trusted) (one : Witnessed) : Type 0 where
  pub origin : one.origin ≡ trust.origin
  pub verifiers : one.verifiers ≡ trust.verifiers
  pub cosigner : one.cosigner ≡ trust.cosigner
  pub chain : IsAmong (saved_chain trust.origin one.chain) chains ⊎ (¬ (IsAmong trust.origin (chain_origins chains)) × (one.chain ≡ []))

-- the book has what is kept for each trust, in order
pub record OpensBook (H : Digest) (trusts : List Trusted) (chains : List SavedChain) (book : List Witnessed) : Type 0 where
  pub once : AreNamedOnce trusts chains
  pub trusted : All (IsTrusted trusts) (chain_origins chains)
  pub named : All IsKeyName (cosigner_names trusts)
  pub lawful : All (λ chain. IsChain H chain.steps) chains
  pub kept : AllZip (IsKept chains) trusts book
