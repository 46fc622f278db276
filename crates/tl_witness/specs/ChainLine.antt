-- The lines of links that a witness saved (a format of this project).
use Rattle.std.specs.Prelude.{◌≡◌, ◌≢◌, ℕ, ◌≤◌, not, List, [], ◌∷◌, ◌++◌, length, All, map, filter, IsUtf8, bytes_eq}
use Rattle.std.specs.List.{flat_map}
use Rattle.tl_hash.specs.Bytes.{Bytes, IsHash}
use Rattle.tl_text.specs.Text.{line, number_text, base64_text, IsSize, IsOneLine}
use Rattle.tl_proof.specs.Acceptance.{Step}
use Rattle.tl_witness.specs.Open.{SavedChain, saved_chain}

-- a step of an origin's chain
pub record ChainLine : Type 0 where
  pub origin : Bytes
  pub step : Step

-- this step of this origin can be written as a line
pub record IsChainLine (l : ChainLine) : Type 0 where
  pub origin : IsOneLine l.origin
  pub utf8 : IsUtf8 l.origin
  pub size : IsSize l.step.size
  pub root : IsHash l.step.root
  pub few : length l.step.proof ≤ 63
  pub hashes : All IsHash l.step.proof

-- the hashes, each after a space
abbrev pub spaced_hashes : List Bytes → Bytes
spaced_hashes hashes = flat_map (λ hash. 32 ∷ base64_text hash) hashes

-- the size, the root, the number of hashes, the hashes, and the origin up to the end of the line
abbrev pub chain_line : ChainLine → Bytes
chain_line l =
    line (number_text l.step.size ++ 32 ∷ base64_text l.step.root ++ 32 ∷ number_text (length l.step.proof) ++ spaced_hashes l.step.proof ++ 32 ∷ l.origin)

-- the lines, one after another
abbrev pub chain_text : List ChainLine → Bytes
chain_text lines = flat_map chain_line lines

-- the bytes are these lines
pub record IsChainText (bytes : Bytes) (lines : List ChainLine) : Type 0 where
  pub each : All IsChainLine lines
  pub spelled : bytes ≡ chain_text lines

-- the bytes begin with `place` well-formed lines, and more bytes follow that begin with no such line
pub record IsMalformedAt (bytes : Bytes) (place : ℕ) : Type 0 where
  pub before : List ChainLine
  pub rest : Bytes
  pub each : All IsChainLine before
  pub count : length before ≡ place
  pub joined : bytes ≡ chain_text before ++ rest
  pub more : rest ≢ []
  pub no_line : (l : ChainLine) (after : Bytes) → IsChainLine l → rest ≢ chain_line l ++ after

-- the list without this origin
abbrev pub without : Bytes → List Bytes → List Bytes
without origin others = filter (λ other. not (bytes_eq origin other)) others

-- the origins in the order of their first lines
abbrev pub origins : List ChainLine → List Bytes
origins [] = []
origins (first ∷ lines) = first.origin ∷ without first.origin (origins lines)

-- the steps of one origin, in order
abbrev pub steps_of : Bytes → List ChainLine → List Step
steps_of origin lines = map (λ l. l.step) (filter (λ l. bytes_eq l.origin origin) lines)

-- each origin with its steps
abbrev pub chains : List ChainLine → List SavedChain
chains lines = map (λ origin. saved_chain origin (steps_of origin lines)) (origins lines)
