-- What reading saved links answers.
use Rattle.std.specs.Prelude.{◌≡◌, List, ◌++◌, map, string_bytes, vec_items, String, Result, Ok, Err}
use Rattle.std.specs.declared.vec.Vec.{Vec}
use Rattle.tl_hash.specs.Bytes.{Bytes}
use Rattle.tl_proof.specs.declared.link.Link.{Link}
use Rattle.tl_proof.specs.Acceptance.{Step, step_of}
use Rattle.tl_witness.specs.declared.chain_reading.ChainFault.{ChainFault}
use Rattle.tl_witness.specs.declared.chain_reading.ChainFault.TheVariants.{Malformed, OutOfMemory}
use Rattle.tl_witness.specs.declared.chain_fields.Fields.{Fields}
use Rattle.tl_witness.specs.ChainLine.{ChainLine, IsChainLine, IsChainText, IsMalformedAt, chain_line, chains}
use Rattle.tl_witness.specs.ChainFields.{AreHashes, chain_words}
use Rattle.tl_witness.specs.Open.{SavedChain, saved_chain}

-- what saved links state, whatever their allocator
abbrev pub chains_shown : {A : Type 0} → List (String A × Vec (Link A) A) → List SavedChain
chains_shown saved = map (λ c. saved_chain (string_bytes c.0) (map step_of (vec_items c.1))) saved

-- the bytes are lines, and these are their chains
pub record AreChainsOf (bytes : Bytes) (saved : List SavedChain) : Type 0 where
  pub lines : List ChainLine
  pub text : IsChainText bytes lines
  pub same : saved ≡ chains lines

-- the bytes begin with the line of a link
abbrev pub BeginsWithLine : Bytes → Type 0
BeginsWithLine bytes = (l : ChainLine) × (after : Bytes) × IsChainLine l × (bytes ≡ chain_line l ++ after)

-- the chains of the lines that the bytes are, or the first line that is malformed; memory is allocated only for the
-- line of a link
abbrev pub ReadsChain : {A : Type 0} → Bytes → Result (Vec (String A × Vec (Link A) A) A) ChainFault → Type 0
ReadsChain bytes (Ok read) = AreChainsOf bytes (chains_shown (vec_items read))
ReadsChain bytes (Err (Malformed place)) = IsMalformedAt bytes place
ReadsChain bytes (Err OutOfMemory) = BeginsWithLine bytes

-- these are the words of the line of this step of this origin
pub record IsLineOf (words origin : Bytes) (step : Step) : Type 0 where
  pub lawful : IsChainLine (record { origin = origin; step = step })
  pub spelled : words ≡ chain_words (record { origin = origin; step = step })

-- the words have these fields, whatever the hashes are
pub record ShowsFields (words : Bytes) (fields : Fields) : Type 0 where
  pub proof : List Bytes
  pub hashes : AreHashes fields.count fields.hashes.now proof fields.origin.now
  pub line : IsLineOf words fields.origin.now (record { size = fields.size; root = fields.root; proof = proof })
