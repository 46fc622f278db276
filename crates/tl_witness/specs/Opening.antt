-- The steps of opening a book.
use Rattle.std.specs.Prelude.{◌≡◌, ◌≢◌, ◌⊎◌, ◌<◌, List, [], length}
use Rattle.tl_hash.specs.Bytes.{Bytes, Digest}
use Rattle.tl_proof.specs.Acceptance.{Step}
use Rattle.tl_witness.specs.declared.opening.BookFault.{BookFault}
use Rattle.tl_witness.specs.declared.opening.BookFault.TheVariants.{BadChain, OutOfMemory}
use Rattle.tl_witness.specs.Open.{SavedChain, IsAmong, IsFirstBroken, chain_origins, saved_chain}

-- the first chain that breaks, or that memory ran out, which needs a chain
abbrev pub ChecksChains : Digest → List SavedChain → BookFault → Type 0
ChecksChains H chains (BadChain place link) = IsFirstBroken H chains place link
ChecksChains H chains OutOfMemory = 0 < length chains
ChecksChains H chains _ = ⊥

-- the chain of this origin was taken, or one of no steps if it has none; the others stay
pub record TakesChain (origin : Bytes) (old new : List SavedChain) (taken : List Step) : Type 0 where
  pub same_origins : chain_origins new ≡ chain_origins old
  pub others : (c : SavedChain) → IsAmong c new → c.origin ≢ origin → IsAmong c old
  pub chain : IsAmong (saved_chain origin taken) old ⊎ (¬ (IsAmong origin (chain_origins old)) × (taken ≡ []))
