-- What reading one line of a state answers.
use Rattle.std.specs.Prelude.{◌≢◌, ⊤, Result, Ok, Err, String, string_bytes}
use Rattle.tl_hash.specs.Bytes.{Bytes}
use Rattle.tl_proof.specs.declared.link.Link.{Link}
use Rattle.tl_proof.specs.Acceptance.{step_of}
use Rattle.tl_witness.specs.ChainFields.{chain_words}
use Rattle.tl_witness.specs.ChainLine.{ChainLine, IsChainLine}
use Rattle.tl_witness.specs.ReadChain.{IsLineOf}
use Rattle.tl_witness.specs.declared.chain_reading.ChainFault.{ChainFault}
use Rattle.tl_witness.specs.declared.chain_reading.ChainFault.TheVariants.{Malformed, OutOfMemory}

-- the origin and link whose line has these words, or that no line has them
abbrev pub ReadsLink : {A : Type 0} → Bytes → Result (String A × Link A) ChainFault → Type 0
ReadsLink words (Ok (origin, link)) = IsLineOf words (string_bytes origin) (step_of link)
ReadsLink words (Err (Malformed place)) = (l : ChainLine) → IsChainLine l → words ≢ chain_words l
ReadsLink words (Err OutOfMemory) = ⊤
