-- What a witness that starts has of its state. `H` is the digest function.
use Rattle.std.specs.Prelude.{◌≡◌, ℕ, ◌⊎◌, List, Option, Result, Ok, Err, String, map, vec_items}
use Rattle.std.specs.declared.vec.Vec.{Vec}
use Rattle.tl_hash.specs.Bytes.{Bytes, Digest}
use Rattle.tl_device.specs.Device.{Passage, ReadWhole}
use Rattle.tl_proof.specs.declared.link.Link.{Link}
use Rattle.tl_witness.specs.ChainLine.{IsMalformedAt}
use Rattle.tl_witness.specs.Open.{SavedChain}
use Rattle.tl_witness.specs.ReadChain.{AreChainsOf, BeginsWithLine, chains_shown}
use Rattle.tl_logs.specs.LogsFile.{Log}
use Rattle.tl_logs.specs.State.{KnowsHeads, OriginHead, in_one_step, of_logs}
use Rattle.tl_logs.specs.StateFaults.{RefusesState}
use Rattle.tl_logs.specs.declared.state_fault.StateFault.{StateFault}
use Rattle.tl_run.specs.declared.fault.RunFault.{RunFault}
use Rattle.tl_run.specs.declared.fault.RunFault.TheVariants.{Chain, OutOfMemory}
use Rattle.tl_run.specs.Run.{ReadingFails, most_input}
use Rattle.tl_serve.specs.Knowing.{by_state}

-- for each origin the chains say in one step what the state says that was read, of the origins of these logs or of
-- all
pub record HaveState (H : Digest) (logs : Option (List Log)) (p : Passage) (chains : List SavedChain) : Type 0 where
  pub heads : List OriginHead
  pub known : KnowsHeads H (of_logs logs) p heads
  pub same : chains ≡ map in_one_step heads

-- the chains lack: the state can't be read, for this reason, or memory ran out
abbrev pub LackState : Digest → Option (List Log) → Passage → RunFault → Type 0
LackState H logs p fault = (fault ≡ OutOfMemory) ⊎ ((why : StateFault) × (fault ≡ by_state why) × RefusesState H logs p why)

-- ---- lines that were printed, which are read at once

-- all that the reader gives are lines of links, and these are their chains
pub record HaveLines (p : Passage) (saved : List SavedChain) : Type 0 where
  pub input : Bytes
  pub whole : ReadWhole p most_input input
  pub chains : AreChainsOf input saved

-- what the reader gives isn't lines of links, and the line with this index is the first that is none
pub record LackLine (p : Passage) (place : ℕ) : Type 0 where
  pub input : Bytes
  pub whole : ReadWhole p most_input input
  pub malformed : IsMalformedAt input place

-- the chains of all lines, or why there are none
abbrev pub ReadsLines : {A : Type 0} → Passage → Result (Vec (String A × Vec (Link A) A) A) RunFault → Type 0
ReadsLines p (Ok read) = HaveLines p (chains_shown (vec_items read))
ReadsLines p (Err (Chain place)) = LackLine p place
ReadsLines p (Err OutOfMemory) = ((input : Bytes) × ReadWhole p most_input input × BeginsWithLine input) ⊎ ReadingFails most_input p OutOfMemory
ReadsLines p (Err fault) = ReadingFails most_input p fault
