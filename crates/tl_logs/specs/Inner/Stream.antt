-- The steps of reading the state of a witness. H is the digest function.
use Rattle.std.specs.Prelude.{◌≡◌, ℕ, ◌⊎◌, true, false, List, ◌++◌, ⊤, All, Result, Ok, Err, length, map}
use Rattle.tl_hash.specs.Bytes.{Bytes, Digest}
use Rattle.tl_proof.specs.Acceptance.{Step}
use Rattle.tl_witness.specs.ChainLine.{ChainLine, IsChainLine, chain_text, chains}
use Rattle.tl_logs.specs.LogsFile.{IsInOneLine}
use Rattle.tl_logs.specs.State.{AreLawful, Counts, OriginHead, counting, end_of, whole_line}
use Rattle.tl_logs.specs.StateFaults.{RefusesBytes}
use Rattle.tl_logs.specs.Inner.Heads.{AddsHead, BreaksHead, MovesHead}
use Rattle.tl_logs.specs.declared.taking.LinkFault.{LinkFault}
use Rattle.tl_logs.specs.declared.taking.LinkFault.TheVariants as fault
use Rattle.tl_logs.specs.declared.state_fault.StateFault.{StateFault}
use Rattle.tl_logs.specs.declared.state_fault.StateFault.TheVariants.{Broken, OutOfMemory}

-- what was read so far: the heads that the counting lines lead to, the number of lines, and the bytes of the next
-- line that have come
pub record SoFar : Type 0 where
  pub heads : List OriginHead
  pub line : ℕ
  pub begun : Bytes

-- this input was read, and s is what was read so far
pub record HasRead (H : Digest) (counts : Counts) (s : SoFar) (input : Bytes) : Type 0 where
  pub lines : List ChainLine
  pub lawful : AreLawful H counts lines
  pub same : s.heads ≡ map (end_of H) (chains (counting counts lines))
  pub written : All (λ o. IsChainLine (whole_line o)) s.heads
  pub count : length lines ≡ s.line
  pub joined : input ≡ chain_text lines ++ s.begun
  pub one_line : IsInOneLine s.begun

-- the input with these bytes is what was read so far; or the input with these bytes and those after is refused
abbrev pub TakesBytes : Digest → Counts → SoFar → Bytes → Bytes → Bytes → Result (Unit {0}) StateFault → Type 0
TakesBytes H counts new input taken after (Ok done) = HasRead H counts new (input ++ taken)
TakesBytes H counts new input taken after (Err fault) = RefusesBytes H counts (input ++ taken ++ after) fault

-- some of these bytes are read, and the rest is left
pub record TookSome (H : Digest) (counts : Counts) (new : SoFar) (input bytes rest : Bytes) : Type 0 where
  pub taken : Bytes
  pub cut : bytes ≡ taken ++ rest
  pub read : HasRead H counts new (input ++ taken)

-- a link is taken as the last one of its origin, if that origin counts
abbrev pub KeepsLink : Digest → Counts → Bytes → Step → SoFar → SoFar → Result (Unit {0}) StateFault → Type 0
KeepsLink H counts origin step old new (Ok done) =
    ((counts origin ≡ false) × (new.heads ≡ old.heads))
    ⊎ ((counts origin ≡ true) × (MovesHead H origin step old.heads new.heads ⊎ AddsHead H origin step old.heads new.heads))
KeepsLink H counts origin step old new (Err (Broken place)) = (place ≡ old.line) × (counts origin ≡ true) × BreaksHead H origin step old.heads
KeepsLink H counts origin step old new (Err OutOfMemory) = ⊤
KeepsLink H counts origin step old new (Err fault) = ⊥

-- the outcome of a link that is taken or not, at this line
abbrev pub link_outcome : Result (Unit {0}) LinkFault → ℕ → Result (Unit {0}) StateFault
link_outcome (Ok done) line = Ok done
link_outcome (Err fault.Broken) line = Err (Broken line)
link_outcome (Err fault.OutOfMemory) line = Err OutOfMemory
