-- Why the state of a witness isn't read. H is the digest function.
use Rattle.std.specs.Prelude.{◌≡◌, ◌≢◌, ℕ, ◌<◌, ◌≤◌, ◌^◌, ◌⊎◌, true, List, [], ◌++◌, Option, IsSomeAnd, length}
use Rattle.std.specs.Io.KnownBytes.{Consumes}
use Rattle.tl_hash.specs.Bytes.{Bytes, Digest}
use Rattle.tl_device.specs.Device.{HasFailed, IsSteady, Passage}
use Rattle.tl_witness.specs.Chain.{Follows, first_head, last_head}
use Rattle.tl_witness.specs.ChainLine.{ChainLine, IsChainLine, chain_line, chain_text, steps_of}
use Rattle.tl_logs.specs.LogsFile.{IsInOneLine, Log}
use Rattle.tl_logs.specs.State.{AreLawful, Counts, counting, of_logs}
use Rattle.tl_logs.specs.declared.state_fault.StateFault.{StateFault}
use Rattle.tl_logs.specs.declared.state_fault.StateFault.TheVariants.{Read, Malformed, Broken, TooLarge, OutOfMemory}

-- the bytes begin with `place` lawful lines, and this is the rest
pub record StandsAt (H : Digest) (counts : Counts) (bytes : Bytes) (place : ℕ) (before : List ChainLine) (rest : Bytes) : Type 0 where
  pub lawful : AreLawful H counts before
  pub count : length before ≡ place
  pub joined : bytes ≡ chain_text before ++ rest

-- after `place` lawful lines more bytes follow, which begin with no line of a link
pub record IsMalformedAt (H : Digest) (counts : Counts) (bytes : Bytes) (place : ℕ) : Type 0 where
  pub before : List ChainLine
  pub rest : Bytes
  pub at : StandsAt H counts bytes place before rest
  pub more : rest ≢ []
  pub no_line : (l : ChainLine) (after : Bytes) → IsChainLine l → rest ≢ chain_line l ++ after

-- after `place` lawful lines follows a line that counts whose link isn't accepted from the one before of its origin
pub record IsBrokenAt (H : Digest) (counts : Counts) (bytes : Bytes) (place : ℕ) : Type 0 where
  pub before : List ChainLine
  pub line : ChainLine
  pub after : Bytes
  pub at : StandsAt H counts bytes place before (chain_line line ++ after)
  pub is_line : IsChainLine line
  pub counted : counts line.origin ≡ true
  pub breaks : ¬ (Follows H (last_head (first_head H) (steps_of line.origin (counting counts before))) line.step)

-- the most bytes that a line may have, 64 MiB; and a state must have fewer than this many
abbrev pub longest_line : ℕ
longest_line = 67108864

abbrev pub most_bytes : ℕ
most_bytes = 2 ^ 62

-- after some lines follows the beginning of a line that is too long; or the state is too long
pub record HasLongLine (bytes : Bytes) : Type 0 where
  pub before : List ChainLine
  pub line : Bytes
  pub after : Bytes
  pub joined : bytes ≡ chain_text before ++ line ++ after
  pub one_line : IsInOneLine line
  pub long : longest_line < length line

abbrev pub IsTooLarge : Bytes → Type 0
IsTooLarge bytes = HasLongLine bytes ⊎ (most_bytes ≤ length bytes)

-- why a state that begins with these bytes isn't read
abbrev pub RefusesBytes : Digest → Counts → Bytes → StateFault → Type 0
RefusesBytes H counts bytes Read = ⊥
RefusesBytes H counts bytes (Malformed place) = IsMalformedAt H counts bytes place
RefusesBytes H counts bytes (Broken place) = IsBrokenAt H counts bytes place
RefusesBytes H counts bytes TooLarge = IsTooLarge bytes
RefusesBytes H counts bytes OutOfMemory = 0 < length bytes

-- the reader gave bytes that are refused for this reason, and no read failed
pub record GaveRefused (H : Digest) (counts : Counts) (p : Passage) (fault : StateFault) : Type 0 where
  pub bytes : Bytes
  pub consumed : Consumes p.old p.new bytes
  pub steady : IsSteady p
  pub refused : RefusesBytes H counts bytes fault

-- a read failed, or what was read is refused
abbrev pub RefusesReading : Digest → Counts → Passage → StateFault → Type 0
RefusesReading H counts p Read = HasFailed p
RefusesReading H counts p fault = GaveRefused H counts p fault

-- why a state isn't read; memory may also run out for a log
abbrev pub RefusesState : Digest → Option (List Log) → Passage → StateFault → Type 0
RefusesState H logs p OutOfMemory = IsSomeAnd logs (λ known. 0 < length known) ⊎ RefusesReading H (of_logs logs) p OutOfMemory
RefusesState H logs p fault = RefusesReading H (of_logs logs) p fault
