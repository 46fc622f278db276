-- The state of a witness: the lines of the links that it saved, what a start learns from them, and what they become
-- by compacting (C2SP tlog-witness, "add-checkpoint"; the lines are a format of this project). H is the digest
-- function.
use Rattle.std.specs.Prelude.{◌≡◌, Bool, true, List, [], ◌∷◌, All, Option, Some, None, filter, map}
use Rattle.std.specs.Io.KnownBytes.{Consumes, IsAtEnd}
use Rattle.tl_hash.specs.Bytes.{Bytes, Digest}
use Rattle.tl_proof.specs.Acceptance.{Step, step_to}
use Rattle.tl_device.specs.Device.{Passage, IsSteady}
use Rattle.tl_witness.specs.Chain.{IsChain, TreeHead, first_head, last_head}
use Rattle.tl_witness.specs.ChainLine.{ChainLine, IsChainLine, IsChainText, chain_text, chains}
use Rattle.tl_witness.specs.Open.{SavedChain, saved_chain}
use Rattle.tl_logs.specs.LogsFile.{Log}
use Rattle.tl_logs.specs.ReadLogs.{is_origin_of}

-- ---- what is known of an origin

-- an origin, and the tree head that its links lead to
pub record OriginHead : Type 0 where
  pub origin : Bytes
  pub head : TreeHead

abbrev pub origin_head : Bytes → TreeHead → OriginHead
origin_head origin head = record { origin = origin; head = head }

-- the head that the steps of a chain lead to
abbrev pub end_of : Digest → SavedChain → OriginHead
end_of H c = origin_head c.origin (last_head (first_head H) c.steps)

-- the one step from size 0 to this tree head, without a proof
abbrev pub whole_step : TreeHead → Step
whole_step head = step_to head.size head.root []

-- the chain of that step
abbrev pub in_one_step : OriginHead → SavedChain
in_one_step o = saved_chain o.origin (whole_step o.head ∷ [])

-- the line of that step
abbrev pub whole_line : OriginHead → ChainLine
whole_line o = record { origin = o.origin; step = whole_step o.head }

-- ---- whose lines count

-- whether the lines of an origin count
abbrev pub Counts : Type 0
Counts = Bytes → Bool

-- the origins of these logs count, or all origins
abbrev pub of_logs : Option (List Log) → Counts
of_logs None origin = true
of_logs (Some known) origin = is_origin_of known origin

-- the lines that count, in order
abbrev pub counting : Counts → List ChainLine → List ChainLine
counting counts lines = filter (λ l. counts l.origin) lines

-- each line is that of a link, and for each origin that counts each link is accepted from the one before
pub record AreLawful (H : Digest) (counts : Counts) (lines : List ChainLine) : Type 0 where
  pub each : All IsChainLine lines
  pub linked : All (λ c. IsChain H c.steps) (chains (counting counts lines))

-- ---- the whole of a state

-- the reader gave these lines and came to its end, and no read failed
pub record GaveLines (p : Passage) (lines : List ChainLine) : Type 0 where
  pub consumed : Consumes p.old p.new (chain_text lines)
  pub ended : IsAtEnd p.new
  pub steady : IsSteady p

-- A state was read, and these are the heads of the origins that count, in the order of their first lines. The one
-- step to each head has a line.
pub record KnowsHeads (H : Digest) (counts : Counts) (p : Passage) (heads : List OriginHead) : Type 0 where
  pub lines : List ChainLine
  pub gave : GaveLines p lines
  pub lawful : AreLawful H counts lines
  pub same : heads ≡ map (end_of H) (chains (counting counts lines))
  pub written : All (λ o. IsChainLine (whole_line o)) heads

-- a state was read, and these bytes have one line for each of its origins, which leads to the same head
pub record IsCompacted (H : Digest) (p : Passage) (bytes : Bytes) : Type 0 where
  pub lines : List ChainLine
  pub gave : GaveLines p lines
  pub lawful : AreLawful H (of_logs None) lines
  pub short : List ChainLine
  pub text : IsChainText bytes short
  pub same : chains short ≡ map (λ c. in_one_step (end_of H c)) (chains lines)
