-- The lengths of the entry bundles of an input's lines while the input is read.
use Rattle.std.specs.Prelude.{◌≡◌, ℕ, ◌+◌, ◌*◌, ◌<◌, List, ◌++◌, length, take, drop, slice_index_or, All, None, Result, Ok, Err, vec_items}
use Rattle.std.specs.declared.vec.Vec.{Vec}
use Rattle.sha2.specs.Sha256.{sha256}
use Rattle.tl_hash.specs.Bytes.{Bytes}
use Rattle.tl_tile.specs.Bundle.{bundle_text}
use Rattle.tl_tile.specs.RightEdge.{EdgeContents, IsEdgeOf}
use Rattle.tl_device.specs.Device.{Passage, ReadWhole}
use Rattle.tl_command.specs.Inner.BundleLengths.{AreBundleLengths}
use Rattle.tl_command.specs.Inner.Growing.{ReadsEdge}
use Rattle.tl_command.specs.Lines.{entries_of, first_too_long, lines_text, HasNoNewline}
use Rattle.tl_run.specs.Run.{most_input}
use Rattle.tl_run.specs.declared.fault.RunFault.{RunFault}
use Rattle.tl_command.specs.declared.growing.measuring.Measuring.{Measuring}

-- the input so far is whole lines and the beginning of one more. Each 256 whole lines are a full bundle, whose length
-- is known; fewer are left, whose bytes are counted with their newlines, as are the bytes of the begun line
pub record IsMeasuring {A : Type 0} (m : Measuring A) (input : Bytes) : Type 0 where
  pub lines : List Bytes
  pub last : Bytes
  pub whole : input ≡ lines_text lines ++ last
  pub plain : All HasNoNewline lines
  pub last_plain : HasNoNewline last
  pub number : length lines ≡ length m.lengths.items * 256 + m.count
  pub few : m.count < 256
  pub each : (index d : ℕ) → index < length m.lengths.items
      → slice_index_or m.lengths.items index d ≡ length (bundle_text (take 256 (drop (index * 256) lines)))
  pub left : m.bytes ≡ length (lines_text (drop (length m.lengths.items * 256) lines))
  pub begun : m.begun ≡ length last

-- the whole input was read, no entry is too long, the edge is that of its entries, and the lengths are those of their
-- bundles
pub record ReadMeasured (p : Passage) (edge : EdgeContents) (sizes : List ℕ) : Type 0 where
  pub input : Bytes
  pub whole : ReadWhole p most_input input
  pub short : first_too_long (entries_of input) ≡ None
  pub stands : IsEdgeOf edge sha256 (entries_of input)
  pub lengths : AreBundleLengths sizes (entries_of input)

-- reading the edge and the lengths
abbrev pub ReadsMeasured : {A : Type 0} → Passage → Result (EdgeContents × Vec ℕ A) RunFault → Type 0
ReadsMeasured p (Ok log) = ReadMeasured p log.0 (vec_items log.1)
ReadsMeasured p (Err fault) = ReadsEdge p (Err fault)
