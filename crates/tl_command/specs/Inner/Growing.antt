-- The log of an input's lines while the input is read, for the private contracts of the command `head`.
use Rattle.std.specs.Prelude.{◌≡◌, ◌%◌, List, [], ◌++◌, take, All, MatchOption, false, None, Some, Result, Ok, Err, vec_items}
use Rattle.sha2.specs.Sha256.{sha256}
use Rattle.tl_hash.specs.Bytes.{Bytes}
use Rattle.tl_tile.specs.RightEdge.{EdgeContents, IsEdgeOf}
use Rattle.tl_device.specs.Device.{Passage, IsSteady, HasFailed, ReadWhole, ReadPast}
use Rattle.tl_command.specs.Lines.{entries_of, first_too_long, is_too_long, lines_text, HasNoNewline}
use Rattle.tl_run.specs.Run.{most_input}
use Rattle.tl_command.specs.Entries.{ReadTooLong}
use Rattle.tl_command.specs.declared.growing.Growing.{Growing}
use Rattle.tl_run.specs.declared.fault.RunFault.{RunFault}
use Rattle.tl_run.specs.declared.fault.RunFault.TheVariants.{Read, TooLarge, EntryTooLong, OutOfMemory}

-- the edge is that of the lines, or the index of the first line that is too long is noted
abbrev pub IsTold : {A : Type 0} → Growing A → List Bytes → Type 0
IsTold g lines = MatchOption g.too_long ((first_too_long lines ≡ None) × IsEdgeOf g.edge sha256 lines) (λ place. first_too_long lines ≡ Some place)

-- the input so far is whole lines and the beginning of one more, of which only as much is kept as shows that it is
-- too long; the edge is that of the whole lines, unless one of them is too long
pub record IsGrowing {A : Type 0} (g : Growing A) (input : Bytes) : Type 0 where
  pub lines : List Bytes
  pub last : Bytes
  pub whole : input ≡ lines_text lines ++ last
  pub plain : All HasNoNewline lines
  pub last_plain : HasNoNewline last
  pub kept : vec_items g.line ≡ take 65536 last
  pub told : IsTold g lines

-- the state is whole tiles of 256 lines: no line is begun, and none was too long
pub record FillsTiles {A : Type 0} (g : Growing A) : Type 0 where
  pub tiles : g.edge.size % 256 ≡ 0
  pub unbegun : vec_items g.line ≡ []
  pub short : g.too_long ≡ None

-- the bytes are these whole lines, none of which is too long, and then the rest
pub record BeginsWith (bytes : Bytes) (lines : List Bytes) (rest : Bytes) : Type 0 where
  pub whole : bytes ≡ lines_text lines ++ rest
  pub plain : All HasNoNewline lines
  pub short : All (λ text. is_too_long text ≡ false) lines

-- why the edge of these lines isn't known: the first of them that is too long has this index, or memory ran out
abbrev pub IsEdgeFault : List Bytes → RunFault → Type 0
IsEdgeFault lines (EntryTooLong place) = first_too_long lines ≡ Some place
IsEdgeFault lines OutOfMemory = Unit {0}
IsEdgeFault lines fault = ⊥

-- the edge is that of these lines, none of which is too long, or the result has the index of the first that is
abbrev pub IsOutcome : List Bytes → Result EdgeContents RunFault → Type 0
IsOutcome lines (Ok edge) = (first_too_long lines ≡ None) × IsEdgeOf edge sha256 lines
IsOutcome lines (Err fault) = IsEdgeFault lines fault

-- the whole input was read, no entry is too long, and the edge is that of its entries
pub record ReadEdge (p : Passage) (edge : EdgeContents) : Type 0 where
  pub input : Bytes
  pub whole : ReadWhole p most_input input
  pub short : first_too_long (entries_of input) ≡ None
  pub stands : IsEdgeOf edge sha256 (entries_of input)

-- reading the right edge of the log of an input's lines
abbrev pub ReadsEdge : Passage → Result EdgeContents RunFault → Type 0
ReadsEdge p (Ok edge) = ReadEdge p edge
ReadsEdge p (Err Read) = HasFailed p
ReadsEdge p (Err TooLarge) = ReadPast p most_input
ReadsEdge p (Err (EntryTooLong place)) = ReadTooLong p most_input place
ReadsEdge p (Err OutOfMemory) = IsSteady p
ReadsEdge p (Err fault) = ⊥
