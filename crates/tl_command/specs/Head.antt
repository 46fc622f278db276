-- The command `head`: the checkpoint of the log whose entries are the lines of the input.
use Rattle.std.specs.Prelude.{◌≡◌, List, [], length, None, Result, Err}
use Rattle.sha2.specs.Sha256.{sha256}
use Rattle.tl_hash.specs.Bytes.{Bytes}
use Rattle.tl_hash.specs.Tree.{tree_hash}
use Rattle.tl_checkpoint.specs.Checkpoint.{checkpoint_text}
use Rattle.tl_text.specs.Text.{IsOneLine}
use Rattle.tl_device.specs.Device.{Passage, IsUnread, IsUnwritten}
use Rattle.tl_command.specs.Lines.{entries_of, first_too_long}
use Rattle.tl_run.specs.Run.{Output, Prints, PrintsRefusal, Fails, Runs}
use Rattle.tl_command.specs.Entries.{IsEntryFault}
use Rattle.tl_run.specs.declared.fault.RunFault.{RunFault}
use Rattle.tl_run.specs.declared.fault.RunFault.TheVariants.{BadOrigin}

-- the text of the checkpoint of the log of these entries (C2SP tlog-checkpoint), without extensions
abbrev pub head_text : Bytes → List Bytes → Bytes
head_text origin entries =
    checkpoint_text (record { origin = origin; size = length entries; root = tree_hash sha256 entries; extensions = [] })

-- the output for an input: the checkpoint of the log of its lines, or the first line that is too long
abbrev pub HeadComes : Bytes → Bytes → Output → Type 0
HeadComes origin input (Prints text) = (first_too_long (entries_of input) ≡ None) × (text ≡ head_text origin (entries_of input))
HeadComes origin input (PrintsRefusal text) = ⊥
HeadComes origin input (Fails fault) = IsEntryFault (entries_of input) fault

-- a run of `head`: it refuses an origin that isn't one line before anything is read
abbrev pub RunsHead : Bytes → Passage → Passage → Result (Unit {0}) RunFault → Type 0
RunsHead origin i o (Err BadOrigin) = ¬ (IsOneLine origin) × IsUnread i × IsUnwritten o
RunsHead origin i o result = IsOneLine origin × Runs (HeadComes origin) i o result
