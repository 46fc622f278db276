use Rattle.std.proofs.Common.{take}
use Rattle.tl_sequencer.specs.Log.{entries_of}
use Rattle.tl_publisher.proofs.board_writer.BoardWriter.show_log.Given as goal

-- the beginning of the log, with the note of the change
abbrev pub ghosts-show_change : goal.ghosts-show_change
ghosts-show_change g a = record { next = record { entries = take a._size (entries_of a._log.now); note = a.change.face.note } }
