use Rattle.tl_command.specs.Lines.{entries_of}
use Rattle.tl_command.proofs.Counting.{edge_memory}
use Rattle.tl_command.proofs.log_lines.LogLines.root.Goals as goal

pub only_memory-requires : goal.only_memory-requires
only_memory-requires g c = edge_memory (entries_of c.self.inside.marked.text.now) c.in-Err.fault c.self.invariant.short c.in-Err.ensures
