use Rattle.std.proofs.Common.{◌+◌, ◌≤◌, vec_items, vec_len}
use Rattle.tl_device.specs.Device.{passage}
use Rattle.tl_http.specs.Inner.ChunkReads.{CameData}
use Rattle.tl_http.proofs.chunks.read_data.Given as goal

-- the data so far stand behind the body, and there is room for what is left
abbrev pub invariant-loop-left : goal.invariant-loop-left
invariant-loop-left g l = record {
  room : vec_len l.body + l.left ≤ l.most;
  came : CameData (passage g.I.Read.remaining l.fn.reader l.reader) l.fn.window l.window (vec_items l.fn.body) (vec_items l.body) l.size l.left;
}

abbrev pub decreases-loop-left : goal.decreases-loop-left
decreases-loop-left g l = l.left
