use Rattle.std.proofs.Common.{◌-◌, vec_items, vec_len}
use Rattle.tl_device.specs.Device.{passage}
use Rattle.tl_http.specs.Inner.ChunkReads.{CameChunks}
use Rattle.tl_http.proofs.chunks.read_chunks.Given as goal

-- whole chunks came, and the body is their data
abbrev pub invariant-loop-body : goal.invariant-loop-body
invariant-loop-body g l = CameChunks (passage g.I.Read.remaining l.fn.reader l.reader) l.begun l.window (vec_items l.body) l.limit

abbrev pub decreases-loop-body : goal.decreases-loop-body
decreases-loop-body g l = l.limit - vec_len l.body
