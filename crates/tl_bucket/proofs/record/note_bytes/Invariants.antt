use Rattle.std.proofs.Common.{◌≡◌, ◌++◌, take}
use Rattle.tl_folder.specs.Events.{noted}
use Rattle.tl_bucket.proofs.record.note_bytes.Given as goal

-- the first bytes were noted
abbrev pub invariant-loop-byte : goal.invariant-loop-byte
invariant-loop-byte l = noted l.note ≡ noted l.fn.note ++ take l.byte-index l.bytes
