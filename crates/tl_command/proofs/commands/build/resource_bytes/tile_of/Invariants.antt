use Rattle.std.proofs.Common.{◌≡◌, ◌+◌, ◌*◌, drop}
use Rattle.sha2.specs.Sha256.{sha256}
use Rattle.tl_tile.specs.TileText.{level_hashes}
use Rattle.tl_command.proofs.commands.build.resource_bytes.tile_of.Given as goal

-- the hashes so far, and the lines from the next one on
abbrev pub invariant-loop-place : goal.invariant-loop-place
invariant-loop-place g l = record {
  hashes : l.bytes.items ≡ level_hashes sha256 l.fn.tile.level (l.fn.tile.index * 256) l._place l.lines;
  left : l.rest ≡ drop ((l.fn.tile.index * 256 + l._place) * l.count) l.lines;
}
