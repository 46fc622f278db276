use Rattle.std.proofs.Common.{◌≡◌, length, map, take}
use Rattle.tl_command.specs.Inner.Growing.{BeginsWith}
use Rattle.tl_command.proofs.whole_lines.cut_tile.Given as goal

-- the lines so far stand at the beginning of the piece, and the rest follows them
abbrev pub invariant-loop-place : goal.invariant-loop-place
invariant-loop-place l = record {
  count : length l.lines ≡ 256;
  begins : BeginsWith l.fn.piece (take l.place (map (λ line. line.now) l.lines)) l.rest;
}
