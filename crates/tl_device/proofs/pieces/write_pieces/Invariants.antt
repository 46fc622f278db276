use Rattle.std.proofs.Common.{take, []}
use Rattle.tl_device.specs.Device.{passage}
use Rattle.tl_device.specs.Inner.Sending.{PutSome}
use Rattle.tl_device.specs.Pieces.{pieces_text}
use Rattle.tl_device.proofs.pieces.write_pieces.Given as goal

-- the first pieces were written, and the end of them is kept
abbrev pub invariant-loop-piece : goal.invariant-loop-piece
invariant-loop-piece g l =
    PutSome (passage g.W.Write.contents l.fn.writer l.writer) [] l.kept.items (pieces_text (λ p. p.now) (take l.piece-index l.pieces))
