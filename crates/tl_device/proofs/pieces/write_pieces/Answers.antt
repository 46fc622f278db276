use Rattle.std.proofs.Common.{Bor, List, ℕ, arith}
use Rattle.std.proofs.lemmas.Grind.{common_steps}
use Rattle.tl_device.proofs.SendingLemmas.{part_of_pieces, more_pieces, part_of_kept}
use Rattle.tl_device.proofs.OutcomeLemmas.{on_err, always_err}
use Rattle.tl_device.proofs.pieces.write_pieces.Goals as goal

pub returns-in_err-put-clause-part : goal.returns-in_err-put-clause-part
returns-in_err-put-clause-part g c =
    always_err c.from_residual.result
    (part_of_pieces (λ (p : Bor (List ℕ)). p.now) c.args.pieces.now c.loop-piece.piece-index _ _ _ _ _ _ _ _ c.loop-piece-test.true c.loop-piece.invariant c.in_err-put.ensures.part)

pub loop-piece-preserved : goal.loop-piece-preserved
loop-piece-preserved g c =
    more_pieces (λ (p : Bor (List ℕ)). p.now) c.args.pieces.now c.loop-piece.piece-index _ _ _ _ _ _ _ _ _ c.loop-piece-test.true c.loop-piece.invariant c.in_ok-put.ensures.some

pub returns-clause-part : goal.returns-clause-part
returns-clause-part g c =
    let part = rw c.as_slice.ensures.value at c.write_whole.ensures.part in
    on_err c.write_whole.result
    (λ part. part_of_kept (λ (p : Bor (List ℕ)). p.now) c.args.pieces.now c.loop-piece.piece-index _ _ _ _ _ _ _ c.loop-piece-test.false c.loop-piece.invariant part) part

pub returns-clause-whole : goal.returns-clause-whole
returns-clause-whole g c = grind (arith, common_steps)
