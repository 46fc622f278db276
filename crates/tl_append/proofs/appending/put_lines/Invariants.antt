use Rattle.std.specs.Prelude.{◌≡◌, ◌<◌, ◌^◌, ◌⊎◌, None}
use Rattle.tl_device.specs.Device.{passage}
use Rattle.tl_append.specs.Appending.{course}
use Rattle.tl_append.proofs.Loops.{AreFull, IsTold}
use Rattle.tl_append.proofs.appending.put_lines.Given as goal

-- the lines so far were appended, and all batches but the last are published
abbrev pub invariant-loop-turn : goal.invariant-loop-turn
invariant-loop-turn g l = record {
  told : IsTold (AreFull l.batching.size) (g.K.LogSigner.log_key l.key) l.batching.keeps_partials l.is_first l.due (g.S.Shelf.published l.shelf) (course g.S.Shelf.kept g.S.Shelf.trace l.fn.shelf l.shelf l.fn.ledger l.ledger)
      (passage g.R.Read.remaining l.fn.reader l.reader) (passage g.W.Write.contents l.fn.writer l.writer) l.lines;
  small : (l.due ≡ None) ⊎ (l.ledger.edge.size < 2 ^ 32);
  place : g.S.Shelf.place l.shelf ≡ g.S.Shelf.place l.fn.shelf;
}
