use Rattle.tl_append.proofs.ShownBatch.{is_note_of}
use Rattle.tl_append.proofs.sealed_shelf.sealed_note.Goals as goal

pub returns-in-Ok-seal-clause-note : goal.returns-in-Ok-seal-clause-note
returns-in-Ok-seal-clause-note g c =
    is_note_of (g.K.LogSigner.log_key c.args.key.now) c.args.ledger.now c.size-size.result c.root-root.result _ c.in-Ok-seal.ensures.lines.0 _
    c.size-size.ensures c.root-root.ensures c.in-Ok.ensures.note c.in-Ok-seal.ensures.lines.1
