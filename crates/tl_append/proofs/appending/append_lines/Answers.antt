use Rattle.std.proofs.Common.{ap}
use Rattle.tl_device.specs.Device.{passage}
use Rattle.tl_append.specs.Appending.{AreBatches}
use Rattle.tl_append.proofs.Loops.{all_left, finished, has_ended, some_left}
use Rattle.tl_append.proofs.appending.append_lines.Goals as goal

pub returns-in-Err-clause-some : goal.returns-in-Err-clause-some
returns-in-Err-clause-some g c =
    some_left (g.K.LogSigner.log_key c.args.key.now) (g.S.Shelf.kept c.args.shelf.now) (g.S.Shelf.kept c.put_lines-put.new.shelf) (g.S.Shelf.kept c.publish_due-shown.new.shelf)
    (g.S.Shelf.trace c.args.shelf.now) (g.S.Shelf.trace c.put_lines-put.new.shelf) (g.S.Shelf.trace c.publish_due-shown.new.shelf) c.args.ledger.now c.put_lines-put.new.ledger (passage g.R.Read.remaining c.args.reader.now c.put_lines-put.new.reader) c.put_lines-put.new.due c.in-Err.ensures.some
    (c.publish_due-shown.ensures.publishes (g.K.LogSigner.log_key c.args.key.now) c.in-Err.ensures.some.signed)

pub returns-in-Ok-shown-clause-all : goal.returns-in-Ok-shown-clause-all
returns-in-Ok-shown-clause-all g c =
    let left = c.in-Ok.ensures.all in
    finished (AreBatches c.args.batching.size) (g.K.LogSigner.log_key c.args.key.now) c.args.batching.keeps_partials (g.S.Shelf.published c.put_lines-put.new.shelf) (g.S.Shelf.published c.publish_due-shown.new.shelf) (g.S.Shelf.kept c.args.shelf.now) (g.S.Shelf.kept c.put_lines-put.new.shelf) (g.S.Shelf.kept c.publish_due-shown.new.shelf)
    (g.S.Shelf.trace c.args.shelf.now) (g.S.Shelf.trace c.put_lines-put.new.shelf) (g.S.Shelf.trace c.publish_due-shown.new.shelf) c.args.ledger.now c.put_lines-put.new.ledger
    (g.W.Write.contents c.args.writer.now.device) (g.W.Write.contents c.put_lines-put.new.writer.device) (g.W.Write.contents c.publish_due-shown.new.writer.device) c.args.writer.now.failed c.put_lines-put.new.writer.failed c.publish_due-shown.new.writer.failed c.put_lines-put.new.due left.so_far
    (c.publish_due-shown.ensures.publishes (g.K.LogSigner.log_key c.args.key.now) left.so_far.signed) (c.in-Ok-shown.ensures.shows (g.K.LogSigner.log_key c.args.key.now) left.so_far.signed) (c.in-Ok-shown.ensures.printed (g.K.LogSigner.log_key c.args.key.now) left.so_far.signed)
    (λ none. (ap g.S.Shelf.kept (c.publish_due-shown.ensures.same none), ap g.S.Shelf.published (c.publish_due-shown.ensures.same none))) c.args.batching.size left.now (passage g.R.Read.remaining c.args.reader.now c.put_lines-put.new.reader) left.so_far.sized left.lines

pub returns-in-Ok-shown-clause-marked : goal.returns-in-Ok-shown-clause-marked
returns-in-Ok-shown-clause-marked g c =
    let left = c.in-Ok.ensures.all in
    (has_ended (AreBatches c.args.batching.size) (g.K.LogSigner.log_key c.args.key.now) c.args.batching.keeps_partials (g.S.Shelf.published c.put_lines-put.new.shelf) (g.S.Shelf.published c.publish_due-shown.new.shelf) (g.S.Shelf.kept c.args.shelf.now) (g.S.Shelf.kept c.put_lines-put.new.shelf) (g.S.Shelf.kept c.publish_due-shown.new.shelf)
    (g.S.Shelf.trace c.args.shelf.now) (g.S.Shelf.trace c.put_lines-put.new.shelf) (g.S.Shelf.trace c.publish_due-shown.new.shelf) c.args.ledger.now c.put_lines-put.new.ledger
    (g.W.Write.contents c.args.writer.now.device) (g.W.Write.contents c.put_lines-put.new.writer.device) (g.W.Write.contents c.publish_due-shown.new.writer.device) c.args.writer.now.failed c.put_lines-put.new.writer.failed c.publish_due-shown.new.writer.failed c.put_lines-put.new.due left.so_far
    (c.publish_due-shown.ensures.publishes (g.K.LogSigner.log_key c.args.key.now) left.so_far.signed) (c.in-Ok-shown.ensures.shows (g.K.LogSigner.log_key c.args.key.now) left.so_far.signed) (c.in-Ok-shown.ensures.printed (g.K.LogSigner.log_key c.args.key.now) left.so_far.signed)
    (λ none. (ap g.S.Shelf.kept (c.publish_due-shown.ensures.same none), ap g.S.Shelf.published (c.publish_due-shown.ensures.same none)))).marked

pub returns-clause-some : goal.returns-clause-some
returns-clause-some g c =
    let left = c.in-Ok.ensures.all in
    some_left (g.K.LogSigner.log_key c.args.key.now) (g.S.Shelf.kept c.args.shelf.now) (g.S.Shelf.kept c.put_lines-put.new.shelf) (g.S.Shelf.kept c.publish_due-shown.new.shelf)
    (g.S.Shelf.trace c.args.shelf.now) (g.S.Shelf.trace c.put_lines-put.new.shelf) (g.S.Shelf.trace c.publish_due-shown.new.shelf) c.args.ledger.now c.put_lines-put.new.ledger (passage g.R.Read.remaining c.args.reader.now c.put_lines-put.new.reader) c.put_lines-put.new.due
    (all_left (g.K.LogSigner.log_key c.args.key.now) c.args.batching.size c.args.batching.keeps_partials c.put_lines-put.new.due (g.S.Shelf.published c.put_lines-put.new.shelf) (g.S.Shelf.kept c.args.shelf.now) (g.S.Shelf.kept c.put_lines-put.new.shelf) (g.S.Shelf.trace c.args.shelf.now) (g.S.Shelf.trace c.put_lines-put.new.shelf) c.args.ledger.now c.put_lines-put.new.ledger (passage g.R.Read.remaining c.args.reader.now c.put_lines-put.new.reader) _ left)
    (c.publish_due-shown.ensures.publishes (g.K.LogSigner.log_key c.args.key.now) left.so_far.signed)
