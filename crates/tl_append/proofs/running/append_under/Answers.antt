use Rattle.std.proofs.Common.{inl, inr}
use Rattle.tl_device.specs.Device.{passage}
use Rattle.tl_append.specs.Keys.{log_key_of}
use Rattle.tl_append.proofs.Runs.{marks_last, part_run, stayed, whole_run}
use Rattle.tl_append.proofs.running.append_under.Goals as goal

pub returns-in-Err-clause-goes_on : goal.returns-in-Err-clause-goes_on
returns-in-Err-clause-goes_on g c = inl (stayed (g.S.Shelf.kept c.args.shelf.now) (g.S.Shelf.trace c.args.shelf.now) (g.R.Read.remaining c.args.reader.now.device) c.args.reader.now.failed)

pub returns-in-Err-check_asked-clause-goes_on : goal.returns-in-Err-check_asked-clause-goes_on
returns-in-Err-check_asked-clause-goes_on g c = inl (stayed (g.S.Shelf.kept c.args.shelf.now) (g.S.Shelf.trace c.args.shelf.now) (g.R.Read.remaining c.args.reader.now.device) c.args.reader.now.failed)

pub returns-in-Ok-append_lines-clause-goes_on : goal.returns-in-Ok-append_lines-clause-goes_on
returns-in-Ok-append_lines-clause-goes_on g c =
    whole_run (log_key_of c.args.keys.signer) _ c.open_ledger.new.found (g.S.Shelf.kept c.args.shelf.now) (g.S.Shelf.kept c.append_lines.new.shelf) (g.S.Shelf.trace c.args.shelf.now) (g.S.Shelf.trace c.append_lines.new.shelf) c.in-Ok.opened.ledger c.append_lines.new.ledger c.in-Ok.ensures.opens
    (passage g.R.Read.remaining c.args.reader.now c.append_lines.new.reader) (passage g.W.Write.contents c.args.writer.now c.append_lines.new.writer) _ c.batch_size-size.result c.args.options.now.keeps_partials c.batch_size-size.ensures.size c.in-Ok-append_lines.ensures.all

pub returns-clause-goes_on : goal.returns-clause-goes_on
returns-clause-goes_on g c =
    inr (part_run (log_key_of c.args.keys.signer) _ c.open_ledger.new.found (g.S.Shelf.kept c.args.shelf.now) (g.S.Shelf.kept c.append_lines.new.shelf) (g.S.Shelf.trace c.args.shelf.now) (g.S.Shelf.trace c.append_lines.new.shelf) c.in-Ok.opened.ledger c.append_lines.new.ledger c.in-Ok.ensures.opens
    (passage g.R.Read.remaining c.args.reader.now c.append_lines.new.reader) c.in-Err-append_lines.ensures.some)

pub returns-in-Err-clause-left : goal.returns-in-Err-clause-left
returns-in-Err-clause-left g c = inr (stayed (g.S.Shelf.kept c.args.shelf.now) (g.S.Shelf.trace c.args.shelf.now) (g.R.Read.remaining c.args.reader.now.device) c.args.reader.now.failed)

pub returns-in-Err-check_asked-clause-left : goal.returns-in-Err-check_asked-clause-left
returns-in-Err-check_asked-clause-left g c = inr (stayed (g.S.Shelf.kept c.args.shelf.now) (g.S.Shelf.trace c.args.shelf.now) (g.R.Read.remaining c.args.reader.now.device) c.args.reader.now.failed)

pub returns-in-Err-clause-newest : goal.returns-in-Err-clause-newest
returns-in-Err-clause-newest g c = inl (stayed (g.S.Shelf.kept c.args.shelf.now) (g.S.Shelf.trace c.args.shelf.now) (g.R.Read.remaining c.args.reader.now.device) c.args.reader.now.failed)

pub returns-in-Err-check_asked-clause-newest : goal.returns-in-Err-check_asked-clause-newest
returns-in-Err-check_asked-clause-newest g c = inl (stayed (g.S.Shelf.kept c.args.shelf.now) (g.S.Shelf.trace c.args.shelf.now) (g.R.Read.remaining c.args.reader.now.device) c.args.reader.now.failed)

pub returns-in-Ok-append_lines-clause-newest : goal.returns-in-Ok-append_lines-clause-newest
returns-in-Ok-append_lines-clause-newest g c = inr c.in-Ok.ensures.newest

pub returns-clause-newest : goal.returns-clause-newest
returns-clause-newest g c = inr c.in-Ok.ensures.newest

pub returns-in-Ok-append_lines-clause-marked : goal.returns-in-Ok-append_lines-clause-marked
returns-in-Ok-append_lines-clause-marked g c =
    marks_last (log_key_of c.args.keys.signer) _ c.open_ledger.new.found (g.S.Shelf.kept c.args.shelf.now) (g.S.Shelf.kept c.append_lines.new.shelf) (g.S.Shelf.trace c.args.shelf.now) (g.S.Shelf.trace c.append_lines.new.shelf) c.in-Ok.opened.ledger c.append_lines.new.ledger c.in-Ok.ensures.opens
    (passage g.R.Read.remaining c.args.reader.now c.append_lines.new.reader) (passage g.W.Write.contents c.args.writer.now c.append_lines.new.writer) c.batch_size-size.result c.args.options.now.keeps_partials (g.S.Shelf.published c.append_lines.new.shelf) c.in-Ok-append_lines.ensures.marked c.in-Ok-append_lines.ensures.all
