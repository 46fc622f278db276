use Rattle.std.proofs.Common.{length, get_or, string_bytes, refl, arith}
use Rattle.std.proofs.lemmas.Grind.{common_steps}
use Rattle.std.proofs.lemmas.List.{get_or_default}
use Rattle.std.proofs.lemmas.Option.{slice_get_read}
use Rattle.tl_checkpoint.specs.declared.quorum.Cosigned.{Cosigned}
use Rattle.tl_publisher.proofs.Cosigners.{behind_more}
use Rattle.tl_publisher.proofs.attaching.with_lines.Goals as goal

pub loop-cosigned-preserved : goal.loop-cosigned-preserved
loop-cosigned-preserved c =
    let none : Cosigned = record { line = 0; witness = 0; time = 0 } in
    let index = c.loop-cosigned.cosigned-index in
    let at : Cosigned = get_or c.args.found.now index none in
    let line = c.index-lines-cosigned.result in
    behind_more (string_bytes c.args.note.now) c.args.lines.now c.args.found.now index at line (string_bytes c.loop-cosigned.whole) (string_bytes c.push_to.new.text) c.loop-cosigned-test.true
    (get_or_default c.args.found.now index none at c.loop-cosigned-test.true)
    (slice_get_read c.args.lines.now (length c.args.lines.now) at.line line refl (c.requires index none c.loop-cosigned-test.true) c.index-lines-cosigned.is)
    c.loop-cosigned.invariant c.in_ok-push_to.ensures

pub returns : goal.returns
returns c = grind (arith, common_steps)
