use Rattle.std.proofs.Common.{◌+◌, ◌∙◌, ap, arith, vec_items}
use Rattle.tl_evidence.specs.Inner.Cutting.{signature_length}
use Rattle.tl_evidence.proofs.Cuts.{note_more, rest_shown}
use Rattle.tl_evidence.proofs.cutting.note_length.Goals as goal

pub returns-clause-length : goal.returns-clause-length
returns-clause-length g c =
    note_more c.args.lines.now c.text_length-text.result c.signature_length.result c.text_length-text.ensures.length
    (omega (arith, c.text_length-text.ensures.within, c.if-text-lines.false))
    (c.signature_length.ensures.length ∙ ap signature_length (rest_shown vec_items (c.text_length-text.result + 1) c.args.lines.now))
