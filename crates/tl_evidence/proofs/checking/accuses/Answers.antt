use Rattle.std.proofs.Common.{◌∙◌, ap, map, vec_items}
use Rattle.tl_command.proofs.CountedLines.{entries_plain}
use Rattle.tl_evidence.proofs.Verdicts.{no_text_lines}
use Rattle.tl_evidence.proofs.checking.accuses.Goals as goal

pub is_evidence-requires-clause-plain : goal.is_evidence-requires-clause-plain
is_evidence-requires-clause-plain g c =
    let found = rw c.in-Ok-Some.field-0-is at c.in-Ok-Some.ensures.lines in
    rw (ap (map vec_items) c.as_slice.ensures.value ∙ found.0) (entries_plain c.args.text.now)

pub returns-in-Ok-None : goal.returns-in-Ok-None
returns-in-Ok-None g c = no_text_lines _ c.args.name.now c.args.text.now (rw c.in-Ok-None.field-0-is at c.in-Ok-None.ensures.lines)
