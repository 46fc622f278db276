use Rattle.std.proofs.Common.{◌++◌, ap, refl}
use Rattle.tl_hash.specs.Bytes.{Bytes}
use Rattle.tl_fetch.proofs.JudgingLemmas.{some_after, whole_after}
use Rattle.tl_fetch.proofs.judging.print_evidence.Goals as goal

pub returns-in-Ok-clause-printed : goal.returns-in-Ok-clause-printed
returns-in-Ok-clause-printed g c =
    whole_after c.as_bytes.result.now (c.as_bytes-2.result.now ++ c.args.shown.now) c.args.last.now (c.args.note.now ++ c.args.shown.now) _ _
    (record { bytes = refl; failed = refl }) c.in_ok-print_text.ensures.whole c.as_bytes.ensures.value (ap (λ (t : Bytes). t ++ c.args.shown.now) c.as_bytes-2.ensures.value)
    c.in-Ok.ensures.printed

pub returns-in-Err-clause-part : goal.returns-in-Err-clause-part
returns-in-Err-clause-part g c =
    some_after c.as_bytes.result.now (c.as_bytes-2.result.now ++ c.args.shown.now) c.args.last.now (c.args.note.now ++ c.args.shown.now) _ _
    (record { bytes = refl; failed = refl }) c.in_ok-print_text.ensures.whole c.as_bytes.ensures.value (ap (λ (t : Bytes). t ++ c.args.shown.now) c.as_bytes-2.ensures.value)
    c.in-Err.ensures.part
