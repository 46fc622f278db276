use Rattle.std.proofs.Common.{refl, vec_items}
use Rattle.tl_evidence.proofs.ForkRuns.{part_refused, refused_text}
use Rattle.tl_evidence.proofs.checking.check_under.Goals as goal

pub returns : goal.returns
returns g c =
    part_refused _ c.args.name.now c.as_slice.result.now refused_text _ _ (rw c.as_slice.ensures.value c.in_ok-input.ensures)
    (rw c.in-None.is at c.in-Ok.ensures.answer) refl c.in-Err-print_text-2.ensures.part
