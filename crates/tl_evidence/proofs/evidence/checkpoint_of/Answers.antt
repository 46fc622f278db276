use Rattle.std.proofs.Common.{◌∙◌, sym}
use Rattle.tl_evidence.proofs.Verdicts.{named_of}
use Rattle.tl_evidence.proofs.evidence.checkpoint_of.Goals as goal

pub returns-in-Ok-Some : goal.returns-in-Ok-Some
returns-in-Ok-Some g c =
    rw (sym (c.as_slice.ensures.value ∙ c.in_ok-bytes.ensures))
    (named_of _ _ c.args.name.now c.as_slice.result.now c.in-Ok-Some.checkpoint c.named.result (rw c.in-Ok-Some.field-0-is at c.in-Ok-Some.ensures) c.named.ensures)

pub returns-in-Ok-None : goal.returns-in-Ok-None
returns-in-Ok-None g c =
    rw (sym (c.as_slice.ensures.value ∙ c.in_ok-bytes.ensures)) (λ head is. (rw c.in-Ok-None.field-0-is at c.in-Ok-None.ensures) head is.signed)
