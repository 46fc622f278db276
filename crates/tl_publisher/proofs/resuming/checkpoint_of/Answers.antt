use Rattle.std.proofs.Common.{not, ap, ◌∙◌, true≢false, arith}
use Rattle.std.proofs.lemmas.Grind.{common_steps}
use Rattle.std.proofs.lemmas.Slice.Eq.{bytes_eq-Decides}
use Rattle.tl_checkpoint.specs.Checkpoint.{head_of}
use Rattle.tl_publisher.proofs.resuming.checkpoint_of.Goals as goal

pub returns-then-ne-clause-refused : goal.returns-then-ne-clause-refused
returns-then-ne-clause-refused g c bundles limit signers lanes capacity readers = (
  head_of c.in-Ok.checkpoint,
  c.in-Ok.ensures,
  (λ same. true≢false (c.if-ne.ensures ∙ ap not ((bytes_eq-Decides c.as_str.result.now c.args.origin.now).1 (c.as_str.ensures.value ∙ same)))),
)

pub returns-in-Err : goal.returns-in-Err
returns-in-Err g c = grind (arith, common_steps)

pub returns-in-Err-OutOfMemory-clause-refused : goal.returns-in-Err-OutOfMemory-clause-refused
returns-in-Err-OutOfMemory-clause-refused g c = grind (arith, common_steps)
