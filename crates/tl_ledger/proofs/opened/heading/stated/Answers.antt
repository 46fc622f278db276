use Rattle.std.proofs.Common.{refl, arith}
use Rattle.std.proofs.lemmas.Grind.{common_steps}
use Rattle.tl_ledger.proofs.Naming.{of_note, of_other, of_too_many}
use Rattle.tl_ledger.proofs.opened.heading.stated.Goals as goal

pub returns-then-not-is_named-clause-refused : goal.returns-then-not-is_named-clause-refused
returns-then-not-is_named-clause-refused g c =
    of_other c.args.note.now _ _ c.as_str.result.now c.in-Ok.ensures c.as_str.ensures.value c.if-not-is_named.ensures.1

pub returns-then-checkpoint-gt-MOST_ENTRIES-clause-refused : goal.returns-then-checkpoint-gt-MOST_ENTRIES-clause-refused
returns-then-checkpoint-gt-MOST_ENTRIES-clause-refused g c =
    of_too_many c.args.note.now _ _ c.as_str.result.now c.in-Ok.ensures c.as_str.ensures.value (c.if-not-is_named.ensures.0 refl) (omega (arith, c.if-checkpoint-gt-MOST_ENTRIES.true))

pub returns-clause-states : goal.returns-clause-states
returns-clause-states g c =
    of_note c.args.note.now _ _ c.as_str.result.now c.in-Ok.ensures c.as_str.ensures.value (c.if-not-is_named.ensures.0 refl) _ refl refl

pub returns-clause-limit : goal.returns-clause-limit
returns-clause-limit g c = grind (arith, common_steps)

pub returns-in-Err : goal.returns-in-Err
returns-in-Err g c = grind (arith, common_steps)
