use Rattle.std.proofs.Common.{inr, string_bytes, arith}
use Rattle.std.proofs.lemmas.Grind.{common_steps}
use Rattle.tl_ledger.specs.Opening.{found_size}
use Rattle.tl_tile.specs.declared.resource.Resource.TheVariants as resource
use Rattle.tl_append.proofs.Proposals.{newer_shown, own_newer}
use Rattle.tl_append.proofs.opening.open_newest.Goals as goal

pub returns-in-Ok-open_note-clause-due : goal.returns-in-Ok-open_note-clause-due
returns-in-Ok-open_note-clause-due g c = λ due.
    inr (own_newer (g.P.ProposalStore.may_have c.args.store.now) _ c.size.result string_bytes c.in-Ok-Some.field-0 c.in-Ok-Some.note c.as_str.result.now c.open_note.new.found.head
    c.in-Ok-Some.ensures c.in-Ok-Some.field-0-is c.as_str.ensures.value c.in-Ok-open_note.ensures.stated)

pub returns-in-Ok-open_note-clause-shown : goal.returns-in-Ok-open_note-clause-shown
returns-in-Ok-open_note-clause-shown g c = λ honest.
    newer_shown ((g.S.Shelf.kept c.args.shelf.now).held resource.Checkpoint) (g.P.ProposalStore.may_have c.args.store.now) _ c.size.result string_bytes c.in-Ok-Some.field-0
    c.in-Ok-Some.note c.as_str.result.now (found_size c.open_shown.new.found.head) c.open_note.new.found.head c.in-Ok-Some.ensures c.in-Ok-Some.field-0-is c.as_str.ensures.value
    c.in-Ok-open_note.ensures.stated (omega (arith, c.size.ensures, c.in-Ok.ensures.opens.sized)) (c.in-Ok.ensures.shown honest)

pub returns-in-Ok-None-clause-due : goal.returns-in-Ok-None-clause-due
returns-in-Ok-None-clause-due g c = grind (arith, common_steps)

pub returns-in-Ok-open_note-clause-newest : goal.returns-in-Ok-open_note-clause-newest
returns-in-Ok-open_note-clause-newest g c = grind (arith, common_steps)

pub returns-in-Ok-open_note-clause-there : goal.returns-in-Ok-open_note-clause-there
returns-in-Ok-open_note-clause-there g c = grind (arith, common_steps)
