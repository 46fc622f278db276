use Rattle.std.proofs.Common.{◌∷◌, ◌++◌, [], take, sym, ap, subst, ◌∙◌, arith}
use Rattle.std.proofs.lemmas.Grind.{common_steps}
use Rattle.std.proofs.lemmas.List.Elements.{All-take}
use Rattle.tl_tile.specs.Bundle.{IsShortEntry}
use Rattle.tl_sequencer.specs.Log.{entries_of}
use Rattle.tl_log.specs.Histories.{last_of, last_size}
use Rattle.tl_publisher.specs.Pasts.{Past}
use Rattle.tl_publisher.specs.Stages.{IsNextOf}
use Rattle.tl_publisher.specs.Running.{Running}
use Rattle.tl_publisher.proofs.Runs.{length_history, taken_size, change_for, last_is, shown_running, all_short}
use Rattle.tl_publisher.proofs.run.Run.show.Goals as goal

pub show-requires-clause-room : goal.show-requires-clause-room
show-requires-clause-room g c =
    let own = c.self.invariant in
    let shown = c.head-shown.ensures.shown in
    let size = taken_size c.self.inside.growth.edge.size (entries_of c.self.inside.log) own.within in
    omega (arith, length_history c.self.inside.board.past.log shown.growing, own.growth.started, size, own.within, own.few, c.len-len.ensures.kept.fits)

pub show-requires-clause-change : goal.show-requires-clause-change
show-requires-clause-change g c =
    let own = c.self.invariant in
    let entries = take c.self.inside.growth.edge.size (entries_of c.self.inside.log) in
    let short = All-take IsShortEntry c.self.inside.growth.edge.size (entries_of c.self.inside.log) (all_short (entries_of c.self.inside.log) c.len-len.ensures.kept.short) in
    let follows = subst (λ (r : Running _). IsNextOf (last_of r.past.log) (record { entries = take r.grown (entries_of r.log); note = c.args.note.items })) (sym c.self.view_is) c.requires in
    let made = c.in_ok-change.ensures (last_size c.self.inside.board.past.log) entries own.growth in
    rw c.size-size.ensures (change_for c.self.inside.board.past.log entries c.args.note.items c.in_ok-change.change follows short made)

pub new-requires : goal.new-requires
new-requires g c =
    let own = c.self.invariant in
    let published = c.in_ok-past.ensures.published in
    let within = own.within in
    let size = taken_size c.size-size.result (entries_of c.self.inside.log) (omega (arith, within, c.size-size.ensures)) in
    sym (ap (λ (p : Past). last_size p.log) published.1 ∙ last_is c.self.inside.board.past.log _ _ published.0 ∙ size)

pub invariant_of-self-2 : goal.invariant_of-self-2
invariant_of-self-2 g c =
    let published = c.in_ok-past.ensures.published in
    shown_running c.self.inside.log c.self.inside.growth c.settle.new.self c.self.inside.board c.show.new.self c.in_ok-change.change.face.note c.self.invariant c.settle.ensures.size c.settle.ensures.settled
    (published.0 ∙ ap (λ n. c.self.inside.board.past.log ++ record { entries = take n (entries_of c.self.inside.log); note = c.in_ok-change.change.face.note } ∷ []) c.size-size.ensures)

pub invariant_of-self : goal.invariant_of-self
invariant_of-self g c = grind (arith, common_steps)
