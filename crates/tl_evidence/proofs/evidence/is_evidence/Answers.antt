use Rattle.std.proofs.Common.{map, vec_items}
use Rattle.tl_evidence.proofs.Verdicts.{judged_all, no_first, no_second, plain_rest}
use Rattle.tl_evidence.proofs.evidence.is_evidence.Goals as goal

pub returns-in-Ok-None : goal.returns-in-Ok-None
returns-in-Ok-None g c =
    no_first _ c.args.name.now (map vec_items c.args.lines.now) (map vec_items c.split_note.result.0.now) c.requires.named c.requires.plain c.split_note.ensures.note (rw c.in-Ok-None.field-0-is at c.in-Ok-None.ensures)

pub returns-in-Ok-None-checkpoint_of : goal.returns-in-Ok-None-checkpoint_of
returns-in-Ok-None-checkpoint_of g c =
    no_second _ c.args.name.now (map vec_items c.args.lines.now) (map vec_items c.split_note.result.1.now) (map vec_items c.split_note-2.result.0.now) c.requires.named c.requires.plain
    c.split_note.ensures.rest c.split_note-2.ensures.note (rw c.in-Ok-None-checkpoint_of.field-0-is at c.in-Ok-None-checkpoint_of.ensures)

pub disagree-requires : goal.disagree-requires
disagree-requires g c = plain_rest (map vec_items c.args.lines.now) _ _ _ _ c.requires.plain c.split_note.ensures.rest c.split_note-2.ensures.rest

pub returns : goal.returns
returns g c =
    judged_all _ c.args.name.now (map vec_items c.args.lines.now) (map vec_items c.split_note.result.0.now) (map vec_items c.split_note.result.1.now)
    (map vec_items c.split_note-2.result.0.now) (map vec_items c.split_note-2.result.1.now) _ _ c.disagree.result c.requires.named c.requires.plain
    (record { first_is = c.split_note.ensures.note; rest_is = c.split_note.ensures.rest; second_is = c.split_note-2.ensures.note; proof_is = c.split_note-2.ensures.rest })
    (rw c.in-Ok-Some.field-0-is at c.in-Ok-Some.ensures) (rw c.in-Ok-Some-checkpoint_of.field-0-is at c.in-Ok-Some-checkpoint_of.ensures) c.disagree.ensures
