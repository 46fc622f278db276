use Rattle.std.specs.Prelude.{option_map}
use Rattle.tl_fetch.specs.Inner.Judging.{two_of}
use Rattle.tl_fetch.proofs.JudgingLemmas.{uncompared}
use Rattle.tl_fetch.proofs.Passages.{still}
use Rattle.tl_fetch.proofs.judging.judge_older.Goals as goal

pub returns-in-Err : goal.returns-in-Err
returns-in-Err g c =
    let step = c.args.step.now in
    uncompared (g.S.ResourceSource.may_answer c.args.source.now) (g.S.ResourceSource.may_lack c.args.source.now) (two_of (option_map (λ s. s.now) step.last) step.old.now step.note.now step.new.now)
    c.older-in-Err.result _ c.in-Err.field-0 c.older-in-Err.ensures c.requires c.in-Err.ensures.refused (still _ _)
