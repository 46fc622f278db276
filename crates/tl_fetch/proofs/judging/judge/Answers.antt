use Rattle.std.specs.Prelude.{option_map}
use Rattle.tl_fetch.specs.Inner.Judging.{two_of}
use Rattle.tl_fetch.proofs.JudgingLemmas.{unjudged}
use Rattle.tl_fetch.proofs.Passages.{still}
use Rattle.tl_fetch.proofs.judging.judge.Goals as goal

pub returns-in-Err-clause-refused : goal.returns-in-Err-clause-refused
returns-in-Err-clause-refused g c =
    let step = c.args.step.now in
    unjudged (g.S.ResourceSource.may_answer c.args.source.now) (g.S.ResourceSource.may_lack c.args.source.now) (two_of (option_map (λ s. s.now) step.last) step.old.now step.note.now step.new.now)
    c.client_refusal.result _ c.in-Err.fault c.client_refusal.ensures.value c.if-step.false c.in-Err.ensures.refused (still _ _)
