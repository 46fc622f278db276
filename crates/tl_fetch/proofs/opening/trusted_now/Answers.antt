use Rattle.std.proofs.Common.{string_bytes, arith}
use Rattle.std.proofs.lemmas.Grind.{common_steps}
use Rattle.tl_fetch.proofs.Trusts.{note_refused}
use Rattle.tl_fetch.proofs.opening.trusted_now.Goals as goal

pub returns-in-Err-open_trusted-clause-refused : goal.returns-in-Err-open_trusted-clause-refused
returns-in-Err-open_trusted-clause-refused g c =
    note_refused (g.S.ResourceSource.may_answer c.args.source.now) (g.S.ResourceSource.may_lack c.args.source.now) _ c.in-Err-open_trusted.fault
    (string_bytes c.in-Ok.note) c.as_str.result.now c.in-Ok.ensures.text c.as_str.ensures.value c.in-Err-open_trusted.ensures.refused

pub returns-in-Ok-open_trusted-clause-trusted : goal.returns-in-Ok-open_trusted-clause-trusted
returns-in-Ok-open_trusted-clause-trusted g c = grind (arith, common_steps)
