use Rattle.std.proofs.Common.{arith, Some, None}
use Rattle.std.proofs.lemmas.Grind.{common_steps}
use Rattle.std.proofs.lemmas.Str.Pattern.{find_char}
use Rattle.tl_source.proofs.Cuts.{lacks_all, lacks_before}
use Rattle.tl_source.proofs.url.cut_at.Goals as goal

pub returns-in-Some-clause-front : goal.returns-in-Some-clause-front
returns-in-Some-clause-front c =
    let found = find_char c.args.mark c.args.text.now (Some c.in-Some.place) c.in-Some.ensures.cases c.requires in
    lacks_before c.args.mark c.in-Some.place c.args.text.now c.split_at.result.0.now c.split_at.ensures.front (omega (arith, found.0)) found.2

pub returns-in-None-clause-front : goal.returns-in-None-clause-front
returns-in-None-clause-front c = lacks_all c.args.mark c.args.text.now (find_char c.args.mark c.args.text.now None c.in-None.ensures.cases c.requires)

pub returns-in-Some-clause-joined : goal.returns-in-Some-clause-joined
returns-in-Some-clause-joined c = grind (arith, common_steps)

pub returns-in-Some-clause-rest : goal.returns-in-Some-clause-rest
returns-in-Some-clause-rest c = grind (arith, common_steps)
