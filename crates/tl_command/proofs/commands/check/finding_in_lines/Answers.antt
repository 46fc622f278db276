use Rattle.std.proofs.Common.{arith}
use Rattle.std.proofs.lemmas.Grind.{common_steps}
use Rattle.tl_command.specs.ProofText.{Included, Consistent}
use Rattle.tl_command.specs.ProofShown.{consistency_shown}
use Rattle.tl_command.specs.ProofShown.{inclusion_shown}
use Rattle.tl_command.proofs.commands.check.finding_in_lines.Goals as goal

pub returns-in-Some-clause-answer : goal.returns-in-Some-clause-answer
returns-in-Some-clause-answer g c =
    let read = rw c.in-Some.is at c.in_ok-p.ensures.proof in
    record { proof = Included (inclusion_shown c.in-Some.p); lawful = read.0; spelled = read.1; finding = c.inclusion_finding.ensures }

pub returns-in-Some-2-clause-answer : goal.returns-in-Some-2-clause-answer
returns-in-Some-2-clause-answer g c =
    let read = rw c.in-Some-2.is at c.in_ok-p-2.ensures.proof in
    record { proof = Consistent (consistency_shown c.in-Some-2.p); lawful = read.0; spelled = read.1; finding = c.consistency_finding.ensures }

pub returns-in-None-clause-answer : goal.returns-in-None-clause-answer
returns-in-None-clause-answer g c = grind (arith, common_steps)
