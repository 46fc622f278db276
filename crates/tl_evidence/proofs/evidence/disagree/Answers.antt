use Rattle.std.proofs.Common.{map, vec_items}
use Rattle.tl_checkpoint.specs.Checkpoint.{head_of}
use Rattle.tl_command.specs.ProofShown.{consistency_shown}
use Rattle.tl_evidence.proofs.Verdicts.{for_other, for_proof, some_lines}
use Rattle.tl_evidence.proofs.evidence.disagree.Goals as goal

pub returns-in-Ok-Some : goal.returns-in-Ok-Some
returns-in-Ok-Some c =
    let read = rw c.in-Ok-Some.field-0-is at c.in-Ok-Some.ensures.proof in
    for_proof (head_of c.args.a.now) (head_of c.args.b.now) (map vec_items c.args.lines.now) (consistency_shown c.in-Ok-Some.proof) c.leads_between.result c.requires
    read.0 read.1 c.leads_between.ensures

pub returns-in-Ok-None : goal.returns-in-Ok-None
returns-in-Ok-None c =
    for_other (head_of c.args.a.now) (head_of c.args.b.now) (map vec_items c.args.lines.now) (some_lines c.args.lines.now c.is_empty.result c.is_empty.ensures c.if-is_empty.false) c.requires
    (rw c.in-Ok-None.field-0-is at c.in-Ok-None.ensures.proof)
