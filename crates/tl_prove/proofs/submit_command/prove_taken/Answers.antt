use Rattle.std.proofs.Common.{}
use Rattle.tl_policy.specs.Terms.{terms_of}
use Rattle.tl_prove.proofs.CommandRuns.{not_taken}
use Rattle.tl_prove.proofs.submit_command.prove_taken.Goals as goal

pub returns : goal.returns
returns g c =
    not_taken (g.S.ResourceSource.may_answer c.args.source.now) (g.S.ResourceSource.may_lack c.args.source.now) (terms_of c.args.policy.now) c.in-Ok.checkpoint c.args.entry.now c.args.index
    c.leaf_hash-leaf.result c.in-Err-prove_found.fault c.in-Ok.ensures c.leaf_hash-leaf.ensures c.in-Err-prove_found.ensures.refused
