use Rattle.tl_prove.specs.Inner.Proving.{head_of}
use Rattle.tl_prove.proofs.Making.{no_proof}
use Rattle.tl_prove.proofs.proving.prove_found.Goals as goal

pub returns-in-Err-clause-refused : goal.returns-in-Err-clause-refused
returns-in-Err-clause-refused g c =
    no_proof (g.S.ResourceSource.may_answer c.args.source.now) (g.S.ResourceSource.may_lack c.args.source.now) (head_of c.args.checkpoint.now) c.head-size.result c.args.found.index c.args.found.leaf c.in-Err.fault c.client_refusal.result c.head-size.ensures c.in-Err.ensures.refused c.client_refusal.ensures.value
