use Rattle.std.proofs.Common.{string_bytes, vec_items, inl}
use Rattle.tl_prove.specs.Inner.Proving.{checkpoint_of}
use Rattle.tl_prove.proofs.Making.{not_found, not_made, proves}
use Rattle.tl_prove.proofs.proving.prove.Goals as goal

pub returns-in-Err-clause-refused : goal.returns-in-Err-clause-refused
returns-in-Err-clause-refused g c = inl c.in-Err.ensures

pub returns-in-Err-find-clause-refused : goal.returns-in-Err-find-clause-refused
returns-in-Err-find-clause-refused g c =
    let t = c.in-Ok.checkpoint in
    not_found _ _ _ (string_bytes t.note) (checkpoint_of t) t.trusted.log (vec_items t.trusted.times) c.in-Ok.ensures _ c.in-Err-find.fault c.head.result c.head.ensures c.in-Err-find.ensures

pub returns-in-Ok-prove_found-clause-proof : goal.returns-in-Ok-prove_found-clause-proof
returns-in-Ok-prove_found-clause-proof g c =
    let t = c.in-Ok.checkpoint in
    proves (g.S.ResourceSource.may_answer c.args.source.now) (g.S.ResourceSource.may_lack c.args.source.now) _ (string_bytes t.note) (checkpoint_of t) t.trusted.log (vec_items t.trusted.times) c.in-Ok.ensures _ _ _ _ _ c.head.result c.head.ensures c.in-Ok-find.ensures c.in-Ok-prove_found.ensures.proof

pub returns-clause-refused : goal.returns-clause-refused
returns-clause-refused g c =
    let t = c.in-Ok.checkpoint in
    not_made _ _ _ (string_bytes t.note) (checkpoint_of t) t.trusted.log (vec_items t.trusted.times) c.in-Ok.ensures _ c.in-Err-prove_found.fault _ _ c.in-Err-prove_found.ensures.refused
