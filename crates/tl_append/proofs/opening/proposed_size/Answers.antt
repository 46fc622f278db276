use Rattle.std.proofs.Common.{refl}
use Rattle.tl_append.proofs.Proposals.{states_size}
use Rattle.tl_append.proofs.opening.proposed_size.Goals as goal

pub returns : goal.returns
returns g c = states_size c.args.note.now _ _ c.as_str.result.now c.in-Ok.ensures c.as_str.ensures.value (c.if-not-is_named.ensures.0 refl)
