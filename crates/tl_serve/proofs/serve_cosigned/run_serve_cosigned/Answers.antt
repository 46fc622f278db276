use Rattle.std.proofs.Common.{inr, refl, map, ap, arith}
use Rattle.std.proofs.lemmas.Grind.{common_steps}
use Rattle.tl_key.specs.NoteKey.{verifier_key}
use Rattle.tl_serve.proofs.serve_cosigned.run_serve_cosigned.Goals as goal

pub returns-clause-serves : goal.returns-clause-serves
returns-clause-serves g c = inr (
  _,
  record {
    keys = c.in-Ok.ready.witnesses.items;
    spelled = c.in-Ok.ensures.spelled;
    apart = c.in-Ok.ensures.apart;
    witnesses = ap (map verifier_key) c.as_slice.ensures.value;
    need = refl;
    policy = refl;
  },
  c.serve_keyed.ensures.serves,
)

pub shared_whole_as_slice-asker : goal.shared_whole_as_slice-asker
shared_whole_as_slice-asker g c = grind (arith, common_steps)
