use Rattle.std.proofs.Common.{arith}
use Rattle.std.proofs.lemmas.Grind.{common_steps}
use Rattle.std.specs.Prelude.{string_bytes}
use Rattle.tl_key.proofs.Written.{signer_written}
use Rattle.tl_key.proofs.signer.write_signer_key.Goals as goal

pub returns-clause-lawful : goal.returns-clause-lawful
returns-clause-lawful g c =
    signer_written g.K.KeyKind.KIND c.KIND.result c.key.inside.id (string_bytes c.key.inside.name) c.as_str.result.now (string_bytes c.in_ok-text.text) (string_bytes c.push_str.new.self) c.key.inside.secret c.seed.result.now (string_bytes c.push_tail.new.text) c.args.key.now
    c.key.view_is c.key.invariant c.KIND.ensures c.seed.ensures c.push_tail.ensures.fit c.as_str.ensures.value c.in_ok-text.ensures.ok c.in_ok-push_str.ensures.bytes c.in_ok-push_tail.ensures.text

pub returns-clause-text : goal.returns-clause-text
returns-clause-text g c = grind (arith, common_steps)
