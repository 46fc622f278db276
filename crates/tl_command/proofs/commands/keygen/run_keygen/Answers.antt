use Rattle.std.proofs.Common.{rules, ◌∙◌, refl, arith}
use Rattle.std.proofs.lemmas.Grind.{common_steps}
use Rattle.std.proofs.KnownBytes.{Keeps-refl}
use Rattle.tl_device.specs.Device.{passage}
use Rattle.tl_command.specs.Keygen.{GivesKey}
use Rattle.tl_command.proofs.Failing.{passed_on}
use Rattle.tl_command.proofs.KeyRuns.{gives, gives_part, no_key}
use Rattle.tl_command.proofs.commands.keygen.run_keygen.Goals as goal

pub returns-in-Err : goal.returns-in-Err
returns-in-Err g c =
    gives_part c.args.name.now _ g.K.KeyKind.KIND c.in_ok-key.key _ _ c.as_bytes.result.now c.in-Err.fault c.in_ok-key.ensures c.in_ok-texts.ensures.lawful
    (c.as_bytes.ensures.value ∙ c.in_ok-texts.ensures.verifier) (search rules) c.in-Err.ensures.fault c.in-Err.ensures.part

pub returns : goal.returns
returns g c =
    gives c.args.name.now _ g.K.KeyKind.KIND c.in_ok-key.key _ _ c.as_bytes.result.now c.as_bytes-2.result.now c.print_text-2.result c.in_ok-key.ensures c.in_ok-texts.ensures.lawful
    (c.as_bytes.ensures.value ∙ c.in_ok-texts.ensures.verifier) (c.as_bytes-2.ensures.value ∙ c.in_ok-texts.ensures.private) (search rules)
    c.print_text-2.ensures.whole c.print_text-2.ensures.fault c.print_text-2.ensures.part

pub returns-in_err-key : goal.returns-in_err-key
returns-in_err-key g c =
    passed_on (GivesKey c.args.name.now g.K.KeyKind.KIND (passage g.W.Write.contents c.args.writer.now c.args.writer.now) (passage g.E.Write.contents c.args.errors.now c.args.errors.now))
    c.from_residual.result _ c.from_residual.ensures.1
    (no_key c.args.name.now g.K.KeyKind.KIND (passage g.W.Write.contents c.args.writer.now c.args.writer.now) (passage g.E.Write.contents c.args.errors.now c.args.errors.now) _
    ((Keeps-refl (g.W.Write.contents c.args.writer.now.device), refl), (Keeps-refl (g.E.Write.contents c.args.errors.now.device), refl)) c.in_err-key.ensures)

pub returns-in_err-texts : goal.returns-in_err-texts
returns-in_err-texts g c =
    passed_on (GivesKey c.args.name.now g.K.KeyKind.KIND (passage g.W.Write.contents c.args.writer.now c.args.writer.now) (passage g.E.Write.contents c.args.errors.now c.args.errors.now))
    c.from_residual-in_err-texts.result _ c.from_residual-in_err-texts.ensures.1
    (c.in_ok-key.ensures.1, ((Keeps-refl (g.W.Write.contents c.args.writer.now.device), refl), (Keeps-refl (g.E.Write.contents c.args.errors.now.device), refl)))

pub returns-then-is_err : goal.returns-then-is_err
returns-then-is_err g c = grind (arith, common_steps)
