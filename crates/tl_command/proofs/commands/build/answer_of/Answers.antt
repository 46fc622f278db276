use Rattle.std.proofs.Common.{refl, ap, ◌∙◌, length, Some, arith}
use Rattle.std.proofs.lemmas.Grind.{common_steps}
use Rattle.tl_run.specs.Signing.{checkpoint_note}
use Rattle.tl_command.specs.Mirror.{mirrored}
use Rattle.tl_command.proofs.Wanted.{not_served, wanted_served, answers_some}
use Rattle.tl_command.proofs.commands.build.answer_of.Goals as goal

pub returns-then-not-has_resource : goal.returns-then-not-has_resource
returns-then-not-has_resource g c =
    let same = c.as_slice.ensures.value ∙ c.in_ok-resources.ensures ∙ ap mirrored c.count.ensures.count in
    not_served c.as_slice.result.now (length c.args.lines.now) (Some c.args.wanted) c.has_resource.result same c.has_resource.ensures c.if-not-has_resource.true

pub wanted_bytes-requires-clause-served : goal.wanted_bytes-requires-clause-served
wanted_bytes-requires-clause-served g c = λ lives bounds.
    let same = c.as_slice.ensures.value ∙ c.in_ok-resources.ensures ∙ ap mirrored c.count.ensures.count in
    wanted_served c.as_slice.result.now (length c.args.lines.now) (Some c.args.wanted) c.has_resource.result c.args.wanted same c.has_resource.ensures c.if-not-has_resource.false refl

pub returns : goal.returns
returns g c =
    let lines = c.args.lines.now in
    let same = c.as_slice.ensures.value ∙ c.in_ok-resources.ensures ∙ ap mirrored c.count.ensures.count in
    let has = wanted_served c.as_slice.result.now (length lines) (Some c.args.wanted) c.has_resource.result c.args.wanted same c.has_resource.ensures c.if-not-has_resource.false refl in
    answers_some g.row.A.Denot (checkpoint_note (g.K.LogSigner.log_key c.args.key.now) lines) _ lines (length lines) (Some c.args.wanted) c.args.wanted c.wanted_bytes.result refl refl refl
    has c.wanted_bytes.ensures.text c.wanted_bytes.ensures.fault

pub wanted_bytes-requires-clause-few : goal.wanted_bytes-requires-clause-few
wanted_bytes-requires-clause-few g c = grind (arith, common_steps)
