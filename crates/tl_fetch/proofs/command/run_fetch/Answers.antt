use Rattle.std.proofs.Common.{◌∙◌, arith, ap, map, refl}
use Rattle.std.proofs.lemmas.Grind.{common_steps}
use Rattle.tl_key.specs.NoteKey.{verifier_key}
use Rattle.tl_fetch.proofs.Policies.{runs_fetch}
use Rattle.tl_fetch.proofs.command.run_fetch.Goals as goal

pub returns-in_err-log : goal.returns-in_err-log
returns-in_err-log g c = grind (arith, common_steps)

pub returns : goal.returns
returns g c =
    let keys = c.in_ok-log.field-0 in
    runs_fetch c.args.options.now _ keys.log.key keys.log.other keys.witnesses.items _ _ c.in_ok-log.ensures.named (c.as_str.ensures.value ∙ (c.in_ok-origin.ensures.ok ∙ c.name.ensures)) refl (ap (map verifier_key) c.as_slice.ensures.value) refl c.since_of.ensures refl
    c.fetch_by.ensures
