use Rattle.std.proofs.Common.{◌∙◌, arith, ap, map, refl, string_bytes}
use Rattle.std.proofs.lemmas.Grind.{common_steps}
use Rattle.tl_key.specs.NoteKey.{verifier_key}
use Rattle.tl_fetch.proofs.Policies.{runs_feed}
use Rattle.tl_fetch.proofs.feed.command.run_feed.Goals as goal

pub returns-in_err-log : goal.returns-in_err-log
returns-in_err-log g c = grind (arith, common_steps)

pub returns : goal.returns
returns g c =
    let keys = c.in_ok-log.field-0 in
    runs_feed c.args.options.now _ _ keys.log.key keys.log.other keys.witnesses.items _ _ c.in_ok-log.ensures.named (c.as_str.ensures.value ∙ (c.in_ok-origin.ensures.ok ∙ c.name.ensures)) refl (ap (map verifier_key) c.as_slice.ensures.value) refl c.since_of.ensures refl (ap (map string_bytes) c.as_slice-to.ensures.value)
    c.feed_by.ensures
