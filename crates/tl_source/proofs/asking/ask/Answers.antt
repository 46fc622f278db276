use Rattle.std.proofs.Common.{◌∙◌}
use Rattle.tl_source.proofs.Askings.{given_body}
use Rattle.tl_source.proofs.asking.ask.Goals as goal

pub returns-in-Ok-ask_for : goal.returns-in-Ok-ask_for
returns-in-Ok-ask_for g c =
    given_body _ _ _ _ _ _ _ c.front_of.ensures (c.as_str.ensures.value ∙ c.in-Ok.ensures) c.most_bytes-most.ensures c.in-Ok-ask_for.ensures
