use Rattle.std.proofs.Common.{◌∙◌}
use Rattle.tl_server.proofs.OpenLemmas.{index_takes}
use Rattle.tl_server.proofs.course.answer_index.Goals as goal

pub returns : goal.returns
returns g c =
    index_takes c.args.index c.as_bytes-text.result.now _ c.send.result c.outcome_of.result (c.as_bytes-text.ensures.value ∙ c.format.ensures.text) c.send.ensures c.outcome_of.ensures
