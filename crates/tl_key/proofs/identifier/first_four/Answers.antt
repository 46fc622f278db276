use Rattle.tl_key.proofs.KeyLemmas.{id_of_digest}
use Rattle.tl_key.proofs.identifier.first_four.Goals as goal

pub returns : goal.returns
returns c = id_of_digest c.as_bytes.result.now c.args.hash c.from_be_bytes.result c.as_bytes.ensures.value c.from_be_bytes.ensures
