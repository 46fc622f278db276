use Rattle.tl_lanes.proofs.LaneLemmas.{below_four}
use Rattle.tl_lanes.proofs.messages.gather.Goals as goal

pub returns : goal.returns
returns c = below_four _ c.word_from.ensures c.word_from-2.ensures c.word_from-3.ensures c.word_from-4.ensures
