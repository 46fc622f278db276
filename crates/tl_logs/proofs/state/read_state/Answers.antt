use Rattle.tl_logs.specs.Inner.Counting.{counts_of}
use Rattle.tl_logs.proofs.CompactLaws.{reads_state}
use Rattle.tl_logs.proofs.state.read_state.Goals as goal

pub returns : goal.returns
returns g c =
    reads_state g.T.TreeHash.digest_of _ (counts_of c.in_ok-counting.counting) _ c.read_counting.result c.in_ok-counting.ensures.counts c.read_counting.ensures.heads c.read_counting.ensures.refused
