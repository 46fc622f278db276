use Rattle.std.proofs.Common.{length}
use Rattle.tl_witness.specs.ByOrigin.{Indexes, index_of}
use Rattle.tl_witness.specs.Open.{chain_origins}
use Rattle.tl_witness.specs.ReadChain.{chains_shown}
use Rattle.tl_witness.proofs.SavedLines.{HasRead}
use Rattle.tl_witness.proofs.chain_reading.read_chain.Given as goal

abbrev pub invariant-loop-left : goal.invariant-loop-left
invariant-loop-left g l = HasRead l.bytes (chains_shown l.chains.items) l.line l.left × Indexes (index_of l.index) (chain_origins (chains_shown l.chains.items))

abbrev pub decreases-loop-left : goal.decreases-loop-left
decreases-loop-left g l = length l.left
