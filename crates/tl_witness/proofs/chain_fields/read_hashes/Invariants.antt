use Rattle.std.proofs.Common.{◌-◌, length}
use Rattle.tl_witness.proofs.HashFields.{HasRead}
use Rattle.tl_witness.proofs.chain_fields.read_hashes.Given as goal

abbrev pub invariant-loop-left : goal.invariant-loop-left
invariant-loop-left g l = HasRead l.count l.text l.hashes.items l.left

abbrev pub decreases-loop-left : goal.decreases-loop-left
decreases-loop-left g l = l.count - length l.hashes.items
