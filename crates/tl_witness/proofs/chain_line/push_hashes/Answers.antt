use Rattle.std.proofs.Common.{arith}
use Rattle.std.proofs.lemmas.Grind.{common_steps}
use Rattle.tl_witness.proofs.chain_line.push_hashes.Goals as goal

pub invariant_of-encode_string-in-loop-hash : goal.invariant_of-encode_string-in-loop-hash
invariant_of-encode_string-in-loop-hash g c = grind (arith, common_steps)

pub loop-hash-preserved : goal.loop-hash-preserved
loop-hash-preserved g c = grind (arith, common_steps)
