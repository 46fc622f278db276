use Rattle.std.proofs.Common.{arith}
use Rattle.std.proofs.lemmas.Grind.{common_steps}
use Rattle.std.specs.Prelude.{bit_xor}
use Rattle.tl_key.proofs.KeyLemmas.{written}
use Rattle.tl_key.proofs.keyed_hash.padded.Goals as goal

pub loop-byte-preserved : goal.loop-byte-preserved
loop-byte-preserved c = written (λ byte. bit_xor byte c.args.pad) c.loop-byte.byte-items c.block_of-block.result c.loop-byte.byte-index (omega (arith, c.block_of-block.ensures.length, c.loop-byte-test.true)) c.loop-byte.invariant

pub returns : goal.returns
returns c = grind (arith, common_steps)
