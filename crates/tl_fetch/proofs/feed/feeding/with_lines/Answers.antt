use Rattle.std.proofs.Common.{arith}
use Rattle.std.proofs.lemmas.Grind.{common_steps}
use Rattle.tl_fetch.proofs.feed.feeding.with_lines.Goals as goal

pub end_of-end-requires : goal.end_of-end-requires
end_of-end-requires g c = grind (arith, common_steps)

pub loop-start-preserved : goal.loop-start-preserved
loop-start-preserved g c = grind (arith, common_steps)
