use Rattle.std.proofs.Common.{refl}
use Rattle.tl_lanes.proofs.LaneLemmas.{below_four}
use Rattle.tl_lanes.proofs.quad.splat.Goals as goal

pub returns : goal.returns
returns c = below_four _ refl refl refl refl
