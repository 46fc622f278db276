use Rattle.std.proofs.Common.{refl}
use Rattle.tl_policy.proofs.SatisfiedLaws.{group_result}
use Rattle.tl_policy.proofs.satisfied.+satisfied.Goals as goal

pub is_group_satisfied-returns : goal.is_group_satisfied-returns
is_group_satisfied-returns g t c =
    group_result c.args.set.now c.args.groups.now c.args.place c.count_satisfied.result c.index-groups-place.result _ c.requires c.index-groups-place.is
    (rw c.as_slice.ensures.value at c.count_satisfied.ensures) refl
