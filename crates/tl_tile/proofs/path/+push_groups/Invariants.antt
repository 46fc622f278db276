use Rattle.tl_tile.proofs.path.+push_groups.Given as goal

abbrev pub decreases-push_groups : goal.decreases-push_groups
decreases-push_groups g l = l.n
