use Rattle.std.proofs.Common.{refl, arith, ◌+◌, map, vec_items}
use Rattle.tl_client.proofs.FourLeaves.{leaf_at, leaves_next, leaves_none}
use Rattle.tl_client.proofs.leaves.check_next.Goals as goal

pub check_place-requires-clause-hash : goal.check_place-requires-clause-hash
check_place-requires-clause-hash g c =
    leaf_at vec_items c.args.entries.now c.args.from c.index-entries-from.result c.deref.result.now c.leaf_hash-hash.result c.requires.below c.index-entries-from.is c.deref.ensures.value c.leaf_hash-hash.ensures

pub returns-clause-leaves : goal.returns-clause-leaves
returns-clause-leaves g c =
    leaves_next c.args.from c.args.from (c.args.from + 1) (map vec_items c.args.entries.now) c.args.leaves.now
    (leaves_none c.args.from c.args.from (map vec_items c.args.entries.now) c.args.leaves.now (omega arith)) c.in_ok-check_place.ensures.leaf refl
