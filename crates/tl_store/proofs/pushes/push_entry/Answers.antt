use Rattle.std.proofs.Common.{vec_capacity, arith}
use Rattle.tl_store.proofs.AddsLemmas.{adds-leaf}
use Rattle.tl_store.proofs.Completed.{one_room}
use Rattle.tl_store.proofs.pushes.push_entry.Goals as goal

pub push_reserved-requires : goal.push_reserved-requires
push_reserved-requires g c =
    omega (arith, c.args.hashes.now.ok.0, c.requires.counted, one_room c.args.size (vec_capacity c.args.hashes.now) c.requires.small c.requires.room)

pub returns-clause-added : goal.returns-clause-added
returns-clause-added g c =
    adds-leaf g.T.TreeHash.digest_of c.args.size c.args.entry.now c.leaf_hash-leaf.result c.args.hashes.now.items c.push_reserved.new.self.items c.push_higher.new.hashes.items
    c.leaf_hash-leaf.ensures c.push_reserved.ensures.items c.push_higher.ensures.counted c.push_higher.ensures.added
