use Rattle.std.proofs.Common.{◌≡◌, ◌+◌, ◌-◌, ◌∙◌, length, vec_capacity, ap, [], arith}
use Rattle.std.proofs.lemmas.List.{get_or_default, length-append}
use Rattle.tl_store.specs.Stored.{stored_count}
use Rattle.tl_store.proofs.QuadLemmas.{quad_room, three_counted, adds-quad}
use Rattle.tl_store.proofs.quads.push_quad.Goals as goal

pub push_known-requires : goal.push_known-requires
push_known-requires g c =
    omega (arith, c.args.hashes.now.ok.0, c.requires.counted, ap length c.of-quad.ensures, quad_room c.args.size (vec_capacity c.args.hashes.now) c.requires.whole c.requires.small c.requires.room)

pub push_higher-requires-clause-counted : goal.push_higher-requires-clause-counted
push_higher-requires-clause-counted g c =
    let before : c.args.size + 4 - 1 ≡ c.args.size + 3 = omega arith in
    omega (arith, ap length c.push_known.ensures.items, length-append c.args.hashes.now.items c.of-quad.result, ap length c.of-quad.ensures, c.requires.counted, three_counted c.args.size c.requires.whole, ap stored_count before)

pub returns-clause-added : goal.returns-clause-added
returns-clause-added g c entries four stored =
    adds-quad g.T.TreeHash.digest_of c.args.size entries c.of-quad.result c.args.hashes.now.items c.push_known.new.hashes.items c.push_higher.new.hashes.items _
    four c.requires.whole (c.of-quad.ensures ∙ stored) c.push_known.ensures.items
    (get_or_default c.of-quad.result 6 c.index-quad-6.result [] (omega (arith, ap length c.of-quad.ensures)))
    c.push_higher.ensures.counted c.push_higher.ensures.added
