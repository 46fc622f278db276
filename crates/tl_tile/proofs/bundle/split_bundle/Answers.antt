use Rattle.std.proofs.Common.{arith, map, vec_items, subst}
use Rattle.tl_tile.proofs.BundleLemmas.{HasRead, truncated_at, has_read_one, read_whole, not_truncated}
use Rattle.tl_tile.proofs.bundle.split_bundle.Goals as goal

pub loop-preserved : goal.loop-preserved
loop-preserved g c = has_read_one c.args.bytes.now c.loop.counter c.loop.entries.items c.push.new.self.items c.in_ok-entry.entry c.loop.rest.now c.in-Some.entry.now c.in-Some.after.now
    c.loop.invariant c.in-Some.ensures.0 c.in-Some.ensures.1 c.in_ok-entry.ensures.items c.in_ok-push.ensures.items

pub returns : goal.returns
returns g c = read_whole c.args.bytes.now c.args.width (map vec_items c.loop.entries.items) c.loop.rest.now c.requires (subst (λ n. HasRead c.args.bytes.now n (map vec_items c.loop.entries.items) c.loop.rest.now) (omega arith) c.loop.invariant)

pub unreachable-requires : goal.unreachable-requires
unreachable-requires g c =
    not_truncated c.args.bytes.now c.args.width c.requires
    (truncated_at c.args.bytes.now c.args.width (map vec_items c.loop.entries.items) c.loop.rest.now c.loop.invariant.joined c.loop.invariant.short (omega (arith, c.loop.invariant.len)) c.in_default.ensures)
