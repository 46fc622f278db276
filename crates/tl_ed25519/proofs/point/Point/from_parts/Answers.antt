use Rattle.tl_ed25519.proofs.Points.{at_parts}
use Rattle.tl_ed25519.proofs.point.Point.from_parts.Goals as goal

pub returns : goal.returns
returns c =
    at_parts c.args.a.now c.args.b.now c.args.c.now c.args.half.now c.subtract-e.result c.twice_minus-f.result c.twice_plus-g.result c.add-h.result
    c.multiply-x.result c.multiply-y.result c.multiply-z.result c.multiply-t.result
    c.subtract-e.ensures c.twice_minus-f.ensures c.twice_plus-g.ensures c.add-h.ensures c.multiply-x.ensures c.multiply-y.ensures c.multiply-z.ensures c.multiply-t.ensures
