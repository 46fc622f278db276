use Rattle.tl_ed25519.proofs.Points.{at_cached}
use Rattle.tl_ed25519.proofs.point.Point.add_cached.Goals as goal

pub returns : goal.returns
returns c = λ q e.
    at_cached c.self.inside.x c.self.inside.y c.self.inside.z c.self.inside.t c.other.inside.less c.other.inside.more c.other.inside.z c.other.inside.t
    c.subtract-less.result c.relax.result c.multiply-a.result c.add-more.result c.relax-2.result c.multiply-b.result c.multiply-c.result c.multiply-half.result
    c.args.self.now q c.from_parts.result c.args.other.now c.self.view_is c.other.view_is e
    c.subtract-less.ensures c.relax.ensures c.multiply-a.ensures c.add-more.ensures c.relax-2.ensures c.multiply-b.ensures c.multiply-c.ensures c.multiply-half.ensures
    c.from_parts.ensures
