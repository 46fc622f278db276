use Rattle.tl_ed25519.proofs.Points.{at_double}
use Rattle.tl_ed25519.proofs.point.Point.double.Goals as goal

pub returns : goal.returns
returns c =
    at_double c.self.inside.x c.self.inside.y c.self.inside.z c.self.inside.t
    c.subtract-less.result c.square-a.result c.add-more.result c.square-b.result
    c.twice_curve_d-constant.result c.square-square_t.result c.multiply-c.result c.square-half.result
    c.args.self.now c.from_parts.result c.self.view_is
    c.subtract-less.ensures c.square-a.ensures c.add-more.ensures c.square-b.ensures
    c.twice_curve_d-constant.ensures c.square-square_t.ensures c.multiply-c.ensures c.square-half.ensures c.from_parts.ensures
