use Rattle.std.proofs.Common.{option_map, vec_items}
use Rattle.tl_bucket.specs.Inner.Puts.{shown_of}
use Rattle.tl_bucket.proofs.Settled.{waits}
use Rattle.tl_bucket.proofs.objects.Objects.wait.Goals as goal

pub returns : goal.returns
returns g c =
    waits c.args.self.now c.self.inside.client c.self.inside.staged.items c.push.new.self.items (option_map vec_items c.self.inside.note) (option_map shown_of c.self.inside.shown) c.self.inside.claims c.args.staged c.self.view_is
    c.in_ok-push.ensures.items
