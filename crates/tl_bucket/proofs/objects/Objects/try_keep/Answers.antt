use Rattle.std.proofs.Common.{option_map, vec_items}
use Rattle.tl_bucket.specs.Inner.Puts.{shown_of}
use Rattle.tl_bucket.proofs.Settled.{keeps_bundle}
use Rattle.tl_bucket.proofs.objects.Objects.try_keep.Goals as goal

pub returns-in_ok-add-in-Entries : goal.returns-in_ok-add-in-Entries
returns-in_ok-add-in-Entries g c =
    keeps_bundle c.wait.result c.args.self.now c.wait.new.self c.self.inside.client c.self.inside.staged.items (option_map vec_items c.self.inside.note) (option_map shown_of c.self.inside.shown) c.self.inside.claims c.add.new.self
    c.in_ok-staged.staged c.args.resource.now c.in-Entries.index c.in-Entries.width c.args.bytes.now c.self.view_is c.in-Entries.is c.in_ok-staged.ensures c.in_ok-add-in-Entries.ensures.added c.wait.ensures
