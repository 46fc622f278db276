use Rattle.std.specs.Global.{Global as GlobalValue}
use Rattle.std.proofs.Common.{subst}
use Rattle.tl_device.specs.Device.{passage}
use Rattle.tl_server.specs.Exchange.{Exchange}
use Rattle.tl_server.specs.Log.{ShelfDecides}
use Rattle.tl_server.specs.Serve.{Serves}
use Rattle.tl_serve.proofs.AtOnce.{shelf_closed, shelf_open}
use Rattle.tl_serve.proofs.resources.OnShelfResources.answer.Goals as goal

pub returns-then-self : goal.returns-then-self
returns-then-self g c =
    shelf_open c.args.self.now.is_open _ _ _ _ _ _ _ c.if-self.true c.serve_open_shelf.result c.serve_open_shelf.ensures.answered

pub returns : goal.returns
returns g c =
    shelf_closed c.args.self.now.is_open _ _ _ _ _ _ _ c.if-self.false c.serve_shelf.result c.outcome_of.result c.outcome_of.ensures
    (subst
    (λ s. Serves (Unit {0}) (Exchange (Unit {0}) (ShelfDecides GlobalValue g.S.Shelf.is_honest (g.S.Shelf.kept s).held (g.S.Shelf.may_fail s))) (passage g.I.Read.remaining c.args.reader.now c.serve_shelf.new.reader) (passage g.O.Write.contents c.args.writer.now c.serve_shelf.new.writer) c.serve_shelf.result)
    c.shelf.ensures
    c.serve_shelf.ensures)
