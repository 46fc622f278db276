use Rattle.tl_loop.proofs.Ordered.{in_order}
use Rattle.tl_loop.proofs.laws.steps_come_in_order.Goals as goal

pub returns : goal.returns
returns g c = λ h owed begins events. in_order h owed begins events
