use Rattle.tl_loop.proofs.Faults.{ends_all}
use Rattle.tl_loop.proofs.laws.first_fault_ends_all.Goals as goal

pub returns : goal.returns
returns g c = λ h fault runs events. ends_all h fault runs events
