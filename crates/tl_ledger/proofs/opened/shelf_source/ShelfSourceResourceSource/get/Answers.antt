use Rattle.std.proofs.Common.{arith}
use Rattle.std.proofs.lemmas.Grind.{common_steps}
use Rattle.tl_ledger.proofs.opened.shelf_source.ShelfSourceResourceSource.get.Goals as goal

pub returns-in_ok-from_slice-in-Some-clause-text : goal.returns-in_ok-from_slice-in-Some-clause-text
returns-in_ok-from_slice-in-Some-clause-text g c = grind (arith, common_steps)
