use Rattle.std.proofs.Common.{take}
use Rattle.tl_ledger.specs.Inner.Reads.{LacksItem, items_of}
use Rattle.tl_ledger.proofs.opened.shelf_source.text_in.Given as goal

abbrev pub invariant-loop-item : goal.invariant-loop-item
invariant-loop-item g l = LacksItem (items_of (take l.item-index l.items)) l.resource
