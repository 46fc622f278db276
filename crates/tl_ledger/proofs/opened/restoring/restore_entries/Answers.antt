use Rattle.tl_ledger.proofs.Reopening.{entries_there}
use Rattle.tl_ledger.proofs.opened.restoring.restore_entries.Goals as goal

pub unreachable-requires-in-Err-Unavailable : goal.unreachable-requires-in-Err-Unavailable
unreachable-requires-in-Err-Unavailable g c =
    entries_there c.args.source.now c.args.head.now.size c.args.head.now.root c.read_entries.new.fetched c.in-Err-Unavailable.field-0 c.requires.small c.requires.part c.requires.all c.in-Err-Unavailable.field-0-is
    c.in-Err-Unavailable.ensures.refused
