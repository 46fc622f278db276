use Rattle.sha2.specs.Sha256.{sha256}
use Rattle.tl_ledger.proofs.Reopening.{edge_in_range, edge_there}
use Rattle.tl_ledger.proofs.opened.restoring.restore_edge.Goals as goal

pub unreachable-requires : goal.unreachable-requires
unreachable-requires g c =
    edge_in_range sha256 _ c.args.head.now.size c.args.head.now.root c.restore.new.fetched c.in-Err-OutOfRange.field-0 c.requires.small c.in-Err-OutOfRange.field-0-is c.in-Err-OutOfRange.ensures.faults

pub unreachable-requires-in-Err-Source : goal.unreachable-requires-in-Err-Source
unreachable-requires-in-Err-Source g c =
    edge_there sha256 c.args.source.now c.args.head.now.size c.args.head.now.root c.restore.new.fetched c.in-Err-Source.field-0 c.requires.small c.requires.all c.in-Err-Source.field-0-is c.in-Err-Source.ensures.faults
