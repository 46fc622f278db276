use Rattle.std.specs.Prelude.{codes}
use Rattle.tl_logs.proofs.ListingLaws.{begins_with}
use Rattle.tl_logs.proofs.reading.is_list.Goals as goal

pub returns : goal.returns
returns c =
    rw (c.eq.ensures, c.as_slice.ensures) (begins_with c.args.bytes.now c.cut_line.result.0.now c.cut_line.result.1.now (codes "logs/v0") c.cut_line.ensures)
