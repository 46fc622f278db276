use Rattle.std.proofs.Common.{rules}
use Rattle.tl_checkpoint.specs.Checkpoint.{head_of}
use Rattle.tl_fetch.proofs.FreshLemmas.{not_fresh}
use Rattle.tl_fetch.proofs.opening.open_trusted.Goals as goal

pub returns-in-Err-check_fresh-clause-refused : goal.returns-in-Err-check_fresh-clause-refused
returns-in-Err-check_fresh-clause-refused g c =
    not_fresh _ c.args.note.now (head_of c.in-Ok.checkpoint) c.in-Err-check_fresh.fault c.in-Ok.ensures (search rules) c.in-Err-check_fresh.ensures.refused
