use Rattle.tl_http.proofs.ChunkLineLemmas.{line_whole, line_never, line_late}
use Rattle.tl_http.proofs.chunks.line_in.Goals as goal

pub returns-in-Ok-Complete : goal.returns-in-Ok-Complete
returns-in-Ok-Complete c =
    line_whole c.args.bytes.now c.min-most.result c.in-Ok-Complete.len c.in-Ok-Complete.size c.min-most.ensures
    (rw c.in-Ok-Complete.field-0-is at c.in-Ok-Complete.ensures.complete)

pub returns-else-bytes-lt-MOST_LINE : goal.returns-else-bytes-lt-MOST_LINE
returns-else-bytes-lt-MOST_LINE c =
    line_late c.args.bytes.now c.min-most.result c.min-most.ensures c.if-bytes-lt-MOST_LINE.false
    (rw c.in-Ok-Partial.field-0-is at c.in-Ok-Partial.ensures.partial)

pub returns-in-Err : goal.returns-in-Err
returns-in-Err c = line_never c.args.bytes.now c.min-most.result c.in-Err.ensures.invalid
