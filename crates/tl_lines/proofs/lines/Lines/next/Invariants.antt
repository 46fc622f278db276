use Rattle.tl_lines.proofs.ReadingLemmas.{HasRead}
use Rattle.tl_lines.proofs.lines.Lines.next.Given as goal

-- no line was reported so far, and each read gave a byte or more
abbrev pub invariant-loop-reads : goal.invariant-loop-reads
invariant-loop-reads g l =
    HasRead l.initial.self l.self (g.R.Read.remaining l.initial.reader.device) (g.R.Read.remaining l.reader.device) l.initial.reader.failed l.reader.failed l._reads
