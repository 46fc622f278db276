use Rattle.std.proofs.Common.{None, Some, arith}
use Rattle.std.specs.Prelude.{IfNone, Option}
use Rattle.tl_command.proofs.TileLines.{far_line, no_line}
use Rattle.tl_command.proofs.WholeLines.{begins_found}
use Rattle.tl_command.proofs.whole_lines.cut_line.Goals as goal

pub returns : goal.returns
returns c =
    let found = c.in_ok-end.ensures in
    record { line = begins_found c.args.piece.now c.in_ok-end.end found.0.high found.1 found.0.before (omega arith); none = tt }

on_none : {X : Type 0} (r : Option X) (P : Type 0) → P → IfNone r P
on_none None P holds = holds
on_none (Some x) P holds = tt

pub returns-in_err-end-clause-none : goal.returns-in_err-end-clause-none
returns-in_err-end-clause-none c = on_none c.from_residual.result _ (no_line c.args.piece.now c.in_err-end.ensures)

pub returns-then-end-gt-LONGEST_ENTRY-clause-none : goal.returns-then-end-gt-LONGEST_ENTRY-clause-none
returns-then-end-gt-LONGEST_ENTRY-clause-none c =
    far_line c.args.piece.now c.in_ok-end.end c.in_ok-end.ensures.0.before c.if-end-gt-LONGEST_ENTRY.true
