use Rattle.std.proofs.Common.{◌≡◌, ◌++◌, ◌+◌, ◌≤◌, length}
use Rattle.std.specs.Prelude.{vec_capacity}
use Rattle.tl_serve.proofs.written.write_lines.Given as goal

-- what was moved and what is left are all, and there is room for it
abbrev pub invariant-loop-line : goal.invariant-loop-line
invariant-loop-line g l =
    (goal.iterator-loop-line g).can_next l.line-iterator
    × (goal.iterator-loop-line g).is_finite l.line-iterator
    × (l.written.items ++ l.line-iterator.rest.items ≡ l.fn.lines.items)
    × (length l.written.items + length l.line-iterator.rest.items ≤ vec_capacity l.written)
    × (l.line-iterator.rest.len ≡ length l.line-iterator.rest.items)
