use Rattle.std.proofs.Common.{◌≡◌, ◌++◌, map, take, vec_items}
use Rattle.tl_fetch.specs.Listed.{listed_text}
use Rattle.tl_fetch.proofs.listing.push_lines.Given as goal

-- the entries so far were appended
abbrev pub invariant-loop-entry : goal.invariant-loop-entry
invariant-loop-entry g l = l.out.items ≡ l.fn.out.items ++ listed_text (map vec_items (take l.entry-index l.entries))
