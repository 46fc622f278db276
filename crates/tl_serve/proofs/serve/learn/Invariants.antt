use Rattle.std.proofs.Common.{◌≡◌, All}
use Rattle.tl_serve.proofs.serve.learn.Given as goal

-- each reader is of the board of the publication
abbrev pub invariant-loop-reader : goal.invariant-loop-reader
invariant-loop-reader l = All (λ r. r.book ≡ l.published.book) l.reader-items
