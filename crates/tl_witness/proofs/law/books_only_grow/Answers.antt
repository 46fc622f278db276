use Rattle.tl_witness.proofs.RunLaws.{books_only_grow}
use Rattle.tl_witness.proofs.law.books_only_grow.Goals as goal

pub returns : goal.returns
returns c = books_only_grow
