use Rattle.std.proofs.Common.{arith}
use Rattle.std.proofs.lemmas.Bool.Decides.{nat_tests}
use Rattle.tl_feed.proofs.TextLemmas.{none_signed}
use Rattle.tl_feed.proofs.reading.are_signatures.Goals as goal

pub returns-then-is_empty-clause-told : goal.returns-then-is_empty-clause-told
returns-then-is_empty-clause-told g c = (
  λ some. absurd (cc),
  λ are. absurd (none_signed c.args.text.now (grind (arith, nat_tests, c.is_empty.ensures, c.if-is_empty.true)) are),
)
