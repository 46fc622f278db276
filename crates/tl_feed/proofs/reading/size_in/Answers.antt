use Rattle.std.proofs.Common.{arith}
use Rattle.std.proofs.lemmas.Bool.Decides.{nat_tests}
use Rattle.tl_feed.proofs.TextLemmas.{no_line, no_more, no_size}
use Rattle.tl_feed.proofs.reading.size_in.Goals as goal

pub returns-in_default : goal.returns-in_default
returns-in_default c = no_size c.args.body.now c.in_default.ensures.cases.0

pub returns-in_default-split_line : goal.returns-in_default-split_line
returns-in_default-split_line c = no_line c.args.body.now c.in-Ok.text.now c.in-Ok.ensures.cases.0 c.in_default-split_line.ensures

pub returns-then-not-is_empty : goal.returns-then-not-is_empty
returns-then-not-is_empty c =
    no_more c.args.body.now c.in-Ok.text.now c.in-Some.digits.now c.in-Some.rest.now c.in-Ok.ensures.cases.0 c.in-Some.ensures.0 c.in-Some.ensures.1
    (grind (arith, nat_tests, c.if-not-is_empty.true, c.is_empty.ensures))
