use Rattle.std.proofs.Common.{arith}
use Rattle.std.proofs.lemmas.Grind.{common_steps}
use Rattle.tl_witness.proofs.ProofLines.{no_first_line, no_first_hash}
use Rattle.tl_witness.proofs.request.next_hash.Goals as goal

pub returns-in_default : goal.returns-in_default
returns-in_default c = no_first_line c.args.text.now c.in_default.ensures

pub returns-in_default-parse_hash : goal.returns-in_default-parse_hash
returns-in_default-parse_hash c = no_first_hash c.args.text.now c.in-Some.words.now c.in-Some.rest.now c.in-Some.ensures.0 c.in-Some.ensures.1 c.in_default-parse_hash.ensures

pub returns : goal.returns
returns c = grind (arith, common_steps)
