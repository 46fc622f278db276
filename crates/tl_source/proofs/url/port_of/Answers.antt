use Rattle.std.proofs.Common.{arith, Some, None}
use Rattle.std.proofs.lemmas.Grind.{common_steps}
use Rattle.std.proofs.lemmas.Bool.Decides.{nat_tests}
use Rattle.std.proofs.lemmas.Str.Pattern.{strip_prefix_char}
use Rattle.tl_source.proofs.Hosts.{no_port, large_port}
use Rattle.tl_source.proofs.url.port_of.Goals as goal

pub returns-in_default : goal.returns-in_default
returns-in_default c =
    no_port c.args.text.now (grind (arith, nat_tests, c.is_empty.ensures, c.if-is_empty.false))
    (strip_prefix_char 58 c.args.text.now None c.in_default.ensures.cases (omega arith))

pub returns-else-port : goal.returns-else-port
returns-else-port c =
    large_port c.args.text.now c.in-Some.digits.now c.in-Some-parse_size.port
    (strip_prefix_char 58 c.args.text.now (Some c.in-Some.digits) c.in-Some.ensures.cases (omega arith))
    c.in-Some-parse_size.ensures.1 c.in-Some-parse_size.ensures.0 (omega (arith, c.if-port.false))

pub returns-then-port : goal.returns-then-port
returns-then-port c = grind (arith, common_steps)
