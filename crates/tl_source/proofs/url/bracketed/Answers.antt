use Rattle.std.proofs.Common.{None, arith}
use Rattle.std.proofs.lemmas.Grind.{common_steps}
use Rattle.tl_source.proofs.Hosts.{false_is_not_true, bracketed_cut, not_bracketed_port, not_bracketed_host}
use Rattle.tl_source.proofs.url.bracketed.Goals as goal

pub returns-in_default : goal.returns-in_default
returns-in_default c host port b = bracketed_cut c.args.authority.now None c.in_default.ensures.cases host port b

pub returns-in_default-port_of : goal.returns-in_default-port_of
returns-in_default-port_of c = not_bracketed_port c.args.authority.now c.in-Some.host c.in-Some.rest c.in-Some.ensures.cases c.in_default-port_of.ensures

pub returns-else-is_address : goal.returns-else-is_address
returns-else-is_address c = not_bracketed_host c.args.authority.now c.in-Some.host c.in-Some.rest c.in-Some.ensures.cases (λ is. false_is_not_true (c.if-is_address.ensures.1 is))

pub returns-then-is_address : goal.returns-then-is_address
returns-then-is_address c = grind (arith, common_steps)
