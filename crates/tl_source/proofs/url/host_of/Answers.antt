use Rattle.std.proofs.Common.{arith, Some, None}
use Rattle.std.proofs.lemmas.Str.Pattern.{strip_prefix_char}
use Rattle.tl_source.proofs.Hosts.{after_bracket, without_bracket}
use Rattle.tl_source.proofs.url.host_of.Goals as goal

pub returns-in-Some : goal.returns-in-Some
returns-in-Some c =
    after_bracket c.args.authority.now c.in-Some.rest.now c.bracketed.result (strip_prefix_char 91 c.args.authority.now (Some c.in-Some.rest) c.in-Some.ensures.cases (omega arith))
    c.bracketed.ensures

pub returns-in-None : goal.returns-in-None
returns-in-None c =
    without_bracket c.args.authority.now c.named.result (strip_prefix_char 91 c.args.authority.now None c.in-None.ensures.cases (omega arith)) c.named.ensures
