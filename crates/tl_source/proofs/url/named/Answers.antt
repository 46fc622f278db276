use Rattle.std.proofs.Common.{arith}
use Rattle.std.proofs.lemmas.Grind.{common_steps}
use Rattle.tl_source.proofs.Hosts.{false_is_not_true, not_named_port, not_named_host}
use Rattle.tl_source.proofs.url.named.Goals as goal

pub returns-in_default : goal.returns-in_default
returns-in_default c = not_named_port _ _ _ c.cut_at.ensures.joined c.cut_at.ensures.front c.cut_at.ensures.rest c.in_default.ensures

pub returns-else-is_name : goal.returns-else-is_name
returns-else-is_name c = not_named_host _ _ _ c.cut_at.ensures.joined c.cut_at.ensures.front c.cut_at.ensures.rest (λ is. false_is_not_true (c.if-is_name.ensures.1 is))

pub returns-then-is_name : goal.returns-then-is_name
returns-then-is_name c = grind (arith, common_steps)
