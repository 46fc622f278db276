use Rattle.tl_keepalive.proofs.Conversations.{conversation}
use Rattle.tl_keepalive.proofs.law.what_is_sent_is_a_conversation.Goals as goal

pub returns : goal.returns
returns g c = conversation g.L.Leads.ever
