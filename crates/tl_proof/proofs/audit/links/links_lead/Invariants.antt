use Rattle.std.proofs.Common.{map, drop}
use Rattle.tl_proof.specs.Acceptance.{step_of}
use Rattle.tl_proof.proofs.Chains.{LeadOn}
use Rattle.tl_proof.proofs.audit.links.links_lead.Given as goal

abbrev pub invariant-loop-link : goal.invariant-loop-link
invariant-loop-link g l = LeadOn g.T.TreeHash.digest_of l.at l.at_root (map step_of (drop l.link-index l.links)) l.fn.old l.fn.old_root (map step_of l.links) l.size l.root
