use Rattle.std.proofs.Common.{map}
use Rattle.tl_proof.specs.Acceptance.{step_of}
use Rattle.tl_proof.proofs.Chains.{size_after-none, size_after-some, root_after-none, root_after-some}
use Rattle.tl_proof.proofs.audit.links.end_after.Goals as goal

pub returns-then-count-eq0-clause-size : goal.returns-then-count-eq0-clause-size
returns-then-count-eq0-clause-size g c = size_after-none c.args.old c.args.count (map step_of c.args.links.now) c.if-count-eq0.true

pub returns-then-count-eq0-clause-root : goal.returns-then-count-eq0-clause-root
returns-then-count-eq0-clause-root g c = root_after-none c.args.old_root c.args.count (map step_of c.args.links.now) c.if-count-eq0.true

pub returns-else-count-eq0-clause-size : goal.returns-else-count-eq0-clause-size
returns-else-count-eq0-clause-size g c = size_after-some step_of c.args.old c.args.count c.args.links.now c.index-links-count.result c.if-count-eq0.false c.requires

pub returns-else-count-eq0-clause-root : goal.returns-else-count-eq0-clause-root
returns-else-count-eq0-clause-root g c = root_after-some step_of c.args.old_root c.args.count c.args.links.now c.index-links-count-else-count-eq0.result c.if-count-eq0.false c.requires
