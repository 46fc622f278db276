use Rattle.std.proofs.Common.{◌≡◌, map, take}
use Rattle.tl_proof.specs.Acceptance.{step_of}
use Rattle.tl_witness.proofs.guarded.copy_links.Given as goal

abbrev pub invariant-loop-link : goal.invariant-loop-link
invariant-loop-link g l = map step_of l.copies.items ≡ map step_of (take l.link-index l.links)
