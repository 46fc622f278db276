use Rattle.std.proofs.Common.{◌≡◌, false}
use Rattle.tl_serve.proofs.queue.Waiting.finish.Given as goal

-- no thread writes, and what waits is as it was
abbrev pub invariant-loop-link : goal.invariant-loop-link
invariant-loop-link l =
    goal.iterator-loop-link.can_next l.link-iterator × goal.iterator-loop-link.is_finite l.link-iterator × (l.self.is_writing ≡ false) × (l.self.batch ≡ l.fn.self.batch)
