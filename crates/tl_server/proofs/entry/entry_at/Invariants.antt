use Rattle.tl_server.proofs.EntryLemmas.{Walked}
use Rattle.tl_server.proofs.entry.entry_at.Given as goal

abbrev pub invariant-loop-here : goal.invariant-loop-here
invariant-loop-here l = Walked l.bytes l.here l.rest l.place l.found
