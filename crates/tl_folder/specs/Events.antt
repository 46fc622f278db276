-- The outcomes of a folder's calls.
use Rattle.std.specs.Prelude.{ℕ, List, map}
use Rattle.http_server.specs.declared.log.Log.{Log}
use Rattle.tl_folder.specs.declared.call_outcome.CallOutcome.{CallOutcome}

-- the outcome of a call, and the bytes that it staged
abbrev pub Event : Type 0
Event = CallOutcome × List ℕ

-- the bytes of a note
abbrev pub noted : Log (Unit {0}) ℕ → List ℕ
noted note = map (λ p. p.1) note.items

-- the event that was noted
abbrev pub event_of : CallOutcome × Log (Unit {0}) ℕ → Event
event_of p = (p.0, noted p.1)
