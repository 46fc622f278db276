-- Calls that answer at once, as those that may answer later.
use Rattle.std.specs.Prelude.{Option, Some, None}
use Rattle.tl_hash.specs.Bytes.{Bytes}
use Rattle.tl_server.specs.Adding.{Course, Misplace, Postpone, Reply}
use Rattle.tl_server.specs.Answer.{Answer}

-- each request is answered at once
abbrev pub AtOnce : (Bytes → Option Answer → Type 0) → Bytes → Option Course → Type 0
AtOnce Answers input None = Answers input None
AtOnce Answers input (Some (Reply a)) = Answers input (Some a)
AtOnce Answers input (Some Misplace) = ⊥
AtOnce Answers input (Some Postpone) = ⊥
