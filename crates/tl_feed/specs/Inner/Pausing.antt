-- When a witness that gave no line is asked again, and which failures are reported.
use Rattle.std.specs.Prelude.{◌≡◌, ◌⊎◌, ◌*◌, ◌==◌, if◌then◌else◌, ℕ, ⊤, Bool, false, Option, Some, None, min}
use Rattle.tl_feed.specs.declared.failing.Failure.{Failure}
use Rattle.tl_feed.specs.declared.unasked.Unasked.{Unasked}

-- how many seconds pass before a witness that gave no line in this round is asked again, given its last failure in a
-- row: one at first in a round, then twice as many each time, and 60 at most
abbrev pub pause_after : Option Failure → ℕ → ℕ
pause_after None round = 1
pause_after (Some last) round = if last.round == round then min (2 * last.pause) 60 else 1

-- the failure is reported: there was none before in a row, or the last one was in the same round or for another
-- reason; `is_same` compares reasons
abbrev pub IsTold : (Unasked → Unasked → Bool) → Option Failure → Failure → Type 0
IsTold is_same None failure = ⊤
IsTold is_same (Some last) failure = (last.round ≡ failure.round) ⊎ (is_same last.why failure.why ≡ false)
