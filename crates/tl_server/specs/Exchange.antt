-- The answer to the bytes of a connection (RFC 9112, sections 2 and 3; RFC 6585, section 5).
use Rattle.std.specs.Prelude.{◌≡◌, ◌≢◌, ◌⊎◌, ℕ, ◌<◌, ◌≤◌, [], Option, Some, None, length, take}
use Rattle.httparse.specs.Grammar.{RequestHead, MayBecomeRequest}
use Rattle.httparse.specs.Spans.{RequestOverflows}
use Rattle.tl_hash.specs.Bytes.{Bytes}
use Rattle.tl_witness.specs.Cases.{UnlessSome}
use Rattle.tl_server.specs.Answer.{Answer, bare}
use Rattle.tl_server.specs.Head.{HasHead}

-- the head that an input has, and what follows it
pub record Begun : Type 0 where
  pub head : RequestHead
  pub rest : Bytes

abbrev pub Begins : Bytes → Begun → Type 0
Begins input b = HasHead input b.head b.rest

-- the status for an input without a head: 400 if it ends before 8,192 bytes, or if the first 8,192 begin no head of
-- at most 64 fields, whatever follows; 431 if it goes on and its first 8,192 bytes may still become a head
abbrev pub IsHeadless : Bytes → ℕ → Type 0
IsHeadless input status =
    ((status ≡ 400) × ((length input < 8192) ⊎ RequestOverflows 64 (take 8192 input)))
    ⊎ ((status ≡ 431) × (8192 ≤ length input) × MayBecomeRequest (take 8192 input))

-- no byte has no answer, and an input without a head is answered with its status; else the head and what follows it
-- decide. Idle says that nothing else was asked
abbrev pub Exchange : Type 0 → (Begun → Answer → Type 0) → Bytes → Option Answer → Type 0
Exchange Idle Decides input None = (input ≡ []) × Idle
Exchange Idle Decides input (Some a) =
    (input ≢ [])
    × UnlessSome (Begins input) (Idle × ((status : ℕ) × IsHeadless input status × (a ≡ bare status))) (λ b. Decides b a)
