-- What a witness answers to a body, whether memory runs out or not (C2SP tlog-witness, "add-checkpoint"). H is the
-- digest function.
use Rattle.std.specs.Prelude.{ℕ, ◌⊎◌}
use Rattle.tl_hash.specs.Bytes.{Bytes, Digest}
use Rattle.tl_witness.specs.Request.{Body, IsRequest}
use Rattle.tl_witness.specs.Book.{BookOutcome, RefusesAll, DecidesBody}

-- the body is a request; memory is allocated for no other
abbrev pub AsksForMemory : Bytes → Type 0
AsksForMemory body = (request : Body) × IsRequest body request

-- the cases of a request, or 500 with nothing changed if memory was allocated for it
abbrev pub Answers : Digest → Bytes → ℕ → BookOutcome → Type 0
Answers H body time out = DecidesBody H body time out ⊎ (AsksForMemory body × RefusesAll out 500)
