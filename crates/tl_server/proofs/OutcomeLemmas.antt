-- From one fact of a result to another.
use Rattle.std.specs.Result.{IsErrAnd}
use Rattle.tl_device.specs.Device.{Passage, WrotePart}
use Rattle.tl_server.specs.Answer.{Answer, answer_text}
use Rattle.tl_server.specs.Serve.{Sends}
use Rattle.tl_server.specs.declared.fault.ServeFault.{ServeFault}
use Rattle.tl_server.specs.declared.fault.ServeFault.TheVariants.{Read, Write}
use Rattle.std.proofs.Common.{◌≡◌, ℕ, Option, Result, Ok, Err}

-- a write failed
pub sends_part : (a : Answer) (o : Passage) (r : Result (Option ℕ) ServeFault) → IsErrAnd r (λ f. f ≡ Write) → WrotePart o (answer_text a) → Sends a o r
sends_part a o (Ok status) is part = absurd is
sends_part a o (Err Read) is part = absurd cc
sends_part a o (Err Write) is part = part
