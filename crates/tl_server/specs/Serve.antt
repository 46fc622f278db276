-- One request over a reader and a writer.
use Rattle.std.specs.Prelude.{◌≡◌, ℕ, Bool, Option, Some, None, Result, Ok, Err}
use Rattle.tl_device.specs.Device.{Passage, HasFailed, IsUnwritten, WroteWhole, WrotePart}
use Rattle.tl_device.specs.Reading.{Gave, MayBe}
use Rattle.tl_hash.specs.Bytes.{Bytes}
use Rattle.tl_server.specs.Answer.{Answer, answer_text}
use Rattle.tl_server.specs.declared.fault.ServeFault.{ServeFault}
use Rattle.tl_server.specs.declared.fault.ServeFault.TheVariants.{Read, Write}

-- this is the answer, or the course, of the bytes read and whatever may follow them
pub record Came {X : Type 0} (Answers : Bytes → X → Type 0) (i : Passage) (answer : X) : Type 0 where
  pub bytes : Bytes
  pub ended : Bool
  pub gave : Gave i bytes ended
  pub so : (input : Bytes) → MayBe bytes ended input → Answers input answer

-- sending an answer: all of it is written, or the writer fails after a part of it
abbrev pub Sends : Answer → Passage → Result (Option ℕ) ServeFault → Type 0
Sends a o (Ok (Some status)) = (status ≡ a.status) × WroteWhole o (answer_text a)
Sends a o (Ok None) = ⊥
Sends a o (Err Write) = WrotePart o (answer_text a)
Sends a o (Err Read) = ⊥

-- this was the answer, and it was sent
pub record Sent
    (Answers : Bytes → Option Answer → Type 0) (i o : Passage) (result : Result (Option ℕ) ServeFault) : Type 0 where
  pub answer : Answer
  pub came : Came Answers i (Some answer)
  pub sends : Sends answer o result

-- one request; i is its reader, o its writer. Nothing is written if no byte came or a read failed
abbrev pub Serves
    : Type 0 → (Bytes → Option Answer → Type 0) → Passage → Passage → Result (Option ℕ) ServeFault → Type 0
Serves Idle Answers i o (Ok None) = Came Answers i None × IsUnwritten o
Serves Idle Answers i o (Err Read) = HasFailed i × IsUnwritten o × Idle
Serves Idle Answers i o (Ok (Some status)) = Sent Answers i o (Ok (Some status))
Serves Idle Answers i o (Err Write) = Sent Answers i o (Err Write)
