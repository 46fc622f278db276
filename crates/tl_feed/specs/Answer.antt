-- What a witness answers (C2SP tlog-witness, "add-checkpoint").
use Rattle.std.specs.Prelude.{◌≡◌, ◌⊎◌, ℕ, ◌<◌, List, Option, Some, Result, Ok, Err, codes, length, string_bytes}
use Rattle.tl_hash.specs.Bytes.{Bytes}
use Rattle.tl_text.specs.Text.{line, number_text, IsSize}
use Rattle.tl_note.specs.Note.{Signature}
use Rattle.tl_note.specs.View.{AreLines}
use Rattle.tl_http.specs.Post.{Replied}
use Rattle.tl_http.specs.Response.{Unless, UnlessSome}
use Rattle.tl_feed.specs.declared.fault.AskFault.{AskFault}
use Rattle.tl_feed.specs.declared.fault.AskFault.TheVariants.{BadLines, BadSize, OutOfMemory}
use Rattle.tl_feed.specs.declared.question.WitnessAnswer.{WitnessAnswer}
use Rattle.tl_feed.specs.declared.question.WitnessAnswer.TheVariants as witness
use Rattle.tl_feed.specs.Refusal.{refusal_of}

-- an answer: signature lines, or the size that the witness cosigned last
pub data Answer : Type 0 where
  Cosigned : Bytes → Answer
  At : ℕ → Answer

-- what a call returns: an answer, or why there is none
abbrev pub Answered : Type 0
Answered = Result Answer AskFault

-- the result of a call as a value: bytes instead of a text in memory
abbrev pub answered : {A : Type 0} → Result (WitnessAnswer A) AskFault → Answered
answered (Ok (witness.Cosigned lines)) = Ok (Cosigned (string_bytes lines))
answered (Ok (witness.At size)) = Ok (At size)
answered (Err fault) = Err fault

-- the bytes are 1 to 100 signature lines and nothing else (C2SP signed-note, "Format")
abbrev pub AreSignatures : Bytes → Type 0
AreSignatures bytes = (lines : List Signature) × AreLines bytes lines × (0 < length lines)

-- the bytes are a size in decimal and a newline
abbrev pub IsSizeLine : Bytes → ℕ → Type 0
IsSizeLine bytes size = IsSize size × (bytes ≡ line (number_text size))

-- the answer in a body with status 200, by the first case that applies:
--     BadLines     the body isn't signature lines
--     OutOfMemory  it is, and an allocation for the parsed lines failed
--     Cosigned     else: the body
abbrev pub LinesDecide : Bytes → Answered → Type 0
LinesDecide body r =
    Unless (AreSignatures body) (r ≡ Err BadLines)
    ((r ≡ Err OutOfMemory) ⊎ (r ≡ Ok (Cosigned body)))

-- the answer in a type and a body with status 409, by the first case that applies:
--     BadSize  there isn't exactly one field Content-Type, or its value isn't text/x.tlog.size
--     BadSize  the body isn't a size and a newline
--     At       else: that size
abbrev pub SizeDecides : Option Bytes → Bytes → Answered → Type 0
SizeDecides kind body r =
    Unless (kind ≡ Some (codes "text/x.tlog.size")) (r ≡ Err BadSize)
    (UnlessSome (IsSizeLine body) (r ≡ Err BadSize) (λ size. r ≡ Ok (At size)))

-- the answer after a request: the refusal if it has no response that is accepted, else what the status and the body
-- say
abbrev pub AnswerDecides : Replied → Answered → Type 0
AnswerDecides (Err fault) r = r ≡ Err (refusal_of fault)
AnswerDecides (Ok reply) r =
    ((reply.status ≡ 200) × LinesDecide reply.body r)
    ⊎ ((reply.status ≡ 409) × SizeDecides reply.field reply.body r)
