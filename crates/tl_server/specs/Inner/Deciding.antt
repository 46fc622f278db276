-- The steps of one request.
use Rattle.std.specs.Prelude.{◌≡◌, ◌≢◌, ℕ, ◌≤◌, List, [], true, false, Bool, Option, Some, None, Result, length, take}
use Rattle.httparse.specs.declared.spans.HeaderSpan.{HeaderSpan}
use Rattle.httparse.specs.declared.spans.RequestSpans.{RequestSpans}
use Rattle.httparse.specs.Spans.{IsRequestWithin, IsRequestOf, RequestOverflows}
use Rattle.httparse.specs.Grammar.{HasNoRequest, MayBecomeRequest, RequestHead}
use Rattle.tl_device.specs.Device.{Passage, HasFailed}
use Rattle.tl_hash.specs.Bytes.{Bytes}
use Rattle.tl_server.specs.Answer.{Answer}
use Rattle.tl_server.specs.Exchange.{IsHeadless}
use Rattle.tl_server.specs.Head.{HasHead}
use Rattle.tl_device.specs.Reading.{Gave, MayBe}
use Rattle.tl_server.specs.Serve.{Sends}
use Rattle.tl_server.specs.declared.fault.ServeFault.{ServeFault}
use Rattle.tl_server.specs.declared.head.Parsed.{Parsed}
use Rattle.tl_server.specs.declared.head.Parsed.TheVariants.{Whole, Partial, Refused}
use Rattle.tl_server.specs.declared.head.HeadRead.{HeadRead}
use Rattle.tl_server.specs.declared.head.HeadRead.TheVariants.{Failed, Nothing, NoHead, Head}

-- what the parser reports of bytes, with room for 64 fields
abbrev pub Parses : Bytes → List HeaderSpan → Parsed → Type 0
Parses bytes headers (Whole spans) = IsRequestWithin bytes headers spans × IsRequestOf bytes headers spans
Parses bytes headers Partial = HasNoRequest bytes × MayBecomeRequest bytes
Parses bytes headers Refused = RequestOverflows 64 bytes

-- one of these answers was sent
pub record Answered (Answers : Answer → Type 0) (o : Passage) (result : Result (Option ℕ) ServeFault) : Type 0 where
  pub answer : Answer
  pub decided : Answers answer
  pub sends : Sends answer o result

-- an answer, or a course, for what follows a head: there always is one
abbrev pub Rest : {X : Type 0} → (Bytes → X → Type 0) → Bytes → Option X → Type 0
Rest Answers rest None = ⊥
Rest Answers rest (Some a) = Answers rest a

-- the input begins with no head within the limits
abbrev pub HasNoHead : Bytes → Type 0
HasNoHead input = (head : RequestHead) (rest : Bytes) → ¬ (HasHead input head rest)

-- the input isn't empty, has no head, and this is its status
pub record IsWithoutHead (input : Bytes) (status : ℕ) : Type 0 where
  pub some : input ≢ []
  pub none : HasNoHead input
  pub status_is : IsHeadless input status

-- the bytes read begin no input that has a head; its status
pub record ReadNoHead (i : Passage) (status : ℕ) : Type 0 where
  pub bytes : Bytes
  pub ended : Bool
  pub gave : Gave i bytes ended
  pub so : (input : Bytes) → MayBe bytes ended input → IsWithoutHead input status

-- the bytes read are the first bytes of the buffer, which begins with a head
pub record IsHeaded (i : Passage) (buf : Bytes) (headers : List HeaderSpan) (len : ℕ) (spans : RequestSpans) : Type 0 where
  pub fits : len ≤ 8192
  pub room : length headers ≡ 64
  pub gave : Gave i (take len buf) false
  pub within : IsRequestWithin (take len buf) headers spans
  pub of : IsRequestOf (take len buf) headers spans

-- reading a head into a buffer of 8,192 bytes and a list of 64 spans
abbrev pub ReadsHead : Passage → Bytes → List HeaderSpan → HeadRead → Type 0
ReadsHead i buf headers Failed = HasFailed i
ReadsHead i buf headers Nothing = Gave i [] true
ReadsHead i buf headers (NoHead status) = ReadNoHead i status
ReadsHead i buf headers (Head len spans) = IsHeaded i buf headers len spans
