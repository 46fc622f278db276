-- The steps of reading a head.
use Rattle.std.specs.Prelude.{◌≡◌, ℕ, ◌≤◌, List, ◌++◌, false, All, Ok, Err, Result, length, map, slice_range, take}
use Rattle.std.specs.List.{flat_map}
use Rattle.httparse.specs.declared.spans.HeaderSpan.{HeaderSpan}
use Rattle.httparse.specs.declared.spans.ResponseSpans.{ResponseSpans}
use Rattle.httparse.specs.Spans.{IsResponseWithin, IsResponseOf, ResponseOverflows, header_bytes}
use Rattle.httparse.specs.Grammar.{HasNoResponse, ResponseHead, print_response}
use Rattle.tl_device.specs.Device.{Passage, HasFailed}
use Rattle.tl_hash.specs.Bytes.{Bytes}
use Rattle.tl_http.specs.Fields.{HasFraming, IsPlain}
use Rattle.tl_device.specs.Reading.{Gave}
use Rattle.tl_http.specs.Get.{Came, Receives}
use Rattle.tl_http.specs.Response.{Begins, Begun, HeadDecides, IsInterim, IsInterimStatus, Outcome, ResponseDecides}
use Rattle.tl_http.specs.declared.fault.HttpFault.{HttpFault}
use Rattle.tl_http.specs.declared.framing.Framing.{Framing}
use Rattle.tl_http.specs.declared.head.Parsed.{Parsed}
use Rattle.tl_http.specs.declared.head.Parsed.TheVariants.{Whole, Partial, Refused}
use Rattle.tl_http.specs.declared.head.HeadRead.{HeadRead}
use Rattle.tl_http.specs.declared.taken.Taken.{Taken}
use Rattle.tl_http.specs.declared.head.HeadRead.TheVariants.{Failed, Missing, Head}

-- what the parser reports of bytes, with room for 64 fields
abbrev pub Parses : Bytes → List HeaderSpan → Parsed → Type 0
Parses bytes headers (Whole spans) = IsResponseWithin bytes headers spans × IsResponseOf bytes headers spans
Parses bytes headers Partial = HasNoResponse bytes
Parses bytes headers Refused = ResponseOverflows 64 bytes

-- a fault as the result of a call
abbrev pub faulty : HttpFault → Outcome
faulty fault = Err fault

-- the input begins with no head within the limits
abbrev pub HasNoHead : Bytes → Type 0
HasNoHead input = (b : Begun) → ¬ (Begins input b)

-- the first bytes of the buffer are interim heads, up to `start`
pub record Passed (buf : Bytes) (start len : ℕ) : Type 0 where
  pub heads : List ResponseHead
  pub interim : All IsInterim heads
  pub joined : take len buf ≡ flat_map print_response heads ++ slice_range buf start len

-- the bytes read are the first bytes of the buffer, which hold a head after interim ones
pub record IsHeaded (i : Passage) (buf : Bytes) (headers : List HeaderSpan) (start len : ℕ) (spans : ResponseSpans) : Type 0 where
  pub ordered : start ≤ len
  pub fits : len ≤ 8192
  pub room : length headers ≡ 64
  pub gave : Gave i (take len buf) false
  pub passed : Passed buf start len
  pub within : IsResponseWithin (slice_range buf start len) headers spans
  pub of : IsResponseOf (slice_range buf start len) headers spans
  pub final : ¬ (IsInterimStatus spans.code)

-- reading a head into a buffer of 8,192 bytes and a list of 64 spans
abbrev pub ReadsHead : Passage → Bytes → List HeaderSpan → HeadRead → Type 0
ReadsHead i buf headers Failed = HasFailed i
ReadsHead i buf headers Missing = Came HasNoHead i
ReadsHead i buf headers (Head start len spans) = IsHeaded i buf headers start len spans

-- the head says of its body what is needed to read it: it has a wanted status, no coding and this framing
pub record IsTaken (Wanted : ℕ → Type 0) (minor status : ℕ) (fields : List (Bytes × Bytes)) (framing : Framing) : Type 0 where
  pub version : minor ≤ 1
  pub wanted : Wanted status
  pub plain : IsPlain minor fields
  pub framed : HasFraming fields framing

-- a head whose body can be read, with its framing, or the fault that the head alone decides
abbrev pub Announces : (ℕ → Type 0) → ℕ → ℕ → List (Bytes × Bytes) → Result Framing HttpFault → Type 0
Announces Wanted minor status fields (Ok framing) = IsTaken Wanted minor status fields framing
Announces Wanted minor status fields (Err fault) = HeadDecides Wanted minor status fields (λ _. ⊥) (faulty fault)

-- a head in the buffer whose body can be read
pub record TookHead (Wanted : ℕ → Type 0) (i : Passage) (buf : Bytes) (headers : List HeaderSpan) (taken : Taken) : Type 0 where
  pub headed : IsHeaded i buf headers taken.start taken.len taken.spans
  pub is : IsTaken Wanted taken.spans.version taken.spans.code
      (map (header_bytes (slice_range buf taken.start taken.len)) (take taken.spans.headers headers)) taken.framing

-- reading a head whose body can be read, or the fault that the head alone decides
abbrev pub ReadsTaken : (ℕ → Type 0) → Passage → Bytes → List HeaderSpan → Result Taken HttpFault → Type 0
ReadsTaken Wanted i buf headers (Ok taken) = TookHead Wanted i buf headers taken
ReadsTaken Wanted i buf headers (Err fault) = Receives (ResponseDecides Wanted (λ _ _. ⊥)) i (faulty fault)
