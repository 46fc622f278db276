-- What a head says of its connection and of the body that follows.
use Rattle.std.specs.Prelude.{◌≡◌, ◌⊎◌, List, Option, Some, None, length}
use Rattle.http1.specs.Framing.{method_kind}
use Rattle.httparse.specs.Grammar.{HasNoRequest, RequestHead, print_request}
use Rattle.httparse.specs.Spans.{IsRequestOf, IsRequestWithin, RequestOverflows}
use Rattle.httparse.specs.declared.spans.HeaderSpan.{HeaderSpan}
use Rattle.httparse.specs.declared.spans.RequestSpans.{RequestSpans}
use Rattle.tl_hash.specs.Bytes.{Bytes}
use Rattle.tl_server.specs.Head.{HasHead}
use Rattle.tl_keepalive.specs.KeepAlive.{known}
use Rattle.tl_keepalive.specs.declared.facts.Facts.{Facts}

-- the input begins with no head within the limits
abbrev pub HasNoHead : Bytes → Type 0
HasNoHead input = (head : RequestHead) (rest : Bytes) → ¬ (HasHead input head rest)

-- where the parts of the head are that bytes begin with, if they begin with one
abbrev pub Spans : Bytes → List HeaderSpan → Option RequestSpans → Type 0
Spans bytes headers (Some spans) = IsRequestWithin bytes headers spans × IsRequestOf bytes headers spans
Spans bytes headers None = HasNoRequest bytes ⊎ RequestOverflows 64 bytes

-- these are the facts of the head that the input begins with
pub record AreFacts (input : Bytes) (facts : Facts) : Type 0 where
  pub head : RequestHead
  pub rest : Bytes
  pub begins : HasHead input head rest
  pub len : facts.len ≡ length (print_request head)
  pub minor : facts.minor ≡ head.minor
  pub method : facts.method ≡ method_kind head.method
  pub fields : facts.fields ≡ known head
