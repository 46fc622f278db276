-- One request to a host over a connection that may be kept.
use Rattle.std.specs.Prelude.{Result, Ok, Err}
use Rattle.tl_device.specs.Device.{Passage}
use Rattle.tl_http.specs.Exchange.{Exchanges, Sought, answered}
use Rattle.tl_http.specs.Message.{Sent}
use Rattle.tl_http.specs.Post.{Replied}
use Rattle.tl_http.specs.declared.message.Response.{Response}
use Rattle.tl_source.specs.declared.calling.CallFault.{CallFault}
use Rattle.tl_source.specs.declared.calling.CallFault.TheVariants.{Failed, Unreached}

-- one exchange of this request over some connection may have this outcome
pub record MayExchange (m : Sent) (s : Sought) (r : Replied) : Type 0 where
  pub reader : Passage
  pub writer : Passage
  pub exchanges : Exchanges m s reader writer r

-- the result of a call: what one exchange of the request may give, or the host wasn't reached
abbrev pub Calls : {A : Type 0} → Sent → Sought → Result (Response A) CallFault → Type 0
Calls m s (Ok response) = MayExchange m s (answered (Ok response))
Calls m s (Err (Failed fault is_late)) = MayExchange m s (Err fault)
Calls m s (Err (Unreached why)) = Unit {0}
