-- A POST request over a reader and a writer (RFC 9110, section 9.3.3).
use Rattle.std.specs.Prelude.{◌≡◌, ◌⊎◌, ℕ, ◌<◌, List, [], ◌∷◌, Option, Some, None, Result, Ok, Err, ◌++◌, Contains, codes, decimal, length, vec_items}
use Rattle.std.specs.declared.vec.Vec.{Vec}
use Rattle.httparse.specs.Grammar.{ResponseHead, status_code}
use Rattle.tl_device.specs.Device.{Passage, IsUnread, IsUnwritten, WroteWhole, WrotePart}
use Rattle.tl_hash.specs.Bytes.{Bytes}
use Rattle.tl_http.specs.FieldValues.{fields_of, values_of}
use Rattle.tl_http.specs.Get.{Receives}
use Rattle.tl_http.specs.Request.{IsAskable}
use Rattle.tl_http.specs.Response.{Begun, BodyDecides, Outcome, ResponseDecides, Unless}
use Rattle.tl_http.specs.declared.fault.HttpFault.{HttpFault}
use Rattle.tl_http.specs.declared.fault.HttpFault.TheVariants.{BadTarget, OutOfMemory, Write}
use Rattle.tl_http.specs.declared.framing.Framing.{Framing}
use Rattle.tl_http.specs.declared.request.Post.{Post}
use Rattle.tl_http.specs.declared.request.Reply.{Reply}

-- a POST request: its host, target and body, the statuses of the responses that are wanted, and the name of the field
-- that is wanted of them
pub record Asked : Type 0 where
  pub host : Bytes
  pub target : Bytes
  pub body : Bytes
  pub statuses : List ℕ
  pub field : Bytes

-- the request of a call
abbrev pub asked : Post → Asked
asked post = record {
  host = post.host.now;
  target = post.target.now;
  body = post.body.now;
  statuses = post.statuses.now;
  field = post.field.now;
}

-- the whole request as it is sent; it asks to close the connection, and writes the length of its body in decimal
unfoldable pub post_text : Bytes → Bytes → Bytes → Bytes
post_text host target body =
    codes "POST " ++ target ++ codes " HTTP/1.1\r\nHost: " ++ host
    ++ codes "\r\nContent-Length: " ++ decimal (length body) ++ codes "\r\nConnection: close\r\n\r\n" ++ body

-- the value if there is exactly one
abbrev pub only_one : List Bytes → Option Bytes
only_one [] = None
only_one (value ∷ []) = Some value
only_one (value ∷ other ∷ values) = None

-- the value of the one field with this name; none if there is no such field, or more than one
abbrev pub field_value : Bytes → ResponseHead → Option Bytes
field_value name head = only_one (values_of name (fields_of head.fields))

-- the parts of a response that a call returns: the status, the value of the wanted field, and the body
pub record Given : Type 0 where
  pub status : ℕ
  pub field : Option Bytes
  pub body : Bytes

-- what a call returns: a response, or why there is none
abbrev pub Replied : Type 0
Replied = Result Given HttpFault

-- the bytes of a value in memory, if there is one
abbrev pub value_bytes : {A : Type 0} → Option (Vec ℕ A) → Option Bytes
value_bytes None = None
value_bytes (Some value) = Some (vec_items value)

-- the result of a call as a value: bytes instead of lists in memory
abbrev pub replied : {A : Type 0} → Result (Reply A) HttpFault → Replied
replied (Ok reply) = Ok (record { status = reply.status; field = value_bytes reply.field; body = vec_items reply.body })
replied (Err fault) = Err fault

-- the result for a response with this head, whose body is this or has this fault
abbrev pub with_head : Bytes → ResponseHead → Outcome → Replied
with_head name head (Ok body) = Ok (record { status = status_code head; field = field_value name head; body = body })
with_head name head (Err fault) = Err fault

-- an allocation for the value of the wanted field failed
abbrev pub LacksField : Bytes → ResponseHead → Replied → Type 0
LacksField name head r =
    (r ≡ Err OutOfMemory) × ((value : Bytes) × (field_value name head ≡ Some value) × (0 < length value))

-- the reply if the head's status is wanted and its body can be read, by the first case that applies:
--     OutOfMemory  the wanted field has a value, and an allocation for it failed
--     else         the body decides as in a response to GET: its fault, or the status, the value and the body
abbrev pub ReplyDecides : Bytes → ℕ → Begun → Framing → Replied → Type 0
ReplyDecides name limit b framing r =
    LacksField name b.head r
    ⊎ ((body : Outcome) × BodyDecides limit framing b.rest body × (r ≡ with_head name b.head body))

-- the reply in an input: its head decides, whose status has to be wanted, and then what `ReplyDecides` says
abbrev pub Replies : List ℕ → Bytes → ℕ → Bytes → Replied → Type 0
Replies statuses name limit input r =
    ResponseDecides (λ status. Contains statuses status) (λ b framing. ReplyDecides name limit b framing r) input r

-- the result of `post`, by the first case that applies; i is the reader, o the writer:
--     BadTarget  host and target can't be sent; nothing is written or read
--     Write      a write failed, after a part of the request; nothing is read
--     Read       the request was written, and a read failed
--     else       the request was written, and the response decides
abbrev pub Posts : Asked → ℕ → Passage → Passage → Replied → Type 0
Posts a limit i o r =
    Unless (IsAskable a.host a.target) ((r ≡ Err BadTarget) × IsUnwritten o × IsUnread i)
    (((r ≡ Err Write) × WrotePart o (post_text a.host a.target a.body) × IsUnread i)
    ⊎ (WroteWhole o (post_text a.host a.target a.body) × Receives (Replies a.statuses a.field limit) i r))
