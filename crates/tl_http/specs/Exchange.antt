-- One request over a reader and a writer of a connection that may be kept (RFC 9112, section 9.3).
use Rattle.std.specs.Prelude.{◌≡◌, ◌⊎◌, ◌↔◌, ℕ, Bool, List, Result, Ok, Err, Contains, IsTrue, vec_items}
use Rattle.httparse.specs.Grammar.{status_code}
use Rattle.tl_device.specs.Device.{Passage, IsUnread, IsUnwritten, WroteWhole, WrotePart}
use Rattle.tl_device.specs.Reading.{Gave}
use Rattle.tl_hash.specs.Bytes.{Bytes}
use Rattle.tl_http.specs.FieldValues.{fields_of}
use Rattle.tl_http.specs.Fields.{HasFraming}
use Rattle.tl_http.specs.Get.{Receives}
use Rattle.tl_http.specs.Message.{IsSendable, Sent, sent_text}
use Rattle.tl_http.specs.Persistence.{Persists, body_framing}
use Rattle.tl_http.specs.Post.{Replied, ReplyDecides, value_bytes}
use Rattle.tl_http.specs.Response.{Begins, Begun, ResponseDecides, Unless}
use Rattle.tl_http.specs.declared.fault.HttpFault.{HttpFault}
use Rattle.tl_http.specs.declared.fault.HttpFault.TheVariants.{BadTarget, OutOfMemory, Write}
use Rattle.tl_http.specs.declared.framing.Framing.{Framing}
use Rattle.tl_http.specs.declared.message.Message.{Message}
use Rattle.tl_http.specs.declared.message.Response.{Response}

-- which responses are wanted: their statuses, the name of the field whose value is, and the most bytes of a body
pub record Sought : Type 0 where
  pub statuses : List ℕ
  pub field : Bytes
  pub limit : ℕ

-- what a call of `exchange` wants
abbrev pub sought : Message → ℕ → Sought
sought m limit = record { statuses = m.statuses.now; field = m.field.now; limit = limit }

-- the result of a call as a value, without whether the connection stays open
abbrev pub answered : {A : Type 0} → Result (Response A) HttpFault → Replied
answered (Ok response) =
    Ok (record { status = response.status; field = value_bytes response.field; body = vec_items response.body })
answered (Err fault) = Err fault

-- the response to a request: decided as a reply to POST, except that status 204 and 304 have no body
abbrev pub Answers : Sought → Bytes → Replied → Type 0
Answers s input r =
    ResponseDecides (λ status. Contains s.statuses status)
    (λ b framing. ReplyDecides s.field s.limit b (body_framing (status_code b.head) framing) r) input r

-- the result of `exchange`, by the first case that applies; i is the reader, o the writer:
--     BadTarget    the request can't be sent; nothing is written or read
--     OutOfMemory  an allocation for its head failed; nothing is written or read
--     Write        a write failed, after a part of the request; nothing is read
--     Read         the request was written, and a read failed
--     else         the request was written, and the response decides
abbrev pub Exchanges : Sent → Sought → Passage → Passage → Replied → Type 0
Exchanges m s i o r =
    Unless (IsSendable m) ((r ≡ Err BadTarget) × IsUnwritten o × IsUnread i)
    (((r ≡ Err OutOfMemory) × IsUnwritten o × IsUnread i)
    ⊎ ((r ≡ Err Write) × WrotePart o (sent_text m) × IsUnread i)
    ⊎ (WroteWhole o (sent_text m) × Receives (Answers s) i r))

-- the bytes read begin with a response's head, after interim ones or none. The connection stays open exactly if it
-- goes on after such a response, and what follows the head is its body and not one byte more
pub record LeavesOpen (i : Passage) (body : Bytes) (stays_open : Bool) : Type 0 where
  pub text : Bytes
  pub ended : Bool
  pub gave : Gave i text ended
  pub begun : Begun
  pub begins : Begins text begun
  pub framing : Framing
  pub framed : HasFraming (fields_of begun.head.fields) framing
  pub kept : IsTrue stays_open
      ↔ (Persists begun.head.minor (status_code begun.head) (fields_of begun.head.fields)
      (body_framing (status_code begun.head) framing)
      × (begun.rest ≡ body))
