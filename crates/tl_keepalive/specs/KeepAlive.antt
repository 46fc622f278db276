-- Whether a connection stays open after an answer (RFC 9112, sections 9.3 and 9.6), and the text of that answer.
use Rattle.std.specs.Prelude.{◌≡◌, ℕ, ◌+◌, ◌≤◌, ◌==◌, ◌&&◌, ◌||◌, Bool, not, IsTrue, [], ◌∷◌, Result, Ok, Err, codes, drop, length, if◌then◌else◌, nat_eq}
use Rattle.std.specs.List.{starts_with}
use Rattle.http1.specs.Fields.{known_fields}
use Rattle.http1.specs.Framing.{method_kind, request_framing}
use Rattle.http1.specs.declared.fields.KnownFields.{KnownFields}
use Rattle.http1.specs.declared.framing.Framing.{Framing}
use Rattle.http1.specs.declared.framing.Framing.TheVariants.{NoBody, Length, Chunked, UntilClose}
use Rattle.http1.specs.declared.framing.FramingError.{FramingError}
use Rattle.httparse.specs.Grammar.{RequestHead, print_request}
use Rattle.tl_hash.specs.Bytes.{Bytes}
use Rattle.tl_http.specs.FieldValues.{fields_of}
use Rattle.tl_server.specs.Answer.{Answer, answer_text}
use Rattle.tl_server.specs.Head.{HasHead}

-- what the fields of a head say of the connection and of the body
abbrev pub known : RequestHead → KnownFields
known head = known_fields (fields_of head.fields)

-- whether the client would send another request: by HTTP/1.1 unless it says `close`, by HTTP/1.0 only if it says
-- `keep-alive`
abbrev pub asks_to_stay : RequestHead → Bool
asks_to_stay head = not (known head).close && ((head.minor == 1) || (known head).keep_alive)

-- whether a connection may stay after an answer with this status: it closes after 400, 413, 431 and 500
abbrev pub may_follow : ℕ → Bool
may_follow status = not ((status == 400) || ((status == 413) || ((status == 431) || (status == 500))))

-- a request framed like this has a body of n bytes, whose length its head says
abbrev pub HasLength : Result Framing FramingError → ℕ → Type 0
HasLength (Ok NoBody) n = n ≡ 0
HasLength (Ok (Length m)) n = n ≡ m
HasLength (Ok Chunked) n = ⊥
HasLength (Ok UntilClose) n = ⊥
HasLength (Err e) n = ⊥

-- the bytes begin with a request of `end` bytes, whose body came whole, and the connection stays after an answer to it
-- with this status
pub record Stays (bytes : Bytes) (status end : ℕ) : Type 0 where
  pub head : RequestHead
  pub rest : Bytes
  pub body : ℕ
  pub begins : HasHead bytes head rest
  pub asked : IsTrue (asks_to_stay head)
  pub answered : IsTrue (may_follow status)
  pub sized : HasLength (request_framing (method_kind head.method) head.minor (known head)) body
  pub whole : body ≤ length rest
  pub end_is : end ≡ length (print_request head) + body

-- the bytes without the first place at which this text stands in them
unfoldable pub without : Bytes → Bytes → Bytes
without text [] = []
without text (b ∷ bytes) = if starts_with nat_eq (b ∷ bytes) text then drop (length text) (b ∷ bytes) else b ∷ without text bytes

-- an answer after which the connection stays open: its text without the field Connection
abbrev pub kept_text : Answer → Bytes
kept_text a = without (codes "Connection: close\r\n") (answer_text a)

-- the client waits for 100 before it sends the body (RFC 9110, section 10.1.1): its head came, and nothing behind it
pub record WaitsForContinue (bytes : Bytes) : Type 0 where
  pub head : RequestHead
  pub begins : HasHead bytes head []
  pub version : head.minor ≡ 1
  pub expects : IsTrue (known head).expect_continue
