-- An answer over HTTP/1.1 (RFC 9112, sections 4 to 6), after which the connection is closed.
use Rattle.std.specs.Prelude.{ℕ, [], ◌∷◌, ◌++◌, length, ◌==◌, if◌then◌else◌, codes, decimal}
use Rattle.std.specs.List.{flat_map}
use Rattle.tl_hash.specs.Bytes.{Bytes}

-- an answer: the status, the allowed method if another one was used, and a body with its media type
pub record Answer : Type 0 where
  pub status : ℕ
  pub allow : Bytes
  pub kind : Bytes
  pub body : Bytes

-- an answer with no body
abbrev pub bare : ℕ → Answer
bare status = record { status = status; allow = []; kind = []; body = [] }

-- the answer to a method other than the one allowed (RFC 9110, section 15.5.6)
abbrev pub not_allowed : Bytes → Answer
not_allowed method = record { status = 405; allow = method; kind = []; body = [] }

-- the reason phrase of a status (RFC 9110, section 15; RFC 6585, section 5)
abbrev pub phrase : ℕ → Bytes
phrase status =
    if status == 200 then codes "OK"
    else if status == 400 then codes "Bad Request"
    else if status == 403 then codes "Forbidden"
    else if status == 404 then codes "Not Found"
    else if status == 405 then codes "Method Not Allowed"
    else if status == 409 then codes "Conflict"
    else if status == 413 then codes "Payload Too Large"
    else if status == 422 then codes "Unprocessable Entity"
    else if status == 431 then codes "Request Header Fields Too Large"
    else if status == 503 then codes "Service Unavailable"
    else codes "Internal Server Error"

-- the end of a line of a head
abbrev pub crlf : Bytes
crlf = 13 ∷ 10 ∷ []

-- a field of a head, left out if it has no value
abbrev pub field_line : Bytes → Bytes → Bytes
field_line name [] = []
field_line name (b ∷ value) = name ++ (b ∷ value) ++ crlf

-- the field of a 503 that gives the seconds after which to ask again (RFC 9110, section 10.2.3)
abbrev pub retry_line : ℕ → Bytes
retry_line status = if status == 503 then codes "Retry-After: 1" ++ crlf else []

-- the field with the type of a body, left out if there is no body
abbrev pub type_line : Bytes → Bytes → Bytes
type_line kind [] = []
type_line kind (b ∷ body) = codes "Content-Type: " ++ kind ++ crlf

-- media types of bodies (C2SP tlog-tiles, tlog-witness)
abbrev pub plain_text : Bytes
plain_text = codes "text/plain; charset=utf-8"

abbrev pub octets : Bytes
octets = codes "application/octet-stream"

abbrev pub log_size : Bytes
log_size = codes "text/x.tlog.size"

-- the answer to an entry that isn't published: the log takes nothing now, or it took too long
abbrev pub busy : Answer
busy = record { status = 503; allow = []; kind = plain_text; body = codes "not published yet: post it again\n" }

-- the bytes of an answer, piece by piece: the status line, the fields, an empty line, the body
unfoldable pub answer_text : Answer → Bytes
answer_text a = flat_map (λ piece. piece) (
    codes "HTTP/1.1 " ∷ decimal a.status ∷ codes " " ∷ phrase a.status ∷ crlf
    ∷ field_line (codes "Allow: ") a.allow
    ∷ retry_line a.status
    ∷ type_line a.kind a.body
    ∷ codes "Content-Length: " ∷ decimal (length a.body) ∷ crlf
    ∷ codes "Connection: close" ∷ crlf
    ∷ crlf
    ∷ a.body ∷ [])
