-- The answers of a server (Amazon S3 API Reference, PutObject, GetObject and "Error responses"; RFC 9110, section
-- 15).
use Rattle.std.specs.Prelude.{ℕ, ◌==◌, ◌||◌, List, [], ◌∷◌, Option, Result, Ok, Err, codes, vec_items, if◌then◌else◌}
use Rattle.tl_device.specs.Device.{Passage}
use Rattle.tl_http.specs.Exchange.{Sought}
use Rattle.tl_http.specs.Post.{Given, value_bytes}
use Rattle.tl_hash.specs.Bytes.{Bytes}
use Rattle.tl_s3.specs.Objects.{Content, Place, get_request, put_request}
use Rattle.tl_s3.specs.Requests.{Asks}
use Rattle.tl_s3.specs.declared.fault.ObjectFault.{ObjectFault}
use Rattle.tl_s3.specs.declared.object.Condition.{Condition}
use Rattle.tl_s3.specs.declared.object.GetAnswer.{GetAnswer}
use Rattle.tl_s3.specs.declared.object.GetAnswer.TheVariants as get
use Rattle.tl_s3.specs.declared.object.GetReply.{GetReply}
use Rattle.tl_s3.specs.declared.object.PutAnswer.{PutAnswer}
use Rattle.tl_s3.specs.declared.object.PutAnswer.TheVariants as put
use Rattle.tl_s3.specs.declared.object.PutReply.{PutReply}
use Rattle.tl_s3.specs.Time.{Civil}

-- the statuses of responses that are accepted, with their bodies; any other is a fault with its number
abbrev pub answer_statuses : List ℕ
answer_statuses = 200 ∷ 201 ∷ 204 ∷ 400 ∷ 403 ∷ 404 ∷ 409 ∷ 412 ∷ 429 ∷ 500 ∷ 501 ∷ 503 ∷ []

-- the responses that are accepted: these statuses, bodies of at most `limit` bytes, and the entity tag
abbrev pub answers_sought : ℕ → Sought
answers_sought limit = record { statuses = answer_statuses; field = codes "etag"; limit = limit }

-- what a status answers to a put
abbrev pub put_answer : ℕ → PutAnswer
put_answer status =
    if status == 200 || status == 201 || status == 204 then put.Done
    else (if status == 412 then put.Refused else (if status == 409 then put.Conflict else put.Other status))

-- what a status answers to a get
abbrev pub get_answer : ℕ → GetAnswer
get_answer status =
    if status == 200 then get.Found else (if status == 404 then get.Missing else get.Other status)

-- an answer, and the response's entity tag and body
pub record Told (K : Type 0) : Type 0 where
  pub answer : K
  pub etag : Option Bytes
  pub body : Bytes

-- the answer in a response
abbrev pub tell : {K : Type 0} → (ℕ → K) → Given → Told K
tell answer given = record { answer = answer given.status; etag = given.field; body = given.body }

-- the result of a put as a value, without whether the connection stays open
abbrev pub put_told : {A : Type 0} → Result (PutReply A) ObjectFault → Result (Told PutAnswer) ObjectFault
put_told (Ok reply) =
    Ok (record { answer = reply.answer; etag = value_bytes reply.etag; body = vec_items reply.body })
put_told (Err fault) = Err fault

-- the result of a get as a value, without whether the connection stays open
abbrev pub get_told : {A : Type 0} → Result (GetReply A) ObjectFault → Result (Told GetAnswer) ObjectFault
get_told (Ok reply) =
    Ok (record { answer = reply.answer; etag = value_bytes reply.etag; body = vec_items reply.body })
get_told (Err fault) = Err fault

-- putting an object under a condition at this time; i is the reader, o the writer
abbrev pub PutsObject : Place → Civil → Content → Condition → Passage → Passage
    → Result (Told PutAnswer) ObjectFault → Type 0
PutsObject p t content condition i o told =
    Asks (tell put_answer) (put_request p t content condition) p.credential t content.body (answers_sought 65536)
    i o told

-- getting the object with this path, of at most `limit` bytes
abbrev pub GetsObject : Place → Civil → Bytes → ℕ → Passage → Passage
    → Result (Told GetAnswer) ObjectFault → Type 0
GetsObject p t path limit i o told =
    Asks (tell get_answer) (get_request p t path) p.credential t [] (answers_sought limit) i o told
