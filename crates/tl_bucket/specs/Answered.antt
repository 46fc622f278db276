-- The answers of a store to an operator, over some connection and at some time (Amazon S3 API Reference, PutObject
-- and GetObject).
use Rattle.std.specs.Prelude.{◌≡◌, ◌⊎◌, ℕ, [], ◌∷◌, ◌++◌, Option, Result, Ok}
use Rattle.tl_device.specs.Device.{Passage}
use Rattle.tl_hash.specs.Bytes.{Bytes}
use Rattle.tl_s3.specs.Answers.{Told, PutsObject, GetsObject}
use Rattle.tl_s3.specs.Objects.{Content, Place}
use Rattle.tl_s3.specs.declared.fault.ObjectFault.{ObjectFault}
use Rattle.tl_s3.specs.declared.object.Condition.{Condition}
use Rattle.tl_s3.specs.declared.object.GetAnswer.{GetAnswer}
use Rattle.tl_s3.specs.declared.object.GetAnswer.TheVariants as get
use Rattle.tl_s3.specs.declared.object.PutAnswer.{PutAnswer}
use Rattle.tl_s3.specs.declared.object.PutAnswer.TheVariants as put
use Rattle.tl_s3.specs.Time.{Civil}

-- a signed put of the object under the condition had this result
abbrev pub AnswersPut : Place → Content → Condition → Result (Told PutAnswer) ObjectFault → Type 0
AnswersPut p content condition told =
    (t : Civil) × (i : Passage) × (o : Passage) × PutsObject p t content condition i o told

-- a signed get of the object with this path, of at most `limit` bytes, had this result
abbrev pub AnswersGet : Place → Bytes → ℕ → Result (Told GetAnswer) ObjectFault → Type 0
AnswersGet p path limit told = (t : Civil) × (i : Passage) × (o : Passage) × GetsObject p t path limit i o told

-- a put of the object under the condition was written whole, signed, and answered with this
pub record WasPut (p : Place) (content : Content) (condition : Condition) (answer : PutAnswer) : Type 0 where
  pub etag : Option Bytes
  pub body : Bytes
  pub put : AnswersPut p content condition (Ok (record { answer = answer; etag = etag; body = body }))

-- the object with this path was read, with this content
pub record WasRead (p : Place) (path body : Bytes) : Type 0 where
  pub limit : ℕ
  pub etag : Option Bytes
  pub got : AnswersGet p path limit (Ok (record { answer = get.Found; etag = etag; body = body }))

-- the object with this path was asked for, and there was none
pub record WasMissing (p : Place) (path : Bytes) : Type 0 where
  pub limit : ℕ
  pub etag : Option Bytes
  pub body : Bytes
  pub got : AnswersGet p path limit (Ok (record { answer = get.Missing; etag = etag; body = body }))

-- the object was there with this content: a put of it under the condition was answered as done, or it was read
abbrev pub WasThere : Place → Content → Condition → Type 0
WasThere p content condition = WasPut p content condition put.Done ⊎ WasRead p content.path content.body

-- a put was answered as done, and the answer gave the object this entity tag (RFC 9110, section 8.8.3)
pub record WasPutWith (p : Place) (content : Content) (condition : Condition) (etag : Option Bytes) : Type 0 where
  pub body : Bytes
  pub put : AnswersPut p content condition (Ok (record { answer = put.Done; etag = etag; body = body }))

-- the object with this path was read, with this content and this entity tag
pub record WasReadWith (p : Place) (path body : Bytes) (etag : Option Bytes) : Type 0 where
  pub limit : ℕ
  pub got : AnswersGet p path limit (Ok (record { answer = get.Found; etag = etag; body = body }))

-- the object was there with this content and this entity tag
abbrev pub WasThereWith : Place → Content → Condition → Option Bytes → Type 0
WasThereWith p content condition etag = WasPutWith p content condition etag ⊎ WasReadWith p content.path content.body etag

-- an entity tag as If-Match takes it: without its quotes, if it has any
abbrev pub IsBare : Bytes → Bytes → Type 0
IsBare etag tag = (etag ≡ tag) ⊎ (etag ≡ 34 ∷ tag ++ 34 ∷ [])
