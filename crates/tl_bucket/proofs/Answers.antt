-- What answers to requests show.
use Rattle.std.proofs.Common.{◌≡◌, ℕ, Global, inl, inr, sym, subst, string_bytes, vec_items, Option, Some, String}
use Rattle.std.specs.Prelude.{Ok, Err, Result, IfOk}
use Rattle.tl_device.specs.Device.{Passage}
use Rattle.tl_http.specs.Post.{value_bytes}
use Rattle.tl_hash.specs.Bytes.{Bytes}
use Rattle.tl_s3.specs.Answers.{GetsObject, PutsObject, Told, get_told, put_told}
use Rattle.tl_s3.specs.Objects.{Content, Place}
use Rattle.tl_s3.specs.declared.object.Condition.{Condition}
use Rattle.tl_s3.specs.declared.object.GetAnswer.{GetAnswer}
use Rattle.tl_s3.specs.declared.object.GetAnswer.TheVariants as get
use Rattle.tl_s3.specs.declared.object.GetReply.{GetReply}
use Rattle.tl_s3.specs.declared.object.PutAnswer.{PutAnswer}
use Rattle.tl_s3.specs.declared.object.PutAnswer.TheVariants as put
use Rattle.tl_s3.specs.declared.object.PutReply.{PutReply}
use Rattle.tl_s3.specs.declared.fault.ObjectFault.{ObjectFault}
use Rattle.tl_s3.specs.Time.{Civil}
use Rattle.tl_bucket.specs.Answered.{AnswersGet, AnswersPut, IsBare, WasMissing, WasPut, WasPutWith, WasRead, WasReadWith, WasThere, WasThereWith}
use Rattle.tl_bucket.specs.Inner.Outcomes.{Concludes, Tells}
use Rattle.tl_bucket.specs.declared.asking.PutOutcome.{PutOutcome}
use Rattle.tl_bucket.specs.declared.asking.PutOutcome.TheVariants as outcome
use Rattle.tl_bucket.specs.declared.fault.BucketFault.{BucketFault}

-- an answer to a put
was_put : (p : Place) (content : Content) (condition : Condition) (reply : PutReply Global) (answer : PutAnswer) → AnswersPut p content condition (put_told (Ok reply)) → reply.answer ≡ answer → WasPut p content condition answer
was_put p content condition reply answer answered is =
    let told : PutAnswer → Type 0 = λ a. AnswersPut p content condition (Ok (record { answer = a; etag = value_bytes reply.etag; body = vec_items reply.body })) in
    record { etag = value_bytes reply.etag; body = vec_items reply.body; put = subst told is answered }

pub concluded : (p : Place) (content : Content) (condition : Condition) (reply : PutReply Global) (r : Result PutOutcome BucketFault) → AnswersPut p content condition (put_told (Ok reply))
    → IfOk r (Tells reply.answer (value_bytes reply.etag)) → IfOk r (Concludes p content condition)
concluded p content condition reply (Ok (outcome.Done tag)) answered is =
    let told : PutAnswer → Type 0 = λ a. AnswersPut p content condition (Ok (record { answer = a; etag = value_bytes reply.etag; body = vec_items reply.body })) in
    inl (subst (WasPutWith p content condition) (sym is.1) (record { body = vec_items reply.body; put = subst told is.0 answered }))
concluded p content condition reply (Ok outcome.Refused) answered is = was_put p content condition reply put.Refused answered is
concluded p content condition reply (Err fault) answered is = tt

-- what was read with a tag was read, and what was there with one was there
pub read : (p : Place) (path body : Bytes) (etag : Option Bytes) → WasReadWith p path body etag → WasRead p path body
read p path body etag with_it = record { limit = with_it.limit; etag = etag; got = with_it.got }

pub there : (p : Place) (content : Content) (condition : Condition) (etag : Option Bytes) → WasThereWith p content condition etag → WasThere p content condition
there p content condition etag (inl put) = inl (record { etag = etag; body = put.body; put = put.put })
there p content condition etag (inr got) = inr (read p content.path content.body etag got)

-- the tag of what was read, if its bytes are these
pub tag_of : (p : Place) (path body note : Bytes) (etag : Option Bytes) (r : Result (String Global) BucketFault) → WasReadWith p path body etag → body ≡ note
    → IfOk r (λ tag. (text : Bytes) × (etag ≡ Some text) × IsBare text (string_bytes tag)) → IfOk r (λ tag. (text : Bytes) × WasReadWith p path note (Some text) × IsBare text (string_bytes tag))
tag_of p path body note etag (Ok tag) found same is =
    (is.0, subst (λ (bytes : Bytes). WasReadWith p path bytes (Some is.0)) same (subst (WasReadWith p path body) is.1 found), is.2)
tag_of p path body note etag (Err fault) found same is = tt

-- an answer to a get
pub was_read : (p : Place) (path : Bytes) (limit : ℕ) (reply : GetReply Global) → AnswersGet p path limit (get_told (Ok reply)) → reply.answer ≡ get.Found → WasReadWith p path (vec_items reply.body) (value_bytes reply.etag)
was_read p path limit reply answered is =
    let told : GetAnswer → Type 0 = λ a. AnswersGet p path limit (Ok (record { answer = a; etag = value_bytes reply.etag; body = vec_items reply.body })) in
    record { limit = limit; got = subst told is answered }

pub was_missing : (p : Place) (path : Bytes) (limit : ℕ) (reply : GetReply Global) → AnswersGet p path limit (get_told (Ok reply)) → reply.answer ≡ get.Missing → WasMissing p path
was_missing p path limit reply answered is =
    let told : GetAnswer → Type 0 = λ a. AnswersGet p path limit (Ok (record { answer = a; etag = value_bytes reply.etag; body = vec_items reply.body })) in
    record { limit = limit; etag = value_bytes reply.etag; body = vec_items reply.body; got = subst told is answered }

-- ---- over a connection

pub answered_put : (p q : Place) (t : Civil) (content : Content) (condition : Condition) (i o : Passage) (told : Result (Told PutAnswer) ObjectFault) → q ≡ p → PutsObject q t content condition i o told → AnswersPut p content condition told
answered_put p q t content condition i o told same table = (t, i, o, subst (λ (x : Place). PutsObject x t content condition i o told) same table)

pub answered_get : (p q : Place) (t : Civil) (path : Bytes) (limit : ℕ) (i o : Passage) (told : Result (Told GetAnswer) ObjectFault) → q ≡ p → GetsObject q t path limit i o told → AnswersGet p path limit told
answered_get p q t path limit i o told same table = (t, i, o, subst (λ (x : Place). GetsObject x t path limit i o told) same table)
