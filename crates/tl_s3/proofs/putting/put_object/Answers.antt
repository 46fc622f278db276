use Rattle.std.proofs.Common.{◌∙◌, ◌++◌, [], Err, List, Ok, ap, codes, map}
use Rattle.std.proofs.lemmas.Result.{err_from_is_err_and}
use Rattle.tl_http.specs.Post.{value_bytes}
use Rattle.tl_s3.specs.Answers.{Told, answers_sought, put_answer, tell}
use Rattle.tl_s3.specs.Objects.{content_of, payload, place_of, put_fields, put_request}
use Rattle.tl_s3.specs.declared.object.PutAnswer.{PutAnswer}
use Rattle.tl_s3.proofs.AskLemmas.{asks_as, same_put_fields, same_request}
use Rattle.tl_s3.proofs.putting.put_object.Goals as goal
use Rattle.tl_s3.specs.declared.request.Field.{Field}
use Rattle.tl_s3.specs.CanonicalRequests.{field_of}
use Rattle.tl_s3.specs.Time.{time_text}

pub returns-in_err-response-clause-table : goal.returns-in_err-response-clause-table
returns-in_err-response-clause-table g c =
    let p = err_from_is_err_and c.from_residual-in_err-response.result c.from_residual-in_err-response.ensures.1 in
    let place = place_of c.args.bucket.now in
    let content = content_of c.args.object.now in
    let digest = c.in_ok-payload.ensures.digest in
    let fields = same_put_fields place.host content.cache_control content.content_type c.args.condition c.as_str.result.now (payload content.body) c.time.result.now (time_text c.args.moment.now)
    (map field_of c.as_slice.result.now) (ap (λ (l : List Field). map field_of l) c.as_slice.ensures.value ∙ c.in_ok-fields.ensures.fields) (c.as_str.ensures.value ∙ digest) c.time.ensures.text in
    let same = same_request (codes "PUT") [] c.as_str-2.result.now (place.prefix ++ content.path) (map field_of c.as_slice.result.now)
    (put_fields place.host content.cache_control content.content_type c.args.condition (payload content.body) (time_text c.args.moment.now)) c.as_str-3.result.now (payload content.body)
    (c.as_str-2.ensures.value ∙ c.in_ok-path.ensures.target) fields (c.as_str-3.ensures.value ∙ digest) in
    rw (p.1, p.2)
    (asks_as (Told PutAnswer) (tell put_answer) _ (put_request place c.args.moment.now content c.args.condition) place.credential c.args.moment.now content.body (answers_sought 65536) _ _
    (Err c.in_err-response.field-0.0) same c.in_err-response.ensures.table)

pub returns-clause-table : goal.returns-clause-table
returns-clause-table g c =
    let place = place_of c.args.bucket.now in
    let content = content_of c.args.object.now in
    let digest = c.in_ok-payload.ensures.digest in
    let fields = same_put_fields place.host content.cache_control content.content_type c.args.condition c.as_str.result.now (payload content.body) c.time.result.now (time_text c.args.moment.now)
    (map field_of c.as_slice.result.now) (ap (λ (l : List Field). map field_of l) c.as_slice.ensures.value ∙ c.in_ok-fields.ensures.fields) (c.as_str.ensures.value ∙ digest) c.time.ensures.text in
    let same = same_request (codes "PUT") [] c.as_str-2.result.now (place.prefix ++ content.path) (map field_of c.as_slice.result.now)
    (put_fields place.host content.cache_control content.content_type c.args.condition (payload content.body) (time_text c.args.moment.now)) c.as_str-3.result.now (payload content.body)
    (c.as_str-2.ensures.value ∙ c.in_ok-path.ensures.target) fields (c.as_str-3.ensures.value ∙ digest) in
    rw (c.reply_of.ensures.answer, c.reply_of.ensures.etag, c.reply_of.ensures.body)
    (asks_as (Told PutAnswer) (tell put_answer) _ (put_request place c.args.moment.now content c.args.condition) place.credential c.args.moment.now content.body (answers_sought 65536) _ _
    (Ok (record { status = c.in_ok-response.response.status; field = value_bytes c.in_ok-response.response.field; body = c.in_ok-response.response.body.items })) same c.in_ok-response.ensures.table)
