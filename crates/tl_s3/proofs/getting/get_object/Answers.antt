use Rattle.std.proofs.Common.{◌∙◌, ◌++◌, [], Err, List, Ok, ap, codes, map}
use Rattle.std.proofs.lemmas.Result.{err_from_is_err_and}
use Rattle.tl_http.specs.Post.{value_bytes}
use Rattle.tl_s3.specs.Answers.{Told, answers_sought, get_answer, tell}
use Rattle.tl_s3.specs.Objects.{get_fields, get_request, payload, place_of}
use Rattle.tl_s3.specs.declared.object.GetAnswer.{GetAnswer}
use Rattle.tl_s3.proofs.AskLemmas.{asks_as, same_get_fields, same_request}
use Rattle.tl_s3.proofs.getting.get_object.Goals as goal
use Rattle.tl_s3.specs.declared.request.Field.{Field}
use Rattle.tl_s3.specs.CanonicalRequests.{field_of}
use Rattle.tl_s3.specs.Time.{time_text}

pub returns-in_err-response-clause-table : goal.returns-in_err-response-clause-table
returns-in_err-response-clause-table g c =
    let p = err_from_is_err_and c.from_residual-in_err-response.result c.from_residual-in_err-response.ensures.1 in
    let place = place_of c.args.bucket.now in
    let digest = c.in_ok-payload.ensures.digest in
    let fields = same_get_fields place.host c.as_str.result.now (payload []) c.time.result.now (time_text c.args.moment.now)
    (map field_of c.as_slice.result.now) (ap (λ (l : List Field). map field_of l) c.as_slice.ensures.value ∙ c.in_ok-fields.ensures.fields) (c.as_str.ensures.value ∙ digest) c.time.ensures.text in
    let same = same_request (codes "GET") [] c.as_str-2.result.now (place.prefix ++ c.args.path.now) (map field_of c.as_slice.result.now)
    (get_fields place.host (payload []) (time_text c.args.moment.now)) c.as_str-3.result.now (payload [])
    (c.as_str-2.ensures.value ∙ c.in_ok-path.ensures.target) fields (c.as_str-3.ensures.value ∙ digest) in
    rw (p.1, p.2)
    (asks_as (Told GetAnswer) (tell get_answer) _ (get_request place c.args.moment.now c.args.path.now) place.credential c.args.moment.now [] (answers_sought c.args.limit) _ _
    (Err c.in_err-response.field-0.0) same c.in_err-response.ensures.table)

pub returns-clause-table : goal.returns-clause-table
returns-clause-table g c =
    let place = place_of c.args.bucket.now in
    let digest = c.in_ok-payload.ensures.digest in
    let fields = same_get_fields place.host c.as_str.result.now (payload []) c.time.result.now (time_text c.args.moment.now)
    (map field_of c.as_slice.result.now) (ap (λ (l : List Field). map field_of l) c.as_slice.ensures.value ∙ c.in_ok-fields.ensures.fields) (c.as_str.ensures.value ∙ digest) c.time.ensures.text in
    let same = same_request (codes "GET") [] c.as_str-2.result.now (place.prefix ++ c.args.path.now) (map field_of c.as_slice.result.now)
    (get_fields place.host (payload []) (time_text c.args.moment.now)) c.as_str-3.result.now (payload [])
    (c.as_str-2.ensures.value ∙ c.in_ok-path.ensures.target) fields (c.as_str-3.ensures.value ∙ digest) in
    rw (c.answer_of.ensures.answer)
    (asks_as (Told GetAnswer) (tell get_answer) _ (get_request place c.args.moment.now c.args.path.now) place.credential c.args.moment.now [] (answers_sought c.args.limit) _ _
    (Ok (record { status = c.in_ok-response.response.status; field = value_bytes c.in_ok-response.response.field; body = c.in_ok-response.response.body.items })) same c.in_ok-response.ensures.table)
