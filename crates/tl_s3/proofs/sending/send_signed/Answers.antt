use Rattle.std.proofs.Common.{◌∙◌, List, ap, map}
use Rattle.std.proofs.lemmas.Result.{err_from_is_err_and}
use Rattle.tl_http.specs.Message.{field_of}
use Rattle.tl_http.specs.declared.message.FieldLine.{FieldLine}
use Rattle.tl_s3.specs.Answers.{answers_sought}
use Rattle.tl_s3.proofs.AskLemmas.{asks_signed}
use Rattle.tl_s3.proofs.sending.send_signed.Goals as goal
use Rattle.tl_s3.specs.CanonicalRequests.{credential_of, request_of}

pub returns-in_err-response-clause-table : goal.returns-in_err-response-clause-table
returns-in_err-response-clause-table g c =
    let p = err_from_is_err_and c.from_residual-in_err-response.result c.from_residual-in_err-response.ensures.1 in
    rw (p.1, p.2)
    (asks_signed (request_of c.args.request.now) (credential_of c.args.credential.now) c.args.moment.now c.args.body.now (answers_sought c.args.limit) _ _ _ c.as_str.result.now _
    (c.is_canonical.ensures.canonical.0 c.if-not-is_canonical.false)
    (ap (λ (l : List FieldLine). map field_of l) c.as_slice.ensures.value ∙ c.in_ok-lines.ensures.lines)
    (c.as_str.ensures.value ∙ c.in_ok-value.ensures.value)
    c.in_err-response.ensures.table)

pub returns-clause-table : goal.returns-clause-table
returns-clause-table g c =
    asks_signed (request_of c.args.request.now) (credential_of c.args.credential.now) c.args.moment.now c.args.body.now (answers_sought c.args.limit) _ _ _ c.as_str.result.now _
    (c.is_canonical.ensures.canonical.0 c.if-not-is_canonical.false)
    (ap (λ (l : List FieldLine). map field_of l) c.as_slice.ensures.value ∙ c.in_ok-lines.ensures.lines)
    (c.as_str.ensures.value ∙ c.in_ok-value.ensures.value)
    c.in_ok-response.ensures.table
