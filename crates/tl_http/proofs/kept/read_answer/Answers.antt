use Rattle.std.proofs.Common.{Contains, arith}
use Rattle.std.proofs.lemmas.Grind.{common_steps}
use Rattle.tl_http.specs.Exchange.{Answers, sought}
use Rattle.tl_http.proofs.AnswerLemmas.{answer_alone, answer_no_body, answer_no_field, answer_open, answer_whole}
use Rattle.tl_http.proofs.Failing.{no_answer}
use Rattle.tl_http.proofs.kept.read_answer.Goals as goal

pub returns-in_err-taken-clause-table : goal.returns-in_err-taken-clause-table
returns-in_err-taken-clause-table g c =
    no_answer (Answers (sought c.args.message.now c.args.limit)) _ c.from_residual.result _ c.from_residual.ensures.1
    (answer_alone (sought c.args.message.now c.args.limit) _ _ c.in_err-taken.ensures)

pub returns-in_err-field-clause-table : goal.returns-in_err-field-clause-table
returns-in_err-field-clause-table g c =
    no_answer (Answers (sought c.args.message.now c.args.limit)) _ c.from_residual-in_err-field.result _ c.from_residual-in_err-field.ensures.1
    (answer_no_field (sought c.args.message.now c.args.limit) _ c.read_taken.new.buf c.read_taken.new.headers c.in_ok-taken.taken c.in_ok-taken.ensures
    (rw (c.as_bytes-name.ensures.value) at c.in_err-field.ensures))

pub returns-in_err-body-clause-table : goal.returns-in_err-body-clause-table
returns-in_err-body-clause-table g c =
    no_answer (Answers (sought c.args.message.now c.args.limit)) _ c.from_residual-in_err-body.result _ c.from_residual-in_err-body.ensures.1
    (answer_no_body (sought c.args.message.now c.args.limit) _ _ _ _ _ _ c.read_taken.new.buf c.read_taken.new.headers c.in_ok-taken.taken _ c.in_ok-taken.ensures
    (rw (c.body_framing-framing.ensures.framing) at c.in_err-body.ensures.decides))

pub returns-clause-table : goal.returns-clause-table
returns-clause-table g c =
    answer_whole (sought c.args.message.now c.args.limit) _ _ _ _ _ _ c.read_taken.new.buf c.read_taken.new.headers c.in_ok-taken.taken _ _ c.in_ok-taken.ensures
    (rw (c.as_bytes-name.ensures.value) at c.in_ok-field.ensures)
    (rw (c.body_framing-framing.ensures.framing) at c.in_ok-body.ensures.decides)

pub returns-clause-open : goal.returns-clause-open
returns-clause-open g c =
    answer_open _ _ _ _ _ _ c.read_taken.new.buf c.read_taken.new.headers c.in_ok-taken.taken (Contains c.args.message.now.statuses.now) _ c.persists-goes_on.result _ c.args.limit c.in_ok-taken.ensures
    (rw (c.body_framing-framing.ensures.framing) at c.in_ok-body.ensures.decides)
    (rw (c.body_framing-framing.ensures.framing) at c.in_ok-body.ensures.full)
    (rw (c.body_framing-framing.ensures.framing) at c.persists-goes_on.ensures.persists)
    (rw (c.as_slice.ensures.value) at c.is_left_open-stays_open.ensures.open)

pub copy_value-requires : goal.copy_value-requires
copy_value-requires g c = grind (arith, common_steps)

pub persists-goes_on-requires : goal.persists-goes_on-requires
persists-goes_on-requires g c = grind (arith, common_steps)

pub slice_bounds-copy_value-end : goal.slice_bounds-copy_value-end
slice_bounds-copy_value-end g c = grind (arith, common_steps)
