use Rattle.std.proofs.Common.{Contains, arith}
use Rattle.std.proofs.lemmas.Grind.{common_steps}
use Rattle.tl_http.specs.Post.{Given, Replies, ReplyDecides}
use Rattle.tl_http.proofs.ExchangeLemmas.{decides_alone}
use Rattle.tl_http.proofs.Failing.{no_reply}
use Rattle.tl_http.proofs.ReplyLemmas.{no_body, no_field, whole_reply}
use Rattle.tl_http.proofs.posting.read_reply.Goals as goal

pub returns-in_err-taken : goal.returns-in_err-taken
returns-in_err-taken g c =
    no_reply (Replies c.args.statuses.now c.args.name.now c.args.limit) _ c.from_residual.result _ c.from_residual.ensures.1
    (decides_alone Given (Contains c.args.statuses.now) (λ b framing r. ReplyDecides c.args.name.now c.args.limit b framing r) _ _ c.in_err-taken.ensures)

pub returns-in_err-field : goal.returns-in_err-field
returns-in_err-field g c =
    no_reply (Replies c.args.statuses.now c.args.name.now c.args.limit) _ c.from_residual-in_err-field.result _ c.from_residual-in_err-field.ensures.1
    (no_field c.args.statuses.now c.args.name.now c.args.limit _ c.read_taken.new.buf c.read_taken.new.headers c.in_ok-taken.taken c.in_ok-taken.ensures c.in_err-field.ensures)

pub returns-in_err-body : goal.returns-in_err-body
returns-in_err-body g c =
    no_reply (Replies c.args.statuses.now c.args.name.now c.args.limit) _ c.from_residual-in_err-body.result _ c.from_residual-in_err-body.ensures.1
    (no_body c.args.statuses.now c.args.name.now c.args.limit _ _ _ _ _ _ c.read_taken.new.buf c.read_taken.new.headers c.in_ok-taken.taken _ c.in_ok-taken.ensures c.in_err-body.ensures.decides)

pub returns : goal.returns
returns g c =
    whole_reply c.args.statuses.now c.args.name.now c.args.limit _ _ _ _ _ _ c.read_taken.new.buf c.read_taken.new.headers c.in_ok-taken.taken _ _ c.in_ok-taken.ensures c.in_ok-field.ensures c.in_ok-body.ensures.decides

pub copy_value-requires : goal.copy_value-requires
copy_value-requires g c = grind (arith, common_steps)

pub slice_bounds-copy_value-end : goal.slice_bounds-copy_value-end
slice_bounds-copy_value-end g c = grind (arith, common_steps)
