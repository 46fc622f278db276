use Rattle.std.specs.Prelude.{bytes_eq}
use Rattle.std.specs.List.{list_any}
use Rattle.tl_policy.specs.Terms.{log_term, witness_term, terms_of}
use Rattle.tl_policy.proofs.ListLaws.{any_seen, or_first, or_second}
use Rattle.tl_policy.proofs.naming.has_key.Goals as goal

pub returns-then-is_of_log : goal.returns-then-is_of_log
returns-then-is_of_log g c =
    or_first (list_any (λ l. bytes_eq l.key.key c.args.key.now) (terms_of c.args.policy.now).logs) (list_any (λ w. bytes_eq w.key.key c.args.key.now) (terms_of c.args.policy.now).witnesses)
    c.is_of_log.result c.if-is_of_log.true
    (any_seen log_term (λ l. bytes_eq l.key.key c.args.key.now) c.args.policy.now.logs.items c.as_slice.result.now c.is_of_log.result c.as_slice.ensures.value c.is_of_log.ensures)

pub returns-else-is_of_log : goal.returns-else-is_of_log
returns-else-is_of_log g c =
    or_second (list_any (λ l. bytes_eq l.key.key c.args.key.now) (terms_of c.args.policy.now).logs) (list_any (λ w. bytes_eq w.key.key c.args.key.now) (terms_of c.args.policy.now).witnesses)
    c.is_of_log.result c.is_of_witness.result c.if-is_of_log.false
    (any_seen log_term (λ l. bytes_eq l.key.key c.args.key.now) c.args.policy.now.logs.items c.as_slice.result.now c.is_of_log.result c.as_slice.ensures.value c.is_of_log.ensures)
    (any_seen witness_term (λ w. bytes_eq w.key.key c.args.key.now) c.args.policy.now.witnesses.items c.as_slice-else-is_of_log.result.now c.is_of_witness.result c.as_slice-else-is_of_log.ensures.value c.is_of_witness.ensures)
