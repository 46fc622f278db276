use Rattle.tl_ledger.proofs.Naming.{named_rest}
use Rattle.tl_ledger.proofs.opened.naming.+is_named.Goals as goal

pub returns-else-has_name : goal.returns-else-has_name
returns-else-has_name g t c =
    named_rest _ c.args.verifiers.now c.first-item.result c.args.name.now c.is_named.result c.in-len1-up.len_at_least c.first-item.is c.if-has_name.ensures.1 c.is_named.ensures
