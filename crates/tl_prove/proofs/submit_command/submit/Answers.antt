use Rattle.std.proofs.Common.{option_map, vec_items, ◌∙◌}
use Rattle.tl_policy.specs.Terms.{terms_of}
use Rattle.tl_prove.proofs.CommandRuns.{by_host}
use Rattle.tl_prove.proofs.submit_command.submit.Goals as goal

pub returns : goal.returns
returns g c =
    by_host c.new-source-2.result c.args.url (terms_of c.args.policy.now) c.args.entry.now (option_map vec_items c.args.extra) c.in_ok-index.index c.in-Err.fault c.with_lack.result
    (c.new-source-2.ensures ∙ c.new-source.ensures) c.in_ok-index.ensures.taken c.in-Err.ensures c.with_lack.ensures
