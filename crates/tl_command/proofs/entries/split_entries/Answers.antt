use Rattle.std.proofs.Common.{◌∙◌, ◌++◌, ap, sym, map, vec_items, append-nil, arith}
use Rattle.std.proofs.lemmas.Grind.{common_steps}
use Rattle.tl_command.proofs.LinesLemmas.{entries_of_nothing}
use Rattle.tl_command.proofs.entries.split_entries.Goals as goal

pub returns-clause-entries : goal.returns-clause-entries
returns-clause-entries g c =
    let before = map vec_items c.loop-rest.entries.items in
    sym (append-nil before) ∙ ap (λ r. before ++ r) (sym (entries_of_nothing c.loop-rest.rest.now (sym c.loop-rest-test.ensures))) ∙ c.loop-rest.invariant.split

pub loop-rest-preserved : goal.loop-rest-preserved
loop-rest-preserved g c = grind (arith, common_steps)

pub loop-rest-smaller : goal.loop-rest-smaller
loop-rest-smaller g c = grind (arith, common_steps)
