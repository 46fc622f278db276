use Rattle.tl_command.proofs.LinesLemmas.{entries_at_found, entries_if_none_found}
use Rattle.tl_command.proofs.entries.first_entry.Goals as goal

pub returns-in-Some-clause-entry : goal.returns-in-Some-clause-entry
returns-in-Some-clause-entry c =
    let found = c.in-Some.ensures in
    entries_at_found c.args.input.now c.in-Some.end found.0.high found.1 found.0.before

pub returns-in-None-clause-entry : goal.returns-in-None-clause-entry
returns-in-None-clause-entry c = entries_if_none_found c.args.input.now c.requires c.in-None.ensures
