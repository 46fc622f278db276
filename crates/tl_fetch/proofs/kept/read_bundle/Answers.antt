use Rattle.tl_fetch.proofs.kept.read_bundle.Goals as goal

pub returns-in-Err-clause-refused : goal.returns-in-Err-clause-refused
returns-in-Err-clause-refused g c = (c.read_entries_after.new.fetched, (c.args.kept.now, c.requires, c.read_entries_after.ensures.served), c.in-Err.ensures.refused)
