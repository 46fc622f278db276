use Rattle.std.proofs.Common.{vec_items, arith}
use Rattle.std.proofs.lemmas.Grind.{common_steps}
use Rattle.sha2.specs.Sha256.{sha256}
use Rattle.tl_fetch.proofs.EntryLemmas.{checked_entry}
use Rattle.tl_fetch.proofs.entry.fetch_entry.Goals as goal

pub returns-clause-entry : goal.returns-clause-entry
returns-clause-entry g c =
    checked_entry vec_items sha256 c.args.head.now c.args.index _ c.in_ok-entries.entries.items c.swap_remove.result
    (omega (arith, c.if-index-size.false)) c.in_ok-entries.ensures.within c.in_ok-entries.ensures.verified c.in_ok-entries.ensures.entries c.swap_remove.ensures.value

pub returns-in_err-entries-clause-refused : goal.returns-in_err-entries-clause-refused
returns-in_err-entries-clause-refused g c = grind (arith, common_steps)
