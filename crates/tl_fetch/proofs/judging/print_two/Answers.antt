use Rattle.std.proofs.Common.{◌++◌, ◌+◌, inr, length, refl}
use Rattle.tl_fetch.proofs.ListingLemmas.{part_after}
use Rattle.tl_fetch.proofs.judging.print_two.Goals as goal

pub returns-in-Err-clause-part : goal.returns-in-Err-clause-part
returns-in-Err-clause-part g c =
    let part = c.in-Err.ensures.part in
    let first = c.args.first.now in
    let second = c.args.second.now in
    inr (
      first ++ second,
      refl,
      length first + part.count,
      part_after _ _ _ first second part.count c.in_ok-print_text.ensures.whole.appended part.appended,
    )
