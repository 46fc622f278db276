use Rattle.std.proofs.Common.{inl, inr, rules}
use Rattle.tl_cli.proofs.in_bucket.append_to.Goals as goal

pub returns-in_err-key : goal.returns-in_err-key
returns-in_err-key g c = inl (search rules)

pub returns-in_err-shelf : goal.returns-in_err-shelf
returns-in_err-shelf g c = inl (search rules)

pub returns : goal.returns
returns g c = inr (c.in_ok-shelf.shelf, c.in_ok-shelf.ensures, c.finish_and_append.ensures)
