use Rattle.std.proofs.Common.{inl, inr, rules}
use Rattle.tl_cli.proofs.Buckets.{is_refused}
use Rattle.tl_cli.proofs.in_bucket.serve_from.Goals as goal

pub returns-in_err-shown : goal.returns-in_err-shown
returns-in_err-shown g c = inl (is_refused c.from_residual-in_err-shown.result c.from_residual-in_err-shown.ensures.0, search rules)

pub returns : goal.returns
returns g c = inr (c.in_ok-shelf.shelf, c.in_ok-shelf.ensures, c.finish_and_serve.ensures)

pub returns-in_err-shelf : goal.returns-in_err-shelf
returns-in_err-shelf g c = inl (is_refused c.from_residual-in_err-shelf.result c.from_residual-in_err-shelf.ensures.0, search rules)

pub returns-in_err-key : goal.returns-in_err-key
returns-in_err-key g c = inl (is_refused c.from_residual.result c.from_residual.ensures.0, search rules)
