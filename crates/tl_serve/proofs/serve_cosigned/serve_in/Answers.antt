use Rattle.std.proofs.Common.{sym}
use Rattle.tl_serve.proofs.Proposals.{newest_as}
use Rattle.tl_serve.proofs.serve_cosigned.serve_in.Goals as goal

pub returns-clause-newest : goal.returns-clause-newest
returns-clause-newest g c =
    newest_as _ _ _ (g.T.ProposalStore.may_have c.args.log.store) _ _ _ _ _ _ _ _ _ c.new-cosigned.ensures.kept (sym c.into_shelf-shelf.ensures.kept) c.new-cosigned.ensures.trace (sym c.into_shelf-shelf.ensures.trace)
    c.new-cosigned.ensures.may_have c.run_serve_shelf-shelf.ensures.newest
