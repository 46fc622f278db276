use Rattle.tl_serve.proofs.AtOnce.{board_closed, board_open}
use Rattle.tl_serve.proofs.resources.OnBoardResources.answer.Goals as goal

pub returns-then-self : goal.returns-then-self
returns-then-self g c =
    board_open c.args.self.now.is_open _ _ _ _ c.args.self.now.board c.serve_open_log.new.board c.if-self.true c.serve_open_log.result c.serve_open_log.ensures

pub returns : goal.returns
returns g c =
    board_closed c.args.self.now.is_open _ _ _ _ c.args.self.now.board c.serve_log.new.board c.if-self.false c.serve_log.result c.outcome_of.result c.outcome_of.ensures c.serve_log.ensures
