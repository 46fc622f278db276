use Rattle.std.proofs.Common.{Contains, arith}
use Rattle.std.proofs.lemmas.Grind.{common_steps}
use Rattle.tl_http.proofs.ExchangeLemmas.{head_alone, no_head}
use Rattle.tl_http.proofs.taken.read_taken.Goals as goal

pub returns-in-Missing : goal.returns-in-Missing
returns-in-Missing g c = no_head (Contains c.args.statuses.now) _ c.in-Missing.ensures

pub returns-in-Err : goal.returns-in-Err
returns-in-Err g c =
    head_alone (Contains c.args.statuses.now) _ c.read_head.new.buf c.read_head.new.headers c.in-Head.start c.in-Head.len c.in-Head.spans c.in-Err.fault c.in-Head.ensures c.in-Err.ensures

pub announced-requires : goal.announced-requires
announced-requires g c = grind (arith, common_steps)
