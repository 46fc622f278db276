use Rattle.tl_logs.specs.ReadLogs.{logs_shown}
use Rattle.tl_logs.specs.Inner.Lines.{given_by}
use Rattle.tl_logs.proofs.Placed.{taken}
use Rattle.tl_logs.proofs.placing.take_line.Goals as goal

pub returns-in-Some-clause-taken : goal.returns-in-Some-clause-taken
returns-in-Some-clause-taken g c =
    taken c.args.words.now (given_by c.in-Some.line) (logs_shown c.args.logs.now.items) (logs_shown c.put_key.new.logs.items) c.put_key.result
    (rw c.in-Some.is at c.in-Ok.ensures) c.put_key.ensures.placed
