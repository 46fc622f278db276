use Rattle.tl_command.proofs.MeasuringLemmas.{full_lengths, last_lengths}
use Rattle.tl_command.proofs.growing.measuring.Measuring.rest.Goals as goal

pub returns-then-count-eq0 : goal.returns-then-count-eq0
returns-then-count-eq0 g c = λ input was. full_lengths c.args.self input was c.requires.ended c.if-count-eq0.true

pub returns : goal.returns
returns g c = λ input was. last_lengths c.args.self input c.push.new.self.items was c.requires.ended c.in_ok-push.ensures.items
