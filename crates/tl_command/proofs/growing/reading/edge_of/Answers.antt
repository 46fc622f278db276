use Rattle.std.proofs.Common.{[]}
use Rattle.tl_command.proofs.growing.reading.edge_of.Goals as goal

pub returns : goal.returns
returns g c = c.finish.ensures c.args.input.now (c.in_ok-take_block.ensures.grows [] c.new-growing.ensures.grows)
