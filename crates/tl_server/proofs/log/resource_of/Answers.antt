use Rattle.std.proofs.Common.{◌∙◌}
use Rattle.tl_tile.specs.Path.{path_text}
use Rattle.tl_server.proofs.log.resource_of.Goals as goal

pub returns-in-None : goal.returns-in-None
returns-in-None c = λ r asks. c.in-None.ensures.cases (path_text r) (c.in-Ok.ensures.cases.0 ∙ asks.1)
