use Rattle.tl_publisher.proofs.Moves.{stays}
use Rattle.tl_publisher.proofs.board_writer.published.Goals as goal

pub publish_as-requires : goal.publish_as-requires
publish_as-requires g c next is = stays _ _ _ next (rw is c.requires.shown) (rw is c.requires.book)

pub returns-clause-values : goal.returns-clause-values
returns-clause-values g c = c.publish_as.ensures.values
