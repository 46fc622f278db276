use Rattle.tl_lines.proofs.PieceLemmas.{finds}
use Rattle.tl_lines.proofs.newline.find_newline.Goals as goal

pub returns : goal.returns
returns c = finds c.args.piece.now c.memchr.result c.memchr.ensures
