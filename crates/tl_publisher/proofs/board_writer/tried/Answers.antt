use Rattle.std.proofs.Common.{ap}
use Rattle.sha2.specs.Sha256.{sha256}
use Rattle.tl_publisher.specs.Boards.{Board}
use Rattle.tl_publisher.proofs.Stages.{rests-all, kept-resting}
use Rattle.tl_publisher.proofs.board_writer.tried.Goals as goal

pub published-requires-clause-shown : goal.published-requires-clause-shown
published-requires-clause-shown g c = (rests-all sha256 _ _ c.requires).0.shown

pub published-requires-clause-book : goal.published-requires-clause-book
published-requires-clause-book g c =
    ap (λ (b : Board). b.past.book) (rests-all sha256 _ _ c.requires).1

pub returns-clause-rests : goal.returns-clause-rests
returns-clause-rests g c =
    (kept-resting sha256 _ _ _ _ _ c.requires c.published.ensures.values).0

pub returns-clause-visible : goal.returns-clause-visible
returns-clause-visible g c =
    (kept-resting sha256 _ _ _ _ _ c.requires c.published.ensures.values).1
