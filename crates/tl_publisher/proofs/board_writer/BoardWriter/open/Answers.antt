use Rattle.std.proofs.Common.{refl, ap, ◌∙◌}
use Rattle.tl_publisher.specs.Pasts.{Past}
use Rattle.tl_publisher.proofs.Moves.{names, empty-shown}
use Rattle.tl_publisher.proofs.board_writer.BoardWriter.open.Goals as goal

pub publish_as-writer-requires : goal.publish_as-writer-requires
publish_as-writer-requires g c next is =
    names _ _ _ next (rw (is, c.in_ok-writer.ensures.1, c.in_ok-writer.ensures.0, c.empty-first.ensures) (empty-shown _ (ap (λ (p : Past). p.log) c.past.ensures ∙ c.open-history.ensures))) (rw (is, c.in_ok-writer.ensures.1) refl)
