use Rattle.tl_ledger.specs.Inner.Reads.{AreHeld, HasLevels}
use Rattle.tl_ledger.proofs.opened.reading.read_partials.Given as goal

abbrev pub invariant-loop-level : goal.invariant-loop-level
invariant-loop-level g l = record {
  levels : HasLevels l.size l.level l.read;
  held : AreHeld g.S.Shelf.is_honest (g.S.Shelf.kept l.shelf).held l.read;
}
