use Rattle.std.proofs.Common.{◌≡◌, ◌-◌}
use Rattle.tl_device.specs.Device.{passage}
use Rattle.sha2.specs.Sha256.{sha256}
use Rattle.tl_tile.specs.Verified.{HavePassed}
use Rattle.tl_fetch.proofs.ListingLemmas.{IsPrinting}
use Rattle.tl_fetch.proofs.listing.print_entries.Given as goal

-- the entries before `next` are printed, the tiles that are kept passed all checks, and the window is over the source
abbrev pub invariant-loop-next : goal.invariant-loop-next
invariant-loop-next g l = IsPrinting l.head l.fn.from l.next (passage g.W.Write.contents l.fn.writer l.writer) × HavePassed sha256 l.head.size l.head.root l.kept
    × (l.ahead.window ≡ l.source)

abbrev pub decreases-loop-next : goal.decreases-loop-next
decreases-loop-next g l = l.head.size - l.next
