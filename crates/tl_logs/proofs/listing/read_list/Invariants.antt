use Rattle.std.proofs.Common.{◌+◌, ◌≤◌, length}
use Rattle.tl_logs.specs.LogList.{entries_from, lines_of}
use Rattle.tl_logs.specs.ReadLogs.{logs_shown}
use Rattle.tl_logs.specs.Inner.ByOrigin.{Indexes, index_of, log_origins}
use Rattle.tl_logs.specs.Inner.Listing.{entry_in}
use Rattle.tl_logs.proofs.ListingLaws.{HasTaken}
use Rattle.tl_logs.proofs.listing.read_list.Given as goal

abbrev pub invariant-loop-left : goal.invariant-loop-left
invariant-loop-left g l = record {
  taken : HasTaken l.bytes (logs_shown l.logs.items) (entries_from (entry_in l.waiting) (l.line + 1) (lines_of l.left));
  few : l.line + length l.left ≤ length l.bytes;
  indexed : Indexes (index_of l.index) (log_origins (logs_shown l.logs.items));
}

abbrev pub decreases-loop-left : goal.decreases-loop-left
decreases-loop-left g l = length l.left
