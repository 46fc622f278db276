use Rattle.std.proofs.Common.{length}
use Rattle.tl_http.proofs.sendable.+are_fields_sendable.Given as goal

abbrev pub decreases-are_fields_sendable : goal.decreases-are_fields_sendable
decreases-are_fields_sendable l = length l.fields.now
