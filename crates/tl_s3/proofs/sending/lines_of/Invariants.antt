use Rattle.std.proofs.Common.{◌≡◌, map, take}
use Rattle.tl_http.specs.Message.{field_of}
use Rattle.tl_s3.proofs.sending.lines_of.Given as goal
use Rattle.tl_s3.specs.CanonicalRequests as signed

-- the fields so far are sent
abbrev pub invariant-loop-field : goal.invariant-loop-field
invariant-loop-field g l = map field_of l.lines.items ≡ map signed.field_of (take l.field-index l.fields)
