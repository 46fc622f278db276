use Rattle.std.proofs.Common.{◌≡◌, ◌++◌, map, take, string_bytes}
use Rattle.std.specs.List.{flat_map}
use Rattle.tl_s3.specs.Canonical.{field_line}
use Rattle.tl_s3.specs.CanonicalRequests.{field_of}
use Rattle.tl_s3.proofs.canonical.push_lines.Given as goal

abbrev pub invariant-loop-field : goal.invariant-loop-field
invariant-loop-field g l = string_bytes l.out ≡ string_bytes l.fn.out ++ flat_map field_line (map field_of (take l.field-index l.fields))
