use Rattle.std.proofs.Common.{◌≡◌, ◌++◌, map, take}
use Rattle.std.specs.List.{flat_map}
use Rattle.tl_http.specs.Message.{field_of, field_text}
use Rattle.tl_http.proofs.written.push_fields.Given as goal

-- the lines of the fields so far were appended
abbrev pub invariant-loop-field : goal.invariant-loop-field
invariant-loop-field g l = l.out.items ≡ l.fn.out.items ++ flat_map field_text (map field_of (take l.field-index l.fields))
