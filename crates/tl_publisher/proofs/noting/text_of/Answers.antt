use Rattle.std.proofs.Common.{map, string_bytes, ap, ◌∙◌}
use Rattle.std.proofs.lemmas.Str.{IsUtf8-string_bytes}
use Rattle.tl_checkpoint.specs.Checkpoint.{checkpoint_text}
use Rattle.tl_checkpoint.proofs.NoteTexts.{can_be_signed}
use Rattle.tl_publisher.proofs.noting.text_of.Goals as goal

pub returns-in-Ok-clause-text : goal.returns-in-Ok-clause-text
returns-in-Ok-clause-text c =
    let origin = c.in_ok-from_str.ensures.ok in
    let none = ap (map string_bytes) c.new.ensures.items in
    c.in-Ok.ensures.1 ∙ (λ i. checkpoint_text (record { origin = origin i; size = c.args.head.size; root = c.args.head.root; extensions = none i }))

pub returns-in-Ok-clause-note : goal.returns-in-Ok-clause-note
returns-in-Ok-clause-note c = can_be_signed (string_bytes c.in-Ok.text) _ (IsUtf8-string_bytes c.in-Ok.text) c.in-Ok.ensures.0 c.in-Ok.ensures.1
