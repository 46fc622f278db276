use Rattle.std.proofs.Common.{◌≡◌, true, Some, None, sym, subst, ◌∙◌, arith}
use Rattle.std.proofs.lemmas.Grind.{common_steps}
use Rattle.tl_note.specs.Key.{IsKeyName}
use Rattle.tl_key.proofs.PartsLemmas.{name_parts, tail_of}
use Rattle.tl_key.proofs.parts.read_parts.Goals as goal

pub returns-in_default : goal.returns-in_default
returns-in_default c = λ name digits bytes has. name_parts c.args.text.now name digits bytes None c.in_default.ensures.cases has

pub returns-then-not-is_key_name : goal.returns-then-not-is_key_name
returns-then-not-is_key_name c = λ name digits bytes has.
    let parts = name_parts c.args.text.now name digits bytes (Some (c.in-Some.name, c.in-Some.rest)) c.in-Some.ensures.cases has in
    let lawful : c.is_key_name.result ≡ true = c.is_key_name.ensures.1 (subst IsKeyName (sym parts.0) has.name_is) in
    cc

pub returns-in_default-read_tail : goal.returns-in_default-read_tail
returns-in_default-read_tail c = λ name digits bytes has.
    let parts = name_parts c.args.text.now name digits bytes (Some (c.in-Some.name, c.in-Some.rest)) c.in-Some.ensures.cases has in
    let none = rw c.in_default-read_tail.is at c.read_tail.ensures in
    none digits bytes (tail_of c.args.text.now name digits bytes c.as_bytes.result.now has (c.as_bytes.ensures.value ∙ parts.1))

pub returns : goal.returns
returns c = grind (arith, common_steps)
