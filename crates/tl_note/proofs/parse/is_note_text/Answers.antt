use Rattle.std.proofs.Common.{◌-◌, length, take, arith, rules, tests}
use Rattle.std.proofs.lemmas.Grind.{common_steps}
use Rattle.std.proofs.lemmas.Iterator.{cases_from_all}
use Rattle.std.proofs.lemmas.Iterator.Adapters.{YieldsList-from_bytes}
use Rattle.std.proofs.lemmas.Str.Pattern.{ends_char}
use Rattle.tl_note.specs.Note.{IsNoteByte}
use Rattle.tl_note.proofs.NameLemmas.{told}
use Rattle.tl_note.proofs.parse.is_note_text.Goals as goal

pub returns-then-ends_with : goal.returns-then-ends_with
returns-then-ends_with c =
    let text = c.args.text.now in
    let ended = (ends_char 10 text c.ends_with.result c.ends_with.ensures.cases (omega arith)).0 c.if-ends_with.true in
    let by_call = cases_from_all _ _ _ IsNoteByte (λ x. IsNoteByte x → ⊥) c.all.ensures.ran (YieldsList-from_bytes text cc) (λ x q k. search (rules, tests)) (λ x q k. search (rules, tests)) in
    let each = told IsNoteByte text 0 c.all.result by_call in
    (λ t. record { utf8 = c.utf8.text; plain = each.0 t; front = take (length text - 1) text; ended = ended }, λ is. each.1 is.plain)

pub returns-else-ends_with : goal.returns-else-ends_with
returns-else-ends_with c = grind (arith, common_steps)
