use Rattle.std.proofs.Common.{◌<◌, length, arith, rules, tests}
use Rattle.std.proofs.lemmas.Grind.{common_steps}
use Rattle.std.specs.Prelude.{chars}
use Rattle.std.proofs.lemmas.Bool.Decides.{nat_tests}
use Rattle.std.proofs.lemmas.Iterator.{cases_from_all, YieldsList-from_chars}
use Rattle.tl_note.specs.Key.{IsNameChar}
use Rattle.tl_note.proofs.NameLemmas.{told}
use Rattle.tl_note.proofs.keys.is_key_name.Goals as goal

pub returns-then-not-is_empty : goal.returns-then-not-is_empty
returns-then-not-is_empty c =
    let name = c.args.name.now in
    let some : 0 < length name = grind (arith, nat_tests) in
    let by_call = cases_from_all _ _ _ IsNameChar (λ x. IsNameChar x → ⊥) c.all.ensures.ran (YieldsList-from_chars name c.utf8.name cc) (λ x q k. search (rules, tests)) (λ x q k. search (rules, tests)) in
    let each = told IsNameChar (chars name) 0 c.all.result by_call in
    (λ t. record { some = some; text = c.utf8.name; each = each.0 t }, λ is. each.1 is.each)

pub returns-else-not-is_empty : goal.returns-else-not-is_empty
returns-else-not-is_empty c = grind (arith, common_steps)
