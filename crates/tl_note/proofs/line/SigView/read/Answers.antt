use Rattle.std.proofs.Common.{◌≡◌, ◌++◌, List, ℕ, true, Some, None, sym, ap, subst, ◌∙◌, arith}
use Rattle.std.proofs.lemmas.Grind.{common_steps}
use Rattle.tl_note.specs.Key.{IsKeyName}
use Rattle.tl_note.proofs.LineLemmas.{dash, words_parts}
use Rattle.tl_note.proofs.line.SigView.read.Goals as goal

pub returns-in_default-split_once : goal.returns-in_default-split_once
returns-in_default-split_once c = λ s is e.
    let stripped = c.in-Some.ensures.cases in
    let begins : c.args.line.now ≡ dash ++ c.in-Some.words.now = stripped.1.1 ∙ ap (λ (t : List ℕ). dash ++ t) (sym stripped.2) in
    words_parts c.args.line.now c.in-Some.words.now None s begins c.in_default-split_once.ensures.cases is e

pub returns-then-not-is_key_name : goal.returns-then-not-is_key_name
returns-then-not-is_key_name c = λ s is e.
    let stripped = c.in-Some.ensures.cases in
    let begins : c.args.line.now ≡ dash ++ c.in-Some.words.now = stripped.1.1 ∙ ap (λ (t : List ℕ). dash ++ t) (sym stripped.2) in
    let parts = words_parts c.args.line.now c.in-Some.words.now (Some (c.in-Some-split_once.name, c.in-Some-split_once.field)) s begins c.in-Some-split_once.ensures.cases is e in
    let good : c.is_key_name.result ≡ true = c.is_key_name.ensures.1 (subst IsKeyName (sym parts.0) is.name) in
    cc

pub returns-in_default-read_key_id : goal.returns-in_default-read_key_id
returns-in_default-read_key_id c = λ s is e.
    let stripped = c.in-Some.ensures.cases in
    let begins : c.args.line.now ≡ dash ++ c.in-Some.words.now = stripped.1.1 ∙ ap (λ (t : List ℕ). dash ++ t) (sym stripped.2) in
    let parts = words_parts c.args.line.now c.in-Some.words.now (Some (c.in-Some-split_once.name, c.in-Some-split_once.field)) s begins c.in-Some-split_once.ensures.cases is e in
    let none = rw c.in_default-read_key_id.is at c.read_key_id.ensures in
    none s is parts.1

pub invariant_of-result : goal.invariant_of-result
invariant_of-result c = grind (arith, common_steps)

pub returns : goal.returns
returns c = grind (arith, common_steps)
