use Rattle.std.proofs.Common.{◌∙◌, ◌≡◌, ◌<◌, ◌++◌, ◌∷◌, [], List, ℕ, length, vec_items, sym, ap, subst, arith}
use Rattle.std.proofs.lemmas.Bool.Decides.{nat_tests}
use Rattle.tl_command.specs.Inner.Growing.{IsTold}
use Rattle.tl_command.specs.Lines.{entries_of, lines_text}
use Rattle.tl_command.proofs.GrowingLemmas.{empty_list, entries_whole, nothing_kept, same_entries, some_kept}
use Rattle.tl_command.proofs.growing.Growing.finish.Goals as goal

pub returns-then-is_empty : goal.returns-then-is_empty
returns-then-is_empty g c = λ input was.
    let ok = c.args.self.line.ok.0 in
    let none : length (vec_items c.args.self.line) ≡ 0 = grind (arith, nat_tests, ok, c.is_empty.ensures, c.if-is_empty.true) in
    let last : was.last ≡ [] = nothing_kept was.last (sym was.kept ∙ empty_list (vec_items c.args.self.line) none) in
    let whole = was.whole ∙ ap (λ (t : List ℕ). lines_text was.lines ++ t) last in
    c.outcome.ensures (entries_of input) (subst (λ (es : List (List ℕ)). IsTold c.args.self es) (sym (entries_whole was.lines input was.plain whole)) was.told)

pub returns : goal.returns
returns g c = λ input was.
    let ok = c.args.self.line.ok.0 in
    let some : 0 < length (vec_items c.args.self.line) = grind (arith, nat_tests, ok, c.is_empty.ensures, c.if-is_empty.false) in
    let grown = c.in_ok-end_line.ensures.grows input was in
    let last : grown.last ≡ [] = nothing_kept grown.last (sym grown.kept ∙ c.in_ok-end_line.ensures.ended) in
    let whole = grown.whole ∙ ap (λ (t : List ℕ). lines_text grown.lines ++ t) last in
    let same = same_entries was.lines was.last input was.plain was.last_plain was.whole (some_kept was.last (vec_items c.args.self.line) was.kept some) in
    let entries : entries_of input ≡ grown.lines = same ∙ entries_whole grown.lines (input ++ 10 ∷ []) grown.plain whole in
    c.outcome-2.ensures (entries_of input) (subst (λ (es : List (List ℕ)). IsTold c.end_line.new.self es) (sym entries) grown.told)
