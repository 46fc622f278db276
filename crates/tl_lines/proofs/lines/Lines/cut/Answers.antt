use Rattle.std.proofs.Common.{◌∙◌, List, ℕ, [], true, ap, subst, length, drop, arith}
use Rattle.std.proofs.lemmas.Grind.{common_steps}
use Rattle.std.specs.Option.{unwrap_or}
use Rattle.tl_lines.specs.Lines.{Entry, TooLong, Uncut, one_more}
use Rattle.tl_lines.specs.Inner.Cutting.{FindsNewline}
use Rattle.tl_lines.specs.Reading.{told}
use Rattle.tl_lines.proofs.CuttingLemmas.{cut_long, cut_part, cut_whole, ends_if_some, made, plain_if_none, reach_plain, reach_within}
use Rattle.tl_lines.proofs.lines.Lines.cut.Goals as goal

pub returns-then-not-branch : goal.returns-then-not-branch
returns-then-not-branch g c =
    let u = c.args.self.now in
    let found = c.find_newline-newline.result in
    let finds = subst (λ (w : List ℕ). FindsNewline w found) c.waiting.ensures.value c.find_newline-newline.ensures in
    let size = c.unwrap_or-count.ensures ∙ ap (λ (w : List ℕ). unwrap_or found (length w)) c.waiting-2.ensures.value in
    let long = rw c.if-not-branch.true at c.in_ok-extend.ensures in
    cut_long u c.refuse.new.self c.unwrap_or-count.result (told c.refuse.result) c.requires c.waiting.ensures.kept.plain
    (reach_plain u.waiting found c.unwrap_or-count.result size finds) (reach_within u.waiting found c.unwrap_or-count.result size finds) long.0
    (c.refuse.ensures.after ∙ ap (λ (x : Uncut). record x { begun = []; in_tail = true }) long.1)
    (c.refuse.ensures.line ∙ ap (λ (x : Uncut). TooLong x.number) long.1)

pub returns-then-is_none : goal.returns-then-is_none
returns-then-is_none g c =
    let u = c.args.self.now in
    let found = c.find_newline-newline.result in
    let finds = subst (λ (w : List ℕ). FindsNewline w found) c.waiting.ensures.value c.find_newline-newline.ensures in
    let size = c.unwrap_or-count.ensures ∙ ap (λ (w : List ℕ). unwrap_or found (length w)) c.waiting-2.ensures.value in
    let more = rw c.if-not-branch.false at c.in_ok-extend.ensures in
    let none = plain_if_none u.waiting found c.unwrap_or-count.result c.if-is_none.ensures size finds in
    cut_part u c.extend.new.self c.unwrap_or-count.result c.requires c.waiting.ensures.kept.plain none.0 none.1 more.0 more.1

pub returns : goal.returns
returns g c =
    let u = c.args.self.now in
    let found = c.find_newline-newline.result in
    let finds = subst (λ (w : List ℕ). FindsNewline w found) c.waiting.ensures.value c.find_newline-newline.ensures in
    let size = c.unwrap_or-count.ensures ∙ ap (λ (w : List ℕ). unwrap_or found (length w)) c.waiting-2.ensures.value in
    let more = rw c.if-not-branch.false at c.in_ok-extend.ensures in
    let ends = ends_if_some u.waiting found c.unwrap_or-count.result c.if-is_none.ensures size finds in
    let passed = c.pass.ensures ∙ ap (λ (x : Uncut). record x { waiting = drop 1 x.waiting }) more.1 in
    cut_whole u c.finish.new.self c.unwrap_or-count.result (told c.finish.result) c.requires c.waiting.ensures.kept.plain ends more.0
    (c.finish.ensures.after ∙ ap (λ (x : Uncut). made (one_more x.number) (one_more x.entries) [] x.waiting x.in_tail) passed)
    (c.finish.ensures.line ∙ ap (λ (x : Uncut). Entry x.begun) passed)

pub extend-requires-clause-plain : goal.extend-requires-clause-plain
extend-requires-clause-plain g c = grind (arith, common_steps)

pub pass-requires : goal.pass-requires
pass-requires g c = grind (arith, common_steps)
