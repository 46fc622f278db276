use Rattle.std.proofs.Common.{◌≡◌, ◌<◌, length, arith}
use Rattle.std.proofs.lemmas.Grind.{common_steps}
use Rattle.std.proofs.lemmas.Bool.Decides.{nat_tests}
use Rattle.tl_text.proofs.Base64Lemmas.{is_refused}
use Rattle.tl_checkpoint.proofs.ExtensionLemmas.{no_first, no_empty, sees_more}
use Rattle.tl_checkpoint.proofs.parsing.are_extensions.Goals as goal

pub returns-in_default : goal.returns-in_default
returns-in_default c =
    let seen = c.loop-left.invariant in
    let some : 0 < length c.loop-left.left.now = grind (arith, nat_tests) in
    is_refused (λ all. no_first c.args.text.now c.loop-left.left.now seen.done all.0 seen.read some c.in_default.ensures all.1.each all.1.joined)

pub returns-then-is_empty : goal.returns-then-is_empty
returns-then-is_empty c =
    let seen = c.loop-left.invariant in
    let none : length c.in-Some.words.now ≡ 0 = grind (arith, nat_tests) in
    is_refused (λ all. no_empty c.args.text.now c.loop-left.left.now c.in-Some.words.now c.in-Some.rest.now seen.done all.0 seen.read none c.in-Some.ensures.1 all.1.each all.1.joined)

pub loop-left-preserved : goal.loop-left-preserved
loop-left-preserved c =
    let some : 0 < length c.in-Some.words.now = grind (arith, nat_tests) in
    sees_more c.args.text.now c.loop-left.left.now c.in-Some.words.now c.in-Some.rest.now c.loop-left.invariant (record { some = some; plain = c.in-Some.ensures.0 }) c.in-Some.ensures.1 c.in-Some.ensures.2

pub loop-left-smaller : goal.loop-left-smaller
loop-left-smaller c = grind (arith, common_steps)

pub returns : goal.returns
returns c = grind (arith, common_steps)
