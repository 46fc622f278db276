use Rattle.std.proofs.Common.{◌≡◌, ◌<◌, ◌≤◌, ◌++◌, ◌∷◌, [], ℕ, List, length, map, refl, ap, ◌∙◌, subst, arith, string_bytes}
use Rattle.std.proofs.lemmas.Grind.{common_steps}
use Rattle.std.proofs.lemmas.Bool.Decides.{nat_tests}
use Rattle.std.proofs.lemmas.List.{length-map}
use Rattle.tl_note.specs.Key.{SigningKey}
use Rattle.tl_note.specs.SignNote.{CanSign}
use Rattle.tl_note.specs.Inner.Signing.{AddsLines}
use Rattle.tl_note.proofs.SignLemmas.{note_of}
use Rattle.tl_note.proofs.sign.sign_note.Goals as goal

pub returns : goal.returns
returns g c =
    let text = c.args.text.now in
    let keys : List SigningKey = map (λ b. (goal.Signer-dyn g (b.vtable, b.value)).signing_key b.value) c.args.signers.now in
    let count : length keys ≡ length c.args.signers.now = length-map c.args.signers.now (λ b. (goal.Signer-dyn g (b.vtable, b.value)).signing_key b.value) in
    let present : 0 < length c.args.signers.now = grind (arith, nat_tests) in
    let some : 0 < length keys = omega (arith, count, present) in
    let few : length keys ≤ 100 = omega (arith, count) in
    let can : CanSign text keys = record { readable = c.if-not-is_note_text.ensures.0 refl; some = some; few = few } in
    let begun : string_bytes c.push_str.new.self ≡ text ++ 10 ∷ [] = c.in_ok-push_str.ensures.bytes ∙ ap (λ (t : List ℕ). t ++ 10 ∷ []) c.in_ok-note.ensures.ok in
    let adds : AddsLines text keys (text ++ 10 ∷ []) (string_bytes c.push_lines.new.note) = subst (λ (t : List ℕ). AddsLines text keys t (string_bytes c.push_lines.new.note)) begun c.in_ok-push_lines.ensures in
    (adds.lines, note_of text (string_bytes c.push_lines.new.note) keys can adds, adds.signed)

pub returns-in-Some : goal.returns-in-Some
returns-in-Some g c = grind (arith, common_steps)

pub returns-in_err-note : goal.returns-in_err-note
returns-in_err-note g c = grind (arith, common_steps)

pub returns-in_err-push_lines : goal.returns-in_err-push_lines
returns-in_err-push_lines g c = grind (arith, common_steps)

pub returns-in_err-push_str : goal.returns-in_err-push_str
returns-in_err-push_str g c = grind (arith, common_steps)

pub returns-then-not-is_note_text : goal.returns-then-not-is_note_text
returns-then-not-is_note_text g c = grind (arith, common_steps)
