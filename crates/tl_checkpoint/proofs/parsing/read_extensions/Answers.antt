use Rattle.std.proofs.Common.{List, [], ◌∷◌, ℕ, map, string_bytes, vec_items, sym, subst, ap, length, arith}
use Rattle.std.proofs.lemmas.Grind.{common_steps}
use Rattle.std.proofs.lemmas.List.{length-append}
use Rattle.tl_text.specs.Text.{line}
use Rattle.tl_checkpoint.proofs.LinesLemmas.{one_more}
use Rattle.tl_checkpoint.proofs.ExtensionLemmas.{HasRead, next_one, reads_more, reads_whole}
use Rattle.tl_checkpoint.proofs.parsing.read_extensions.Goals as goal

pub loop-words-smaller : goal.loop-words-smaller
loop-words-smaller g c =
    let words = c.in-Some.words.now in
    let rest = c.in-Some.rest.now in
    omega (arith, ap length c.in-Some.ensures.1, length-append (line words) rest, length-append words (10 ∷ []))

pub loop-words-preserved : goal.loop-words-preserved
loop-words-preserved g c =
    let left = c.loop-words.left.now in
    let done : List (List ℕ) = map string_bytes (vec_items c.loop-words.lines) in
    let cut = c.in-Some.ensures in
    let one = next_one c.args.text.now left c.in-Some.words.now c.in-Some.rest.now done c.loop-words.invariant c.requires cut.0 cut.1 in
    let read = reads_more c.args.text.now left c.in-Some.words.now c.in-Some.rest.now done c.loop-words.invariant one cut.1 cut.2 in
    let texts = one_more string_bytes (vec_items c.loop-words.lines) (vec_items c.push.new.self) c.in_ok-from_str.field-0 c.in-Some.words.now c.in_ok-push.ensures.items c.in_ok-from_str.ensures.ok in
    subst (λ (ls : List (List ℕ)). HasRead c.args.text.now ls c.in-Some.rest.now) (sym texts) read

pub returns : goal.returns
returns g c = reads_whole c.args.text.now c.loop-words.left.now (map string_bytes (vec_items c.loop-words.lines)) c.loop-words.invariant c.requires (rw c.in_default.is at c.split_line.ensures)

pub loop-words-init : goal.loop-words-init
loop-words-init g c = grind (arith, common_steps)
