use Rattle.std.proofs.Common.{◌++◌, ◌∙◌, arith, map, refl}
use Rattle.std.proofs.lemmas.List.{length-append, length-map}
use Rattle.std.specs.Prelude.{Result, Ok, Err, OnErr}
use Rattle.tl_command.specs.Inner.Cuts.{BeginsWithLines}
use Rattle.tl_command.proofs.Marks.{marked_more, marked_none}
use Rattle.tl_command.proofs.WholeLines.{begins_more, lines_within}
use Rattle.tl_command.proofs.line_marks.mark_tiles.Goals as goal

pub loop-tile-init : goal.loop-tile-init
loop-tile-init g c = marked_none c.new-ends.result.items c.args.text.now c.new-ends.ensures.items

pub overflow_sub-text : goal.overflow_sub-text
overflow_sub-text g c =
    let was = c.loop-tile.invariant in
    let tile = map (λ line. line.now) c.in-Some.tile.lines in
    omega (arith, lines_within c.args.text.now was.lines c.loop-tile.rest.now was.begins, lines_within c.loop-tile.rest.now tile c.in-Some.tile.rest.now c.in-Some.ensures.begins)

pub loop-tile-smaller : goal.loop-tile-smaller
loop-tile-smaller g c =
    let tile = map (λ line. line.now) c.in-Some.tile.lines in
    omega (arith, lines_within c.loop-tile.rest.now tile c.in-Some.tile.rest.now c.in-Some.ensures.begins, length-map c.in-Some.tile.lines (λ line. line.now), c.in-Some.ensures.count)

pub loop-tile-preserved : goal.loop-tile-preserved
loop-tile-preserved g c =
    let tile = map (λ line. line.now) c.in-Some.tile.lines in
    marked_more c.args.text.now c.loop-tile.ends.items c.loop-tile.rest.now c.push.new.self.items c.in-Some.tile.rest.now tile _ c.loop-tile.invariant
    c.in-Some.ensures.begins (length-map c.in-Some.tile.lines (λ line. line.now) ∙ c.in-Some.ensures.count) refl c.in_ok-push.ensures.items

on_err : {X E : Type 0} (r : Result X E) (P : Type 0) → P → OnErr r P
on_err (Ok x) P holds = tt
on_err (Err e) P holds = holds

pub returns-in_err-push-clause-memory : goal.returns-in_err-push-clause-memory
returns-in_err-push-clause-memory g c =
    let was = c.loop-tile.invariant in
    let tile = map (λ line. line.now) c.in-Some.tile.lines in
    let count = length-map c.in-Some.tile.lines (λ line. line.now) in
    let some : BeginsWithLines c.args.text.now 256 = record {
      lines = was.lines ++ tile;
      rest = c.in-Some.tile.rest.now;
      begins = begins_more c.args.text.now c.loop-tile.rest.now c.in-Some.tile.rest.now was.lines tile was.begins c.in-Some.ensures.begins;
      number = omega (arith, length-append was.lines tile, count, c.in-Some.ensures.count);
    } in
    on_err c.from_residual.result (BeginsWithLines c.args.text.now 256) some

pub returns-clause-marks : goal.returns-clause-marks
returns-clause-marks g c = c.loop-tile.invariant.marks

pub returns-clause-lines : goal.returns-clause-lines
returns-clause-lines g c = let was = c.loop-tile.invariant in (was.lines, was.begins, was.number)
