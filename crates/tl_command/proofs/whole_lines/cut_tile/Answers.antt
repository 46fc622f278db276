use Rattle.std.proofs.Common.{None, Some, ◌+◌, ◌∙◌, List, ℕ, map, take, sym, subst, rules, arith}
use Rattle.std.proofs.lemmas.List.{length-map, length-set, length-take-le, map-set, take_all}
use Rattle.std.specs.Prelude.{IfNone, Option}
use Rattle.tl_command.specs.Inner.Growing.{BeginsWith}
use Rattle.tl_command.proofs.TileLines.{no_tile}
use Rattle.tl_command.proofs.WholeLines.{begins_nothing, begins_placed}
use Rattle.tl_command.proofs.whole_lines.cut_tile.Goals as goal

pub loop-place-init : goal.loop-place-init
loop-place-init c = record { count = search rules; begins = begins_nothing c.args.piece.now }

pub loop-place-preserved : goal.loop-place-preserved
loop-place-preserved c =
    let so_far = c.loop-place.invariant in
    let lines = c.loop-place.lines in
    let line = c.in_ok-line.line in
    let count = length-map lines (λ line. line.now) in
    record {
      count = length-set lines c.loop-place.place line ∙ so_far.count;
      begins = subst (λ (all : List (List ℕ)). BeginsWith c.args.piece.now (take (c.loop-place.place + 1) all) c.in_ok-line.others.now) (sym (map-set (λ line. line.now) lines c.loop-place.place line))
          (begins_placed c.args.piece.now c.loop-place.rest.now c.in_ok-line.others.now (map (λ line. line.now) lines) c.loop-place.place line.now (omega (arith, count, so_far.count, c.loop-place-test.true)) so_far.begins c.in_ok-line.ensures.line);
    }

pub returns-clause-begins : goal.returns-clause-begins
returns-clause-begins c =
    let so_far = c.loop-place.invariant in
    let count = length-map c.loop-place.lines (λ line. line.now) in
    subst (λ (all : List (List ℕ)). BeginsWith c.args.piece.now all c.loop-place.rest.now)
    (take_all c.loop-place.place (map (λ line. line.now) c.loop-place.lines) (omega (arith, count, so_far.count, c.loop-place-test.false))) so_far.begins

pub returns-clause-count : goal.returns-clause-count
returns-clause-count c = c.loop-place.invariant.count

on_none : {X : Type 0} (r : Option X) (P : Type 0) → P → IfNone r P
on_none None P holds = holds
on_none (Some x) P holds = tt

pub returns-in_err-line-clause-none : goal.returns-in_err-line-clause-none
returns-in_err-line-clause-none c =
    let so_far = c.loop-place.invariant in
    let lines = map (λ line. line.now) c.loop-place.lines in
    let count = length-map c.loop-place.lines (λ line. line.now) in
    let taken = length-take-le c.loop-place.place lines (omega (arith, count, so_far.count, c.loop-place-test.true)) in
    on_none c.from_residual.result _
    (no_tile c.args.piece.now c.loop-place.rest.now (take c.loop-place.place lines) so_far.begins (omega (arith, taken, c.loop-place-test.true)) c.in_err-line.ensures.none)
