use Rattle.std.proofs.Common.{arith, inl, List, ℕ, Option, Bor, subst, sym, ◌+◌}
use Rattle.std.proofs.lemmas.Bool.{eqb-true, eqb-false}
use Rattle.tl_tile.proofs.BundleLemmas.{has_read_more}
use Rattle.tl_server.proofs.EntryLemmas.{Walked, walked_past, walked_here, walked_cut, walked_on, walked_all}
use Rattle.tl_server.proofs.entry.entry_at.Goals as goal
use Rattle.tl_server.proofs.entry.entry_at.Goals.{then-here-place, else-here-place}

pub returns-in_default : goal.returns-in_default
returns-in_default c =
    inl (walked_cut c.args.bytes.now c.loop-here.here c.args.width c.loop-here.rest.now c.args.place c.loop-here.found c.loop-here.invariant (omega arith) c.in_default.ensures)

pub loop-here-preserved : goal.loop-here-preserved
loop-here-preserved c =
    let bytes = c.args.bytes.now in
    let here = c.loop-here.here in
    let rest = c.loop-here.rest.now in
    let walked = c.loop-here.invariant in
    let entry = c.in-Some.entry in
    let after = c.in-Some.after.now in
    let read = has_read_more bytes here walked.entries rest entry.now after walked.read c.in-Some.ensures.0 c.in-Some.ensures.1 in
    elim c.if-here-place.branch [
      | then-here-place w ↦ subst (λ (f : Option (Bor (List ℕ))). Walked bytes (here + 1) after c.args.place f) (sym w.found-is) (walked_here bytes here rest c.args.place c.loop-here.found walked entry after read (sym w.if-here-place.true))
      | else-here-place w ↦ subst (λ (f : Option (Bor (List ℕ))). Walked bytes (here + 1) after c.args.place f) (sym w.found-is) (walked_past bytes here rest c.args.place c.loop-here.found walked entry.now after read (λ e. w.if-here-place.false (sym e)))
    ]

pub returns-else-is_empty : goal.returns-else-is_empty
returns-else-is_empty c =
    let walked : Walked c.args.bytes.now c.args.width c.loop-here.rest.now c.args.place c.loop-here.found =
    subst (λ n. Walked c.args.bytes.now n c.loop-here.rest.now c.args.place c.loop-here.found) (omega arith) c.loop-here.invariant in
    inl (walked_on c.args.bytes.now c.args.width c.loop-here.rest.now c.args.place c.loop-here.found walked (eqb-false _ _ (sym c.if-is_empty.ensures)))

pub returns-then-is_empty : goal.returns-then-is_empty
returns-then-is_empty c =
    let walked : Walked c.args.bytes.now c.args.width c.loop-here.rest.now c.args.place c.loop-here.found =
    subst (λ n. Walked c.args.bytes.now n c.loop-here.rest.now c.args.place c.loop-here.found) (omega arith) c.loop-here.invariant in
    walked_all c.args.bytes.now c.args.width c.loop-here.rest.now c.args.place c.loop-here.found walked (eqb-true _ _ (sym c.if-is_empty.ensures))
