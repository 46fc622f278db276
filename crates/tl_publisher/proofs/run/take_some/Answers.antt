use Rattle.std.proofs.Common.{◌≡◌, ◌≤◌, ◌+◌, [], ◌∷◌, ℕ, zero, suc, List, None, length, arith}
use Rattle.std.specs.Prelude.{slice_get}
use Rattle.tl_sequencer.specs.Log.{entries_of}
use Rattle.tl_publisher.proofs.Runs.{grown_next, grown_four, short_at}
use Rattle.tl_publisher.proofs.run.take_some.Goals as goal
use Rattle.tl_publisher.proofs.run.take_some.Goals.{in_default-2-via-in-Some+in-Some+in_default, in_default-2-via-in-Some+in_default, in_default-2-via-in_default}

-- a position without an entry is past the end of the list
ended_at : {X : Type 0} (n : ℕ) (xs : List X) → None ≡ slice_get xs n → length xs ≤ n
ended_at n [] at = omega arith
ended_at zero (x ∷ xs) at = absurd (cc)
ended_at (suc n) (x ∷ xs) at = (let rest = ended_at n xs at in omega (arith, rest))

pub unreachable-requires : goal.unreachable-requires
unreachable-requires c =
    let ended = ended_at c.size-place.result (entries_of c.args.log.now) c.in_default.ensures in
    omega (arith, ended, c.size-place.ensures, c.requires.within)

pub unreachable-requires-in_default-2 : goal.unreachable-requires-in_default-2
unreachable-requires-in_default-2 c =
    let place = c.size-place.result in
    let entries = entries_of c.args.log.now in
    elim c.in_default-2.branch [
      | in_default-2-via-in-Some+in-Some+in_default w ↦
          (let ended = ended_at (place + 3) entries w.in_default-2.ensures'' in omega (arith, ended, c.len-len.ensures.len, c.if-len-place-ge4.true))
      | in_default-2-via-in-Some+in_default w ↦
          (let ended = ended_at (place + 2) entries w.in_default-2.ensures' in omega (arith, ended, c.len-len.ensures.len, c.if-len-place-ge4.true))
      | in_default-2-via-in_default w ↦
          (let ended = ended_at (place + 1) entries w.in_default-2.ensures in omega (arith, ended, c.len-len.ensures.len, c.if-len-place-ge4.true))
    ]

pub append-requires-clause-short : goal.append-requires-clause-short
append-requires-clause-short c =
    short_at c.size-place.result (entries_of c.args.log.now) c.in-Some.first.now c.len-len.ensures.kept.short c.in-Some.ensures

pub append_four-requires-clause-short : goal.append_four-requires-clause-short
append_four-requires-clause-short c =
    let place = c.size-place.result in
    let entries = entries_of c.args.log.now in
    let short = c.len-len.ensures.kept.short in
    let more = c.in-Some-Some-Some in (
      short_at place entries c.in-Some.first.now short c.in-Some.ensures,
      short_at (place + 1) entries more.second.now short more.ensures,
      short_at (place + 2) entries more.third.now short more.ensures',
      short_at (place + 3) entries more.fourth.now short more.ensures'',
    )

pub returns-then-len-place-ge4-clause-grown : goal.returns-then-len-place-ge4-clause-grown
returns-then-len-place-ge4-clause-grown c start is =
    let more = c.in-Some-Some-Some in
    grown_four (entries_of c.args.log.now) c.size-place.result c.in-Some.first.now more.second.now more.third.now more.fourth.now c.args.growth.now c.append_four.new.self start
    c.size-place.ensures c.in_ok-append_four.ensures.size c.in-Some.ensures more.ensures more.ensures' more.ensures'' c.in_ok-append_four.ensures.grown is

pub returns-clause-grown : goal.returns-clause-grown
returns-clause-grown c start is =
    grown_next (entries_of c.args.log.now) c.size-place.result c.in-Some.first.now c.args.growth.now c.append.new.self start
    c.size-place.ensures c.in_ok-append.ensures.size c.in-Some.ensures c.in_ok-append.ensures.grown is
