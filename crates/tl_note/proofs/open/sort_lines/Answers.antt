use Rattle.std.proofs.Common.{◌+◌, ◌++◌, ◌∷◌, [], List, map, arith}
use Rattle.std.proofs.lemmas.Grind.{common_steps}
use Rattle.tl_note.specs.Key.{Key}
use Rattle.tl_note.proofs.OpenLemmas.{sorted_same, sorts_unknown, sorts_repeated, sorts_verified, sorts_fault, sorts_refused, needs_memory, unknown_clear}
use Rattle.tl_note.proofs.open.sort_lines.Goals as goal
use Rattle.tl_note.proofs.open.sort_lines.Goals.{in-Unknown+in_ok-push-in-Unknown, in-Repeated, in-Verified+in_ok-push-in-Verified}

pub returns-in_err-judge_line : goal.returns-in_err-judge_line
returns-in_err-judge_line g c =
    let judged = c.in_err-judge_line.ensures in
    sorts_fault _ c.args.text.now c.args.lines.now c.loop-place.place judged.0 judged.1 c.loop-place.verified.items c.loop-place.unverified.items c.loop-place.invariant c.in_err-judge_line.field-0.0 c.from_residual.result judged.2 c.from_residual.ensures.1

pub loop-place-preserved : goal.loop-place-preserved
loop-place-preserved g c =
    let keys : List Key = map (λ b. (goal.Verifier-dyn g (b.vtable, b.value)).key b.value) c.args.verifiers.now in
    let text = c.args.text.now in
    let lines = c.args.lines.now in
    let n = c.loop-place.place in
    let judged = c.in_ok-judge_line.ensures in
    let verified = c.loop-place.verified.items in
    let unverified = c.loop-place.unverified.items in
    elim c.match-branch-2.branch [
      | in-Unknown+in_ok-push-in-Unknown w ↦
          let found = rw w.in-Unknown.is at judged.2 in
          sorted_same keys text lines (n + 1) c.match-branch-2.verified.items verified c.match-branch-2.unverified.items (unverified ++ n ∷ []) (cc) (cc w.in_ok-push-in-Unknown.ensures.items)
          (sorts_unknown keys text lines n judged.0 judged.1 verified unverified c.loop-place.invariant found)
      | in-Repeated w ↦
          let found = rw w.in-Repeated.is at judged.2 in
          sorted_same keys text lines (n + 1) c.match-branch-2.verified.items verified c.match-branch-2.unverified.items unverified (cc) (cc)
          (sorts_repeated keys text lines n judged.0 judged.1 verified unverified c.loop-place.invariant found.0 found.1)
      | in-Verified+in_ok-push-in-Verified w ↦
          let found = rw w.in-Verified.is at judged.2 in
          sorted_same keys text lines (n + 1) c.match-branch-2.verified.items (verified ++ n ∷ []) c.match-branch-2.unverified.items unverified (cc w.in_ok-push-in-Verified.ensures.items) (cc)
          (sorts_verified keys text lines n judged.0 judged.1 verified unverified c.loop-place.invariant found.0 found.1 found.2)
    ]

pub returns-in_err-push-in-Unknown : goal.returns-in_err-push-in-Unknown
returns-in_err-push-in-Unknown g c =
    let keys : List Key = map (λ b. (goal.Verifier-dyn g (b.vtable, b.value)).key b.value) c.args.verifiers.now in
    let judged = c.in_ok-judge_line.ensures in
    let found = rw c.in-Unknown.is at judged.2 in
    sorts_refused keys c.args.text.now c.args.lines.now c.from_residual-in_err-push-in-Unknown.result c.from_residual-in_err-push-in-Unknown.ensures.1
    (needs_memory keys c.args.lines.now c.loop-place.place judged.0 judged.1 c.loop-place.invariant.begun (unknown_clear keys c.loop-place.place judged.0 found))

pub returns-in_err-push-in-Verified : goal.returns-in_err-push-in-Verified
returns-in_err-push-in-Verified g c =
    let keys : List Key = map (λ b. (goal.Verifier-dyn g (b.vtable, b.value)).key b.value) c.args.verifiers.now in
    let judged = c.in_ok-judge_line.ensures in
    let found = rw c.in-Verified.is at judged.2 in
    sorts_refused keys c.args.text.now c.args.lines.now c.from_residual-in_err-push-in-Verified.result c.from_residual-in_err-push-in-Verified.ensures.1
    (needs_memory keys c.args.lines.now c.loop-place.place judged.0 judged.1 c.loop-place.invariant.begun found.2.0)

pub returns : goal.returns
returns g c = grind (arith, common_steps)
