use Rattle.std.proofs.Common.{◌∙◌, ap, subst, sym, refl, List, ℕ, Ok, arith}
use Rattle.std.proofs.lemmas.Grind.{common_steps}
use Rattle.tl_proof.specs.Acceptance.{step_of}
use Rattle.tl_witness.specs.ReadChain.{IsLineOf}
use Rattle.tl_logs.specs.ReadState.{heads_shown}
use Rattle.tl_logs.specs.Inner.Counting.{counts_of}
use Rattle.tl_logs.specs.Inner.Stream.{KeepsLink, SoFar}
use Rattle.tl_logs.proofs.StreamLaws.{newline_malformed, newline_refused, newline_taken, so_far}
use Rattle.tl_logs.proofs.state_reading.StateReading.end_line.Goals as goal

pub returns-in-Err-Malformed : goal.returns-in-Err-Malformed
returns-in-Err-Malformed g c = rw (← c.self.view_is)
    (λ input after small read.
    newline_malformed g.T.TreeHash.digest_of (counts_of c.args.counting.now) _ input after read
    (rw c.in-Err-Malformed.field-0-is at (c.in-Err-Malformed.ensures c.self.inside.begun.items read.one_line (c.as_slice.ensures.value ∙ c.in_ok-push.ensures.items))))

pub returns-in-Err : goal.returns-in-Err
returns-in-Err g c = rw (← c.self.view_is)
    (λ input after small read.
    newline_refused g.T.TreeHash.digest_of (counts_of c.args.counting.now) _
    (so_far (heads_shown c.self.inside.heads.items) c.self.inside.line c.push.new.self.items) c.keep.new.self input after c.as_str.result.now (step_of c.in-Ok.read.1) c.in-Err.fault read
    (subst (λ (o : List ℕ). IsLineOf c.self.inside.begun.items o (step_of c.in-Ok.read.1)) (sym c.as_str.ensures.value)
    (c.in-Ok.ensures c.self.inside.begun.items read.one_line (c.as_slice.ensures.value ∙ c.in_ok-push.ensures.items))) refl refl c.in-Err.ensures.kept)

pub returns : goal.returns
returns g c = rw (← c.self.view_is, c.clear.ensures.items)
    (λ input after small read.
    newline_taken g.T.TreeHash.digest_of (counts_of c.args.counting.now) _
    (so_far (heads_shown c.self.inside.heads.items) c.self.inside.line c.push.new.self.items)
    (so_far (heads_shown c.self-2.inside.heads.items) c.self-2.inside.line c.self-2.inside.begun.items) input after c.as_str.result.now (step_of c.in-Ok.read.1) c.saturating_add-self-inside.result read
    small
    (subst (λ (o : List ℕ). IsLineOf c.self.inside.begun.items o (step_of c.in-Ok.read.1)) (sym c.as_str.ensures.value)
    (c.in-Ok.ensures c.self.inside.begun.items read.one_line (c.as_slice.ensures.value ∙ c.in_ok-push.ensures.items))) refl
    (ap (λ (s : SoFar). s.line) c.self-2.view_is ∙ c.in-Ok-keep.ensures.line) c.saturating_add-self-inside.ensures
    (subst (λ (s : SoFar). KeepsLink g.T.TreeHash.digest_of (counts_of c.args.counting.now) c.as_str.result.now (step_of c.in-Ok.read.1)
    (so_far (heads_shown c.self.inside.heads.items) c.self.inside.line c.push.new.self.items) s (Ok tt)) (sym c.self-2.view_is) c.in-Ok-keep.ensures.kept))

pub returns-in-Err-OutOfMemory : goal.returns-in-Err-OutOfMemory
returns-in-Err-OutOfMemory g c = grind (arith, common_steps)

pub returns-in_err-push : goal.returns-in_err-push
returns-in_err-push g c = grind (arith, common_steps)
