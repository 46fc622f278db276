use Rattle.std.proofs.Common.{All, map, take, string_bytes, subst, sym}
use Rattle.std.specs.Prelude.{option_map}
use Rattle.tl_sequencer.specs.Log.{IsSenderOf, entries_of}
use Rattle.tl_publisher.specs.Operating.{IsOperating}
use Rattle.tl_rows.proofs.running.run_steps.Goals as goal

-- a close that fails returns the operator as it was
pub loop-place-preserved-then-eq-2 : goal.loop-place-preserved-then-eq-2
loop-place-preserved-then-eq-2 g c =
    subst (λ o. IsOperating (record {
      origin = string_bytes o.origin;
      signers = map (λ b. (goal.Signer-dyn g (b.vtable, b.value)).signing_key b.value) o.signers.items;
      quorum = record { witnesses = map (λ b. (goal.Verifier-dyn g (b.vtable, b.value)).key b.value) o.witnesses.items; need = o.need };
      log = o.run.log;
      proposal = option_map (λ note. record { entries = take o.run.grown (entries_of o.run.log); note = string_bytes note }) o.proposal;
      past = o.run.past;
    })
    × All (λ s. IsSenderOf s o.run.log) c.loop-place.lanes.items) (sym c.in-Err.ensures.back) c.loop-place.invariant
