use Rattle.std.proofs.Common.{All, map, take, string_bytes}
use Rattle.std.specs.Prelude.{option_map}
use Rattle.tl_sequencer.specs.Log.{IsSenderOf, entries_of}
use Rattle.tl_publisher.specs.Operating.{IsOperating}
use Rattle.tl_rows.proofs.running.run_steps.Given as goal

-- it operates, and the submitters that are left are its own
abbrev pub invariant-loop-place : goal.invariant-loop-place
invariant-loop-place g l =
    IsOperating (record {
      origin = string_bytes l.log.origin;
      signers = map (λ b. (goal.Signer-dyn g (b.vtable, b.value)).signing_key b.value) l.log.signers.items;
      quorum = record { witnesses = map (λ b. (goal.Verifier-dyn g (b.vtable, b.value)).key b.value) l.log.witnesses.items; need = l.log.need };
      log = l.log.run.log;
      proposal = option_map (λ note. record { entries = take l.log.run.grown (entries_of l.log.run.log); note = string_bytes note }) l.log.proposal;
      past = l.log.run.past;
    })
    × All (λ s. IsSenderOf s l.log.run.log) l.lanes.items
