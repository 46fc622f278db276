use Rattle.std.proofs.Common.{length, map, vec_items, ap, sym, ◌∙◌, arith}
use Rattle.std.proofs.lemmas.Grind.{common_steps}
use Rattle.std.proofs.lemmas.List.{length-map}
use Rattle.tl_bucket.proofs.Finishes.{is_batch, none_put, one_done, one_failed}
use Rattle.tl_bucket.proofs.shelf.BucketShelf.finish_one.Goals as goal

pub returns-in-Err-clause-finishes : goal.returns-in-Err-clause-finishes
returns-in-Err-clause-finishes g c =
    none_put g.D.CrashOutcome.held g.D.CrashOutcome.reached (g.K.LogSigner.log_key c.args.key.now) c.args.client.now c.args.number c.args.self.now c.failed.new.self c.args.ledger.now
    (c.failed.ensures.events ∙ c.take_entries.ensures.events)

pub returns-in-Ok-append_batch-clause-finishes : goal.returns-in-Ok-append_batch-clause-finishes
returns-in-Ok-append_batch-clause-finishes g c =
    let taken = c.in-Ok.ensures.claimed in
    let batch = map vec_items c.as_slice.result.now in
    let read = is_batch c.args.client.now c.args.number c.args.ledger.now.edge.size taken.0 batch taken.1 (taken.2 ∙ c.size.ensures) (taken.3 ∙ ap (λ v. map vec_items v) (sym c.as_slice.ensures.value)) in
    one_done g.D.CrashOutcome.held g.D.CrashOutcome.reached (g.K.LogSigner.log_key c.args.key.now) c.args.client.now c.args.number c.args.self.now c.take_entries.new.self c.append_batch.new.shelf
    c.args.ledger.now c.append_batch.new.ledger batch c.take_entries.ensures.events read (length c.as_slice.result.now)
    c.in-Ok-append_batch.ensures.all c.in-Ok-append_batch.ensures.sized (length-map c.as_slice.result.now vec_items)

pub returns-clause-finishes : goal.returns-clause-finishes
returns-clause-finishes g c =
    let taken = c.in-Ok.ensures.claimed in
    let batch = map vec_items c.as_slice.result.now in
    let read = is_batch c.args.client.now c.args.number c.args.ledger.now.edge.size taken.0 batch taken.1 (taken.2 ∙ c.size.ensures) (taken.3 ∙ ap (λ v. map vec_items v) (sym c.as_slice.ensures.value)) in
    one_failed g.D.CrashOutcome.held g.D.CrashOutcome.reached (g.K.LogSigner.log_key c.args.key.now) c.args.client.now c.args.number c.args.self.now c.take_entries.new.self c.append_batch.new.shelf
    c.args.ledger.now c.append_batch.new.ledger batch c.take_entries.ensures.events read c.in-Err-append_batch.ensures.part

pub returns-clause-place : goal.returns-clause-place
returns-clause-place g c = grind (arith, common_steps)

pub returns-in-Ok-append_batch-clause-place : goal.returns-in-Ok-append_batch-clause-place
returns-in-Ok-append_batch-clause-place g c = grind (arith, common_steps)
