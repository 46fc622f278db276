use Rattle.std.proofs.Common.{List, map, vec_items, sym, subst, arith}
use Rattle.std.proofs.lemmas.Grind.{common_steps}
use Rattle.tl_note.specs.Key.{SigningKey}
use Rattle.tl_sequencer.specs.Opened.{IsOpened}
use Rattle.tl_publisher.specs.Signed.{AreSigners}
use Rattle.tl_publisher.specs.Resuming.{Resumption, ResumeRefuses}
use Rattle.tl_publisher.proofs.Resumptions.{err_passes, not_memory, log_refused, operator_refused}
use Rattle.tl_publisher.proofs.operator.Operator.resume.Goals as goal

pub returns-in_err-base-clause-refused : goal.returns-in_err-base-clause-refused
returns-in_err-base-clause-refused g c =
    let r : Resumption = record { note = c.args.note.now; keys = map (λ b. (goal.Verifier-dyn g (b.vtable, b.value)).key b.value) c.args.verifiers.now; bundles = map vec_items c.args.bundles.now; origin = c.args.origin.now; limit = c.args.limit } in
    let keys : List SigningKey = map (λ b. (goal.Signer-dyn g (b.vtable, b.value)).signing_key b.value) c.args.signers.items in
    err_passes (λ fault. ResumeRefuses r keys c.args.lanes c.args.capacity c.args.readers fault) c.in_err-base.field-0.0 c.from_residual.result c.from_residual.ensures.1
    (c.in_err-base.ensures.refused keys c.args.lanes c.args.capacity c.args.readers)

pub returns-in-Some-clause-refused : goal.returns-in-Some-clause-refused
returns-in-Some-clause-refused g c =
    let keys : List SigningKey = map (λ b. (goal.Signer-dyn g (b.vtable, b.value)).signing_key b.value) c.args.signers.items in
    let wrong = rw c.as_slice.ensures.value at c.in-Some.ensures in
    (map vec_items c.in_ok-base.base.items, c.in_ok-base.ensures.base, wrong c.args.lanes c.args.capacity c.args.limit, not_memory c.args.origin.now keys c.args.readers c.in-Some.fault wrong)

pub returns-in-Err-begin-clause-refused : goal.returns-in-Err-begin-clause-refused
returns-in-Err-begin-clause-refused g c =
    let r : Resumption = record { note = c.args.note.now; keys = map (λ b. (goal.Verifier-dyn g (b.vtable, b.value)).key b.value) c.args.verifiers.now; bundles = map vec_items c.args.bundles.now; origin = c.args.origin.now; limit = c.args.limit } in
    let keys : List SigningKey = map (λ b. (goal.Signer-dyn g (b.vtable, b.value)).signing_key b.value) c.args.signers.items in
    let all = rw c.as_slice.ensures.value at c.in_default.ensures in
    subst (ResumeRefuses r keys c.args.lanes c.args.capacity c.args.readers) (sym c.operator_refusal.ensures)
    (operator_refused r keys c.args.lanes c.args.capacity c.args.readers (map vec_items c.in_ok-base.base.items) c.in_ok-base.ensures.base c.in-Err-begin.fault all c.in-Ok.ensures.bounds c.in-Err-begin.ensures.refused)

pub returns-in-Err-clause-refused : goal.returns-in-Err-clause-refused
returns-in-Err-clause-refused g c =
    let r : Resumption = record { note = c.args.note.now; keys = map (λ b. (goal.Verifier-dyn g (b.vtable, b.value)).key b.value) c.args.verifiers.now; bundles = map vec_items c.args.bundles.now; origin = c.args.origin.now; limit = c.args.limit } in
    let keys : List SigningKey = map (λ b. (goal.Signer-dyn g (b.vtable, b.value)).signing_key b.value) c.args.signers.items in
    let all = rw c.as_slice.ensures.value at c.in_default.ensures in
    subst (ResumeRefuses r keys c.args.lanes c.args.capacity c.args.readers) (sym c.log_refusal.ensures)
    (log_refused r keys c.args.lanes c.args.capacity c.args.readers (map vec_items c.in_ok-base.base.items) c.in_ok-base.ensures.base c.in-Err.back.why all c.in-Err.ensures.refused)

pub begin-requires-clause-signers : goal.begin-requires-clause-signers
begin-requires-clause-signers g c = subst (λ keys. AreSigners (map (λ b. (goal.Signer-dyn g (b.vtable, b.value)).signing_key b.value) keys)) c.as_slice.ensures.value c.in_default.ensures.1

pub returns-in-Ok-begin-clause-resumed : goal.returns-in-Ok-begin-clause-resumed
returns-in-Ok-begin-clause-resumed g c = (
  map vec_items c.in_ok-base.base.items,
  c.in_ok-base.ensures.base,
  record {
    origin = c.in-Ok-begin.ensures.begun.origin;
    signers = c.in-Ok-begin.ensures.begun.signers;
    free = c.in-Ok-begin.ensures.begun.free;
    log = subst (λ log. IsOpened (map vec_items c.in_ok-base.base.items) c.args.lanes c.args.capacity c.args.limit log c.in-Ok.opened.1.items) (sym c.in-Ok-begin.ensures.log) c.in-Ok.ensures.opened;
    unproposed = c.in-Ok-begin.ensures.begun.unproposed;
    unpublished = c.in-Ok-begin.ensures.begun.unpublished;
  },
)

pub begin-requires-clause-origin : goal.begin-requires-clause-origin
begin-requires-clause-origin g c = grind (arith, common_steps)

pub open_from-requires-clause-fits : goal.open_from-requires-clause-fits
open_from-requires-clause-fits g c = grind (arith, common_steps)

pub open_from-requires-clause-short : goal.open_from-requires-clause-short
open_from-requires-clause-short g c = grind (arith, common_steps)

pub returns-in-Err-begin-clause-operating : goal.returns-in-Err-begin-clause-operating
returns-in-Err-begin-clause-operating g c = grind (arith, common_steps)

pub returns-in-Err-begin-clause-readers : goal.returns-in-Err-begin-clause-readers
returns-in-Err-begin-clause-readers g c = grind (arith, common_steps)

pub returns-in-Err-begin-clause-resumed : goal.returns-in-Err-begin-clause-resumed
returns-in-Err-begin-clause-resumed g c = grind (arith, common_steps)

pub returns-in-Err-clause-operating : goal.returns-in-Err-clause-operating
returns-in-Err-clause-operating g c = grind (arith, common_steps)

pub returns-in-Err-clause-readers : goal.returns-in-Err-clause-readers
returns-in-Err-clause-readers g c = grind (arith, common_steps)

pub returns-in-Err-clause-resumed : goal.returns-in-Err-clause-resumed
returns-in-Err-clause-resumed g c = grind (arith, common_steps)

pub returns-in-Ok-begin-clause-operating : goal.returns-in-Ok-begin-clause-operating
returns-in-Ok-begin-clause-operating g c = grind (arith, common_steps)

pub returns-in-Ok-begin-clause-readers : goal.returns-in-Ok-begin-clause-readers
returns-in-Ok-begin-clause-readers g c = grind (arith, common_steps)

pub returns-in-Ok-begin-clause-refused : goal.returns-in-Ok-begin-clause-refused
returns-in-Ok-begin-clause-refused g c = grind (arith, common_steps)

pub returns-in-Some-clause-operating : goal.returns-in-Some-clause-operating
returns-in-Some-clause-operating g c = grind (arith, common_steps)

pub returns-in-Some-clause-readers : goal.returns-in-Some-clause-readers
returns-in-Some-clause-readers g c = grind (arith, common_steps)

pub returns-in-Some-clause-resumed : goal.returns-in-Some-clause-resumed
returns-in-Some-clause-resumed g c = grind (arith, common_steps)

pub returns-in_err-base-clause-operating : goal.returns-in_err-base-clause-operating
returns-in_err-base-clause-operating g c = grind (arith, common_steps)

pub returns-in_err-base-clause-readers : goal.returns-in_err-base-clause-readers
returns-in_err-base-clause-readers g c = grind (arith, common_steps)
