use Rattle.std.proofs.Common.{not, map, vec_items, sym, ap, ◌∙◌, true≢false, arith}
use Rattle.std.proofs.lemmas.Grind.{common_steps}
use Rattle.std.proofs.lemmas.List.{length-map}
use Rattle.std.proofs.lemmas.Slice.Eq.{bytes_eq-Decides}
use Rattle.tl_publisher.specs.Resuming.{Resumption}
use Rattle.tl_publisher.specs.Inner.Resuming.{Refuses}
use Rattle.tl_publisher.specs.declared.fault.ResumeFault.TheVariants.{OutOfMemory}
use Rattle.tl_checkpoint.specs.Checkpoint.{head_of}
use Rattle.tl_publisher.proofs.Resumptions.{err_passes, missed, is_note, true_of_not}
use Rattle.tl_publisher.proofs.resuming.base_of.Goals as goal

pub returns-in_err-checkpoint-clause-refused : goal.returns-in_err-checkpoint-clause-refused
returns-in_err-checkpoint-clause-refused g c =
    let r : Resumption = record { note = c.args.note.now; keys = map (λ b. (goal.Verifier-dyn g (b.vtable, b.value)).key b.value) c.args.verifiers.now; bundles = map vec_items c.args.bundles.now; origin = c.args.origin.now; limit = c.args.limit } in
    err_passes (Refuses r) c.in_err-checkpoint.field-0.0 c.from_residual.result c.from_residual.ensures.1 (c.in_err-checkpoint.ensures.refused r.bundles r.limit)

pub returns-then-not-is_sized-clause-refused : goal.returns-then-not-is_sized-clause-refused
returns-then-not-is_sized-clause-refused g c signers lanes capacity readers =
    let many = length-map c.args.bundles.now vec_items in (
      head_of c.in_ok-checkpoint.checkpoint,
      c.in_ok-checkpoint.ensures.checkpoint (map vec_items c.args.bundles.now) c.args.limit,
      (λ sized. true≢false (sym (c.is_sized.ensures.1 (sized.within, sized.small, sym many ∙ sized.bundled)) ∙ c.if-not-is_sized.true)),
    )

pub returns-in_err-base-clause-refused : goal.returns-in_err-base-clause-refused
returns-in_err-base-clause-refused g c =
    let r : Resumption = record { note = c.args.note.now; keys = map (λ b. (goal.Verifier-dyn g (b.vtable, b.value)).key b.value) c.args.verifiers.now; bundles = map vec_items c.args.bundles.now; origin = c.args.origin.now; limit = c.args.limit } in
    let many = length-map c.args.bundles.now vec_items in
    let may = c.is_sized.ensures.0 c.if-not-is_sized.false in
    err_passes (Refuses r) c.in_err-base.field-0.0 c.from_residual-in_err-base.result c.from_residual-in_err-base.ensures.1
    (missed r (head_of c.in_ok-checkpoint.checkpoint) c.in_err-base.field-0.0 (c.in_ok-checkpoint.ensures.checkpoint r.bundles r.limit)
    (record { within = may.0; small = may.1; bundled = many ∙ may.2 }) c.in_err-base.ensures.refused)

pub returns-in_err-growth-clause-refused : goal.returns-in_err-growth-clause-refused
returns-in_err-growth-clause-refused g c =
    let r : Resumption = record { note = c.args.note.now; keys = map (λ b. (goal.Verifier-dyn g (b.vtable, b.value)).key b.value) c.args.verifiers.now; bundles = map vec_items c.args.bundles.now; origin = c.args.origin.now; limit = c.args.limit } in
    err_passes (Refuses r) OutOfMemory c.from_residual-in_err-growth.result c.from_residual-in_err-growth.ensures.1
    (λ signers lanes capacity readers. is_note r (head_of c.in_ok-checkpoint.checkpoint) (c.in_ok-checkpoint.ensures.checkpoint r.bundles r.limit))

pub returns-then-ne-clause-refused : goal.returns-then-ne-clause-refused
returns-then-ne-clause-refused g c signers lanes capacity readers =
    let r : Resumption = record { note = c.args.note.now; keys = map (λ b. (goal.Verifier-dyn g (b.vtable, b.value)).key b.value) c.args.verifiers.now; bundles = map vec_items c.args.bundles.now; origin = c.args.origin.now; limit = c.args.limit } in
    let many = length-map c.args.bundles.now vec_items in
    let may = c.is_sized.ensures.0 c.if-not-is_sized.false in
    let grown = rw c.deref.ensures.value at c.in_ok-growth.ensures in
    let root = c.head.ensures.root 0 (map vec_items c.in_ok-base.base.items) grown in (
      head_of c.in_ok-checkpoint.checkpoint,
      map vec_items c.in_ok-base.base.items,
      record {
        of = c.in_ok-checkpoint.ensures.checkpoint r.bundles r.limit;
        sized = record { within = may.0; small = may.1; bundled = many ∙ may.2 };
        length = length-map c.in_ok-base.base.items vec_items ∙ c.in_ok-base.ensures.length;
        bundled = c.in_ok-base.ensures.entries;
      },
      (λ same. true≢false (c.if-ne.ensures ∙ ap not ((bytes_eq-Decides c.head.result.root c.in_ok-checkpoint.checkpoint.root).1 (root ∙ same)))),
    )

pub returns-clause-base : goal.returns-clause-base
returns-clause-base g c =
    let r : Resumption = record { note = c.args.note.now; keys = map (λ b. (goal.Verifier-dyn g (b.vtable, b.value)).key b.value) c.args.verifiers.now; bundles = map vec_items c.args.bundles.now; origin = c.args.origin.now; limit = c.args.limit } in
    let many = length-map c.args.bundles.now vec_items in
    let may = c.is_sized.ensures.0 c.if-not-is_sized.false in
    let grown = rw c.deref.ensures.value at c.in_ok-growth.ensures in
    let root = c.head.ensures.root 0 (map vec_items c.in_ok-base.base.items) grown in
    record {
      checkpoint = head_of c.in_ok-checkpoint.checkpoint;
      stated = record {
        of = c.in_ok-checkpoint.ensures.checkpoint r.bundles r.limit;
        sized = record { within = may.0; small = may.1; bundled = many ∙ may.2 };
        length = length-map c.in_ok-base.base.items vec_items ∙ c.in_ok-base.ensures.length;
        bundled = c.in_ok-base.ensures.entries;
      };
      root = sym root ∙ (bytes_eq-Decides c.head.result.root c.in_ok-checkpoint.checkpoint.root).0 (true_of_not _ c.if-ne.ensures);
    }

pub of-requires-clause-few : goal.of-requires-clause-few
of-requires-clause-few g c = grind (arith, common_steps)

pub of-requires-clause-short : goal.of-requires-clause-short
of-requires-clause-short g c = grind (arith, common_steps)

pub read_all-requires : goal.read_all-requires
read_all-requires g c = grind (arith, common_steps)

pub returns-clause-grown : goal.returns-clause-grown
returns-clause-grown g c = grind (arith, common_steps)

pub returns-clause-refused : goal.returns-clause-refused
returns-clause-refused g c = grind (arith, common_steps)

pub returns-then-ne-clause-base : goal.returns-then-ne-clause-base
returns-then-ne-clause-base g c = grind (arith, common_steps)

pub returns-then-ne-clause-grown : goal.returns-then-ne-clause-grown
returns-then-ne-clause-grown g c = grind (arith, common_steps)

pub returns-then-not-is_sized-clause-base : goal.returns-then-not-is_sized-clause-base
returns-then-not-is_sized-clause-base g c = grind (arith, common_steps)

pub returns-then-not-is_sized-clause-grown : goal.returns-then-not-is_sized-clause-grown
returns-then-not-is_sized-clause-grown g c = grind (arith, common_steps)

pub same-growth : goal.same-growth
same-growth g c = grind (arith, common_steps)
