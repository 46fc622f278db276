use Rattle.std.proofs.Common.{Global, Bool, ℕ, ap, refl, ◌∙◌, ◌≡◌, ◌<◌, ◌⊎◌, inl, inr, [], ◌++◌, List, length, map, vec_items, false, sym, subst, arith, append-nil}
use Rattle.std.proofs.lemmas.Grind.{common_steps}
use Rattle.std.specs.Vec.{vec_len}
use Rattle.std.proofs.lemmas.Bool.{eqb-true}
use Rattle.std.proofs.lemmas.List.{length-map}
use Rattle.tl_hash.specs.Bytes.{Bytes}
use Rattle.tl_device.specs.Device.{HasFailed, passage}
use Rattle.tl_lines.specs.Lines.{unread}
use Rattle.tl_lines.specs.Reading.{TellsAll, TellsOf, all_entries}
use Rattle.tl_lines.proofs.CuttingLemmas.{nothing_in}
use Rattle.tl_lines.proofs.ReadingLemmas.{over}
use Rattle.tl_append.specs.Appending.{AreFirst, joined}
use Rattle.tl_append.proofs.Loops.{AreFull, IsTold, all_told, begun_told, first_of, full_push, full_then, last_due, left_so, none_begun, none_left_told, stopped, told_due}
use Rattle.tl_append.proofs.Reading.{all_on, are_first, entries_are_short, first_failed, lines_on}
use Rattle.tl_append.proofs.Turns.{along, joined_on}
use Rattle.tl_append.proofs.appending.put_lines.Goals as goal

pub returns-in-Err-clause-some : goal.returns-in-Err-clause-some
returns-in-Err-clause-some g c = none_begun (g.K.LogSigner.log_key c.args.key.now) c.args.due.now (g.S.Shelf.kept c.args.shelf.now) (g.S.Shelf.trace c.args.shelf.now) c.args.ledger.now (g.R.Read.remaining c.args.reader.now.device) c.args.reader.now.failed c.requires.none

pub loop-turn-init : goal.loop-turn-init
loop-turn-init g c = record {
  told = begun_told (g.K.LogSigner.log_key c.args.key.now) c.args.batching.size c.args.batching.keeps_partials c.args.due.now (g.S.Shelf.published c.args.shelf.now) (g.S.Shelf.kept c.args.shelf.now) (g.S.Shelf.trace c.args.shelf.now) c.args.ledger.now
      (g.R.Read.remaining c.args.reader.now.device) (g.W.Write.contents c.args.writer.now.device) c.args.reader.now.failed c.args.writer.now.failed c.in-Ok.lines c.requires.none c.in-Ok.ensures;
  small = inl c.requires.none;
  place = refl;
}

pub returns-in-Err-take_most-clause-some : goal.returns-in-Err-take_most-clause-some
returns-in-Err-take_most-clause-some g c =
    let so_far = c.loop-turn.invariant.told.so_far in
    left_so (AreFull c.args.batching.size) (g.K.LogSigner.log_key c.args.key.now) c.args.batching.keeps_partials c.loop-turn.is_first (g.S.Shelf.published c.loop-turn.shelf) (g.S.Shelf.kept c.args.shelf.now) (g.S.Shelf.kept c.loop-turn.shelf) (g.S.Shelf.kept c.loop-turn.shelf)
    (g.S.Shelf.trace c.args.shelf.now) (g.S.Shelf.trace c.loop-turn.shelf) (g.S.Shelf.trace c.loop-turn.shelf) c.args.ledger.now c.loop-turn.ledger c.loop-turn.ledger
    (g.W.Write.contents c.args.writer.now.device) (g.W.Write.contents c.loop-turn.writer.device) (g.W.Write.contents c.loop-turn.writer.device) c.args.writer.now.failed c.loop-turn.writer.failed c.loop-turn.writer.failed c.loop-turn.due so_far
    (over (g.R.Read.remaining c.args.reader.now.device) (g.R.Read.remaining c.take_most.new.reader.device) c.args.reader.now.failed c.take_most.new.reader.failed)
    (subst (λ (es : List Bytes). HasFailed (over (g.R.Read.remaining c.args.reader.now.device) (g.R.Read.remaining c.take_most.new.reader.device) c.args.reader.now.failed c.take_most.new.reader.failed) ⊎ AreFirst (over (g.R.Read.remaining c.args.reader.now.device) (g.R.Read.remaining c.take_most.new.reader.device) c.args.reader.now.failed c.take_most.new.reader.failed) es) (joined_on so_far.batches so_far.last)
    (first_failed c.loop-turn.lines c.take_most.new.self (g.R.Read.remaining c.args.reader.now.device) (g.R.Read.remaining c.loop-turn.reader.device) (g.R.Read.remaining c.take_most.new.reader.device) c.args.reader.now.failed c.loop-turn.reader.failed c.take_most.new.reader.failed (joined (so_far.batches ++ so_far.last)) c.loop-turn.invariant.told.lines Global c.args.batching.size c.in-Err-take_most.fault c.in-Err-take_most.ensures))

pub returns-then-not-is_first-clause-all : goal.returns-then-not-is_first-clause-all
returns-then-not-is_first-clause-all g c =
    let so_far = c.loop-turn.invariant.told.so_far in
    let items = c.in-Ok-take_most.entries.items in
    let none : length items ≡ 0 = omega (arith, eqb-true (vec_len c.in-Ok-take_most.entries) 0 (sym {A = Bool} c.if-is_empty.ensures), c.in-Ok-take_most.entries.ok.0) in
    let some : TellsAll c.loop-turn.lines c.take_most.new.self (passage g.R.Read.remaining c.loop-turn.reader c.take_most.new.reader) (all_entries (map vec_items items)) =
    c.in-Ok-take_most.ensures.2 (omega (arith, none, c.requires.size)) in
    let all : TellsAll c.loop-turn.lines c.take_most.new.self (passage g.R.Read.remaining c.loop-turn.reader c.take_most.new.reader) [] = rw (nothing_in items none) at some in
    all_told c.args.batching.size (g.K.LogSigner.log_key c.args.key.now) c.args.batching.keeps_partials c.loop-turn.is_first c.if-not-is_first.true c.loop-turn.due (g.S.Shelf.published c.loop-turn.shelf)
    (along (g.S.Shelf.kept c.args.shelf.now) (g.S.Shelf.kept c.loop-turn.shelf) (g.S.Shelf.trace c.args.shelf.now) (g.S.Shelf.trace c.loop-turn.shelf) c.args.ledger.now c.loop-turn.ledger)
    (over (g.W.Write.contents c.args.writer.now.device) (g.W.Write.contents c.loop-turn.writer.device) c.args.writer.now.failed c.loop-turn.writer.failed) so_far c.take_most.new.self (over (g.R.Read.remaining c.args.reader.now.device) (g.R.Read.remaining c.take_most.new.reader.device) c.args.reader.now.failed c.take_most.new.reader.failed)
    (subst (λ (es : List Bytes). TellsAll unread c.take_most.new.self (over (g.R.Read.remaining c.args.reader.now.device) (g.R.Read.remaining c.take_most.new.reader.device) c.args.reader.now.failed c.take_most.new.reader.failed) (all_entries es)) (append-nil (joined (so_far.batches ++ so_far.last))) (all_on c.loop-turn.lines c.take_most.new.self (g.R.Read.remaining c.args.reader.now.device) (g.R.Read.remaining c.loop-turn.reader.device) (g.R.Read.remaining c.take_most.new.reader.device) c.args.reader.now.failed c.loop-turn.reader.failed c.take_most.new.reader.failed (joined (so_far.batches ++ so_far.last)) c.loop-turn.invariant.told.lines [] all))

pub put_due-requires-clause-short : goal.put_due-requires-clause-short
put_due-requires-clause-short g c =
    let told : TellsOf c.loop-turn.lines c.take_most.new.self (passage g.R.Read.remaining c.loop-turn.reader c.take_most.new.reader) (all_entries (map vec_items c.as_slice-batch.result.now)) =
    rw c.as_slice-batch.ensures.value c.in-Ok-take_most.ensures.1 in
    entries_are_short c.loop-turn.lines c.take_most.new.self (passage g.R.Read.remaining c.loop-turn.reader c.take_most.new.reader) (map vec_items c.as_slice-batch.result.now) told

pub returns-in-Err-put_due-clause-some : goal.returns-in-Err-put_due-clause-some
returns-in-Err-put_due-clause-some g c =
    let so_far = c.loop-turn.invariant.told.so_far in
    let told : TellsOf c.loop-turn.lines c.take_most.new.self (passage g.R.Read.remaining c.loop-turn.reader c.take_most.new.reader) (all_entries (map vec_items c.as_slice-batch.result.now)) =
    rw c.as_slice-batch.ensures.value c.in-Ok-take_most.ensures.1 in
    let part = c.in-Err-put_due.ensures.part so_far.signed in
    stopped (AreFull c.args.batching.size) (g.K.LogSigner.log_key c.args.key.now) c.args.batching.keeps_partials c.loop-turn.is_first (g.S.Shelf.published c.loop-turn.shelf) (g.S.Shelf.kept c.args.shelf.now) (g.S.Shelf.kept c.loop-turn.shelf) (g.S.Shelf.kept c.put_due.new.shelf)
    (g.S.Shelf.trace c.args.shelf.now) (g.S.Shelf.trace c.loop-turn.shelf) (g.S.Shelf.trace c.put_due.new.shelf) c.args.ledger.now c.loop-turn.ledger c.put_due.new.ledger
    (g.W.Write.contents c.args.writer.now.device) (g.W.Write.contents c.loop-turn.writer.device) (g.W.Write.contents c.put_due.new.writer.device) c.args.writer.now.failed c.loop-turn.writer.failed c.put_due.new.writer.failed c.loop-turn.due so_far
    part.0 part.2 c.put_due.new.due c.in-Err-put_due.ensures.none (over (g.R.Read.remaining c.args.reader.now.device) (g.R.Read.remaining c.take_most.new.reader.device) c.args.reader.now.failed c.take_most.new.reader.failed)
    (inr (are_first c.take_most.new.self (over (g.R.Read.remaining c.args.reader.now.device) (g.R.Read.remaining c.take_most.new.reader.device) c.args.reader.now.failed c.take_most.new.reader.failed) (joined (so_far.batches ++ so_far.last)) (map vec_items c.as_slice-batch.result.now) part.0 part.1 (lines_on c.loop-turn.lines c.take_most.new.self (g.R.Read.remaining c.args.reader.now.device) (g.R.Read.remaining c.loop-turn.reader.device) (g.R.Read.remaining c.take_most.new.reader.device) c.args.reader.now.failed c.loop-turn.reader.failed c.take_most.new.reader.failed (joined (so_far.batches ++ so_far.last)) c.loop-turn.invariant.told.lines (map vec_items c.as_slice-batch.result.now) told)))

pub returns-then-len-size-clause-all : goal.returns-then-len-size-clause-all
returns-then-len-size-clause-all g c =
    let so_far = c.loop-turn.invariant.told.so_far in
    let told : TellsOf c.loop-turn.lines c.take_most.new.self (passage g.R.Read.remaining c.loop-turn.reader c.take_most.new.reader) (all_entries (map vec_items c.as_slice-batch.result.now)) =
    rw c.as_slice-batch.ensures.value c.in-Ok-take_most.ensures.1 in
    let few : length c.in-Ok-take_most.entries.items < c.args.batching.size = omega (arith, c.len.ensures, c.in-Ok-take_most.entries.ok.0, c.if-len-size.true) in
    let all : TellsAll c.loop-turn.lines c.take_most.new.self (passage g.R.Read.remaining c.loop-turn.reader c.take_most.new.reader) (all_entries (map vec_items c.in-Ok-take_most.entries.items)) = c.in-Ok-take_most.ensures.2 few in
    let ended : TellsAll c.loop-turn.lines c.take_most.new.self (passage g.R.Read.remaining c.loop-turn.reader c.take_most.new.reader) (all_entries (map vec_items c.as_slice-batch.result.now)) = rw c.as_slice-batch.ensures.value all in
    last_due (AreFull c.args.batching.size) (g.K.LogSigner.log_key c.args.key.now) c.args.batching.keeps_partials c.loop-turn.is_first (g.S.Shelf.published c.loop-turn.shelf) (g.S.Shelf.kept c.args.shelf.now) (g.S.Shelf.kept c.loop-turn.shelf) (g.S.Shelf.kept c.put_due.new.shelf)
    (g.S.Shelf.trace c.args.shelf.now) (g.S.Shelf.trace c.loop-turn.shelf) (g.S.Shelf.trace c.put_due.new.shelf) c.args.ledger.now c.loop-turn.ledger c.put_due.new.ledger
    (g.W.Write.contents c.args.writer.now.device) (g.W.Write.contents c.loop-turn.writer.device) (g.W.Write.contents c.put_due.new.writer.device) c.args.writer.now.failed c.loop-turn.writer.failed c.put_due.new.writer.failed c.loop-turn.due so_far
    (map vec_items c.as_slice-batch.result.now) (c.in-Ok-put_due.ensures.publishes so_far.signed) (g.S.Shelf.published c.put_due.new.shelf) (c.in-Ok-put_due.ensures.shows so_far.signed) (c.in-Ok-put_due.ensures.printed so_far.signed)
    c.args.batching.size (map vec_items c.as_slice-batch.result.now) c.put_due.new.due c.in-Ok-put_due.ensures.due.0 refl c.in-Ok-put_due.ensures.due.1 c.in-Ok-put_due.ensures.due.2 (omega (arith, c.in-Ok-put_due.ensures.sized, length-map c.as_slice-batch.result.now (vec_items {X = ℕ} {Z = Global}))) c.in-Ok-put_due.ensures.signed
    (full_then c.args.batching.size (so_far.batches ++ so_far.last) (map vec_items c.as_slice-batch.result.now) so_far.sized (omega (arith, few, length-map c.as_slice-batch.result.now (vec_items {X = ℕ} {Z = Global}), ap length c.as_slice-batch.ensures.value))) c.take_most.new.self (over (g.R.Read.remaining c.args.reader.now.device) (g.R.Read.remaining c.take_most.new.reader.device) c.args.reader.now.failed c.take_most.new.reader.failed)
    (all_on c.loop-turn.lines c.take_most.new.self (g.R.Read.remaining c.args.reader.now.device) (g.R.Read.remaining c.loop-turn.reader.device) (g.R.Read.remaining c.take_most.new.reader.device) c.args.reader.now.failed c.loop-turn.reader.failed c.take_most.new.reader.failed (joined (so_far.batches ++ so_far.last)) c.loop-turn.invariant.told.lines (map vec_items c.as_slice-batch.result.now) ended)

pub loop-turn-preserved-then-waits_for_next : goal.loop-turn-preserved-then-waits_for_next
loop-turn-preserved-then-waits_for_next g c =
    let so_far = c.loop-turn.invariant.told.so_far in
    let told : TellsOf c.loop-turn.lines c.take_most.new.self (passage g.R.Read.remaining c.loop-turn.reader c.take_most.new.reader) (all_entries (map vec_items c.as_slice-batch.result.now)) =
    rw c.as_slice-batch.ensures.value c.in-Ok-take_most.ensures.1 in
    record {
      told = told_due (AreFull c.args.batching.size) (g.K.LogSigner.log_key c.args.key.now) c.args.batching.keeps_partials c.loop-turn.is_first (g.S.Shelf.published c.loop-turn.shelf) (g.S.Shelf.kept c.args.shelf.now) (g.S.Shelf.kept c.loop-turn.shelf) (g.S.Shelf.kept c.put_due.new.shelf)
          (g.S.Shelf.trace c.args.shelf.now) (g.S.Shelf.trace c.loop-turn.shelf) (g.S.Shelf.trace c.put_due.new.shelf) c.args.ledger.now c.loop-turn.ledger c.put_due.new.ledger
          (g.W.Write.contents c.args.writer.now.device) (g.W.Write.contents c.loop-turn.writer.device) (g.W.Write.contents c.put_due.new.writer.device) c.args.writer.now.failed c.loop-turn.writer.failed c.put_due.new.writer.failed c.loop-turn.due so_far
          (map vec_items c.as_slice-batch.result.now) (c.in-Ok-put_due.ensures.publishes so_far.signed) (g.S.Shelf.published c.put_due.new.shelf) (c.in-Ok-put_due.ensures.shows so_far.signed) (c.in-Ok-put_due.ensures.printed so_far.signed)
          (AreFull c.args.batching.size) (map vec_items c.as_slice-batch.result.now) c.put_due.new.due c.in-Ok-put_due.ensures.due.0 refl c.in-Ok-put_due.ensures.due.1 c.in-Ok-put_due.ensures.due.2 (omega (arith, c.in-Ok-put_due.ensures.sized, length-map c.as_slice-batch.result.now (vec_items {X = ℕ} {Z = Global}))) c.in-Ok-put_due.ensures.signed
          (full_push c.args.batching.size (so_far.batches ++ so_far.last) (map vec_items c.as_slice-batch.result.now) so_far.sized (omega (arith, c.in-Ok-take_most.ensures.0, c.len.ensures, c.in-Ok-take_most.entries.ok.0, c.if-len-size.false, length-map c.as_slice-batch.result.now (vec_items {X = ℕ} {Z = Global}), ap length c.as_slice-batch.ensures.value))) c.take_most.new.self (over (g.R.Read.remaining c.args.reader.now.device) (g.R.Read.remaining c.take_most.new.reader.device) c.args.reader.now.failed c.take_most.new.reader.failed)
          (lines_on c.loop-turn.lines c.take_most.new.self (g.R.Read.remaining c.args.reader.now.device) (g.R.Read.remaining c.loop-turn.reader.device) (g.R.Read.remaining c.take_most.new.reader.device) c.args.reader.now.failed c.loop-turn.reader.failed c.take_most.new.reader.failed (joined (so_far.batches ++ so_far.last)) c.loop-turn.invariant.told.lines (map vec_items c.as_slice-batch.result.now) told);
      small = inr c.in-Ok-put_due.ensures.small;
      place = c.put_due.ensures.place ∙ c.loop-turn.invariant.place;
    }

pub returns-in-Err-publish_due-clause-some : goal.returns-in-Err-publish_due-clause-some
returns-in-Err-publish_due-clause-some g c =
    let so_far = c.loop-turn.invariant.told.so_far in
    let told : TellsOf c.loop-turn.lines c.take_most.new.self (passage g.R.Read.remaining c.loop-turn.reader c.take_most.new.reader) (all_entries (map vec_items c.as_slice-batch.result.now)) =
    rw c.as_slice-batch.ensures.value c.in-Ok-take_most.ensures.1 in
    let so_now : IsTold (AreFull c.args.batching.size) (g.K.LogSigner.log_key c.args.key.now) c.args.batching.keeps_partials false c.put_due.new.due (g.S.Shelf.published c.put_due.new.shelf) (along (g.S.Shelf.kept c.args.shelf.now) (g.S.Shelf.kept c.put_due.new.shelf) (g.S.Shelf.trace c.args.shelf.now) (g.S.Shelf.trace c.put_due.new.shelf) c.args.ledger.now c.put_due.new.ledger) (over (g.R.Read.remaining c.args.reader.now.device) (g.R.Read.remaining c.take_most.new.reader.device) c.args.reader.now.failed c.take_most.new.reader.failed) (over (g.W.Write.contents c.args.writer.now.device) (g.W.Write.contents c.put_due.new.writer.device) c.args.writer.now.failed c.put_due.new.writer.failed) c.take_most.new.self =
    told_due (AreFull c.args.batching.size) (g.K.LogSigner.log_key c.args.key.now) c.args.batching.keeps_partials c.loop-turn.is_first (g.S.Shelf.published c.loop-turn.shelf) (g.S.Shelf.kept c.args.shelf.now) (g.S.Shelf.kept c.loop-turn.shelf) (g.S.Shelf.kept c.put_due.new.shelf)
    (g.S.Shelf.trace c.args.shelf.now) (g.S.Shelf.trace c.loop-turn.shelf) (g.S.Shelf.trace c.put_due.new.shelf) c.args.ledger.now c.loop-turn.ledger c.put_due.new.ledger
    (g.W.Write.contents c.args.writer.now.device) (g.W.Write.contents c.loop-turn.writer.device) (g.W.Write.contents c.put_due.new.writer.device) c.args.writer.now.failed c.loop-turn.writer.failed c.put_due.new.writer.failed c.loop-turn.due so_far
    (map vec_items c.as_slice-batch.result.now) (c.in-Ok-put_due.ensures.publishes so_far.signed) (g.S.Shelf.published c.put_due.new.shelf) (c.in-Ok-put_due.ensures.shows so_far.signed) (c.in-Ok-put_due.ensures.printed so_far.signed)
    (AreFull c.args.batching.size) (map vec_items c.as_slice-batch.result.now) c.put_due.new.due c.in-Ok-put_due.ensures.due.0 refl c.in-Ok-put_due.ensures.due.1 c.in-Ok-put_due.ensures.due.2 (omega (arith, c.in-Ok-put_due.ensures.sized, length-map c.as_slice-batch.result.now (vec_items {X = ℕ} {Z = Global}))) c.in-Ok-put_due.ensures.signed
    (full_push c.args.batching.size (so_far.batches ++ so_far.last) (map vec_items c.as_slice-batch.result.now) so_far.sized (omega (arith, c.in-Ok-take_most.ensures.0, c.len.ensures, c.in-Ok-take_most.entries.ok.0, c.if-len-size.false, length-map c.as_slice-batch.result.now (vec_items {X = ℕ} {Z = Global}), ap length c.as_slice-batch.ensures.value))) c.take_most.new.self (over (g.R.Read.remaining c.args.reader.now.device) (g.R.Read.remaining c.take_most.new.reader.device) c.args.reader.now.failed c.take_most.new.reader.failed)
    (lines_on c.loop-turn.lines c.take_most.new.self (g.R.Read.remaining c.args.reader.now.device) (g.R.Read.remaining c.loop-turn.reader.device) (g.R.Read.remaining c.take_most.new.reader.device) c.args.reader.now.failed c.loop-turn.reader.failed c.take_most.new.reader.failed (joined (so_far.batches ++ so_far.last)) c.loop-turn.invariant.told.lines (map vec_items c.as_slice-batch.result.now) told) in
    stopped (AreFull c.args.batching.size) (g.K.LogSigner.log_key c.args.key.now) c.args.batching.keeps_partials false (g.S.Shelf.published c.put_due.new.shelf) (g.S.Shelf.kept c.args.shelf.now) (g.S.Shelf.kept c.put_due.new.shelf) (g.S.Shelf.kept c.publish_due.new.shelf)
    (g.S.Shelf.trace c.args.shelf.now) (g.S.Shelf.trace c.put_due.new.shelf) (g.S.Shelf.trace c.publish_due.new.shelf) c.args.ledger.now c.put_due.new.ledger c.put_due.new.ledger
    (g.W.Write.contents c.args.writer.now.device) (g.W.Write.contents c.put_due.new.writer.device) (g.W.Write.contents c.publish_due.new.writer.device) c.args.writer.now.failed c.put_due.new.writer.failed c.publish_due.new.writer.failed c.put_due.new.due so_now.so_far
    [] (c.publish_due.ensures.publishes (g.K.LogSigner.log_key c.args.key.now) so_now.so_far.signed) c.publish_due.new.due c.publish_due.ensures.none (over (g.R.Read.remaining c.args.reader.now.device) (g.R.Read.remaining c.take_most.new.reader.device) c.args.reader.now.failed c.take_most.new.reader.failed)
    (inr (first_of c.take_most.new.self (over (g.R.Read.remaining c.args.reader.now.device) (g.R.Read.remaining c.take_most.new.reader.device) c.args.reader.now.failed c.take_most.new.reader.failed) (joined (so_now.so_far.batches ++ so_now.so_far.last)) so_now.lines))

pub loop-turn-preserved : goal.loop-turn-preserved
loop-turn-preserved g c =
    let so_far = c.loop-turn.invariant.told.so_far in
    let told : TellsOf c.loop-turn.lines c.take_most.new.self (passage g.R.Read.remaining c.loop-turn.reader c.take_most.new.reader) (all_entries (map vec_items c.as_slice-batch.result.now)) =
    rw c.as_slice-batch.ensures.value c.in-Ok-take_most.ensures.1 in
    let so_now : IsTold (AreFull c.args.batching.size) (g.K.LogSigner.log_key c.args.key.now) c.args.batching.keeps_partials false c.put_due.new.due (g.S.Shelf.published c.put_due.new.shelf) (along (g.S.Shelf.kept c.args.shelf.now) (g.S.Shelf.kept c.put_due.new.shelf) (g.S.Shelf.trace c.args.shelf.now) (g.S.Shelf.trace c.put_due.new.shelf) c.args.ledger.now c.put_due.new.ledger) (over (g.R.Read.remaining c.args.reader.now.device) (g.R.Read.remaining c.take_most.new.reader.device) c.args.reader.now.failed c.take_most.new.reader.failed) (over (g.W.Write.contents c.args.writer.now.device) (g.W.Write.contents c.put_due.new.writer.device) c.args.writer.now.failed c.put_due.new.writer.failed) c.take_most.new.self =
    told_due (AreFull c.args.batching.size) (g.K.LogSigner.log_key c.args.key.now) c.args.batching.keeps_partials c.loop-turn.is_first (g.S.Shelf.published c.loop-turn.shelf) (g.S.Shelf.kept c.args.shelf.now) (g.S.Shelf.kept c.loop-turn.shelf) (g.S.Shelf.kept c.put_due.new.shelf)
    (g.S.Shelf.trace c.args.shelf.now) (g.S.Shelf.trace c.loop-turn.shelf) (g.S.Shelf.trace c.put_due.new.shelf) c.args.ledger.now c.loop-turn.ledger c.put_due.new.ledger
    (g.W.Write.contents c.args.writer.now.device) (g.W.Write.contents c.loop-turn.writer.device) (g.W.Write.contents c.put_due.new.writer.device) c.args.writer.now.failed c.loop-turn.writer.failed c.put_due.new.writer.failed c.loop-turn.due so_far
    (map vec_items c.as_slice-batch.result.now) (c.in-Ok-put_due.ensures.publishes so_far.signed) (g.S.Shelf.published c.put_due.new.shelf) (c.in-Ok-put_due.ensures.shows so_far.signed) (c.in-Ok-put_due.ensures.printed so_far.signed)
    (AreFull c.args.batching.size) (map vec_items c.as_slice-batch.result.now) c.put_due.new.due c.in-Ok-put_due.ensures.due.0 refl c.in-Ok-put_due.ensures.due.1 c.in-Ok-put_due.ensures.due.2 (omega (arith, c.in-Ok-put_due.ensures.sized, length-map c.as_slice-batch.result.now (vec_items {X = ℕ} {Z = Global}))) c.in-Ok-put_due.ensures.signed
    (full_push c.args.batching.size (so_far.batches ++ so_far.last) (map vec_items c.as_slice-batch.result.now) so_far.sized (omega (arith, c.in-Ok-take_most.ensures.0, c.len.ensures, c.in-Ok-take_most.entries.ok.0, c.if-len-size.false, length-map c.as_slice-batch.result.now (vec_items {X = ℕ} {Z = Global}), ap length c.as_slice-batch.ensures.value))) c.take_most.new.self (over (g.R.Read.remaining c.args.reader.now.device) (g.R.Read.remaining c.take_most.new.reader.device) c.args.reader.now.failed c.take_most.new.reader.failed)
    (lines_on c.loop-turn.lines c.take_most.new.self (g.R.Read.remaining c.args.reader.now.device) (g.R.Read.remaining c.loop-turn.reader.device) (g.R.Read.remaining c.take_most.new.reader.device) c.args.reader.now.failed c.loop-turn.reader.failed c.take_most.new.reader.failed (joined (so_far.batches ++ so_far.last)) c.loop-turn.invariant.told.lines (map vec_items c.as_slice-batch.result.now) told) in
    record {
      told = none_left_told (AreFull c.args.batching.size) (g.K.LogSigner.log_key c.args.key.now) c.args.batching.keeps_partials (g.S.Shelf.published c.put_due.new.shelf) (g.S.Shelf.published c.publish_due.new.shelf) (g.S.Shelf.kept c.args.shelf.now) (g.S.Shelf.kept c.put_due.new.shelf) (g.S.Shelf.kept c.publish_due.new.shelf)
          (g.S.Shelf.trace c.args.shelf.now) (g.S.Shelf.trace c.put_due.new.shelf) (g.S.Shelf.trace c.publish_due.new.shelf) c.args.ledger.now c.put_due.new.ledger
          (g.W.Write.contents c.args.writer.now.device) (g.W.Write.contents c.put_due.new.writer.device) (g.W.Write.contents c.publish_due.new.writer.device) c.args.writer.now.failed c.put_due.new.writer.failed c.publish_due.new.writer.failed c.put_due.new.due so_now.so_far
          (c.publish_due.ensures.publishes (g.K.LogSigner.log_key c.args.key.now) so_now.so_far.signed) (c.in-Ok-publish_due.ensures.shows (g.K.LogSigner.log_key c.args.key.now) so_now.so_far.signed) (c.in-Ok-publish_due.ensures.printed (g.K.LogSigner.log_key c.args.key.now) so_now.so_far.signed)
          (λ none. (ap g.S.Shelf.kept (c.publish_due.ensures.same none), ap g.S.Shelf.published (c.publish_due.ensures.same none))) c.publish_due.new.due c.publish_due.ensures.none c.take_most.new.self (over (g.R.Read.remaining c.args.reader.now.device) (g.R.Read.remaining c.take_most.new.reader.device) c.args.reader.now.failed c.take_most.new.reader.failed) so_now.lines;
      small = inl c.publish_due.ensures.none;
      place = c.publish_due.ensures.place ∙ c.put_due.ensures.place ∙ c.loop-turn.invariant.place;
    }

pub publish_due-requires : goal.publish_due-requires
publish_due-requires g c = grind (arith, common_steps)

pub returns-clause-some : goal.returns-clause-some
returns-clause-some g c = grind (arith, common_steps)

pub returns-in-Err-publish_due-clause-all : goal.returns-in-Err-publish_due-clause-all
returns-in-Err-publish_due-clause-all g c = grind (arith, common_steps)

pub returns-in-Err-publish_due-clause-place : goal.returns-in-Err-publish_due-clause-place
returns-in-Err-publish_due-clause-place g c = grind (arith, common_steps)

pub returns-in-Err-publish_due-clause-small : goal.returns-in-Err-publish_due-clause-small
returns-in-Err-publish_due-clause-small g c = grind (arith, common_steps)

pub returns-in-Err-put_due-clause-all : goal.returns-in-Err-put_due-clause-all
returns-in-Err-put_due-clause-all g c = grind (arith, common_steps)

pub returns-in-Err-put_due-clause-place : goal.returns-in-Err-put_due-clause-place
returns-in-Err-put_due-clause-place g c = grind (arith, common_steps)

pub returns-in-Err-put_due-clause-small : goal.returns-in-Err-put_due-clause-small
returns-in-Err-put_due-clause-small g c = grind (arith, common_steps)

pub returns-in-Err-take_most-clause-all : goal.returns-in-Err-take_most-clause-all
returns-in-Err-take_most-clause-all g c = grind (arith, common_steps)

pub returns-in-Err-take_most-clause-place : goal.returns-in-Err-take_most-clause-place
returns-in-Err-take_most-clause-place g c = grind (arith, common_steps)

pub returns-in-Err-take_most-clause-small : goal.returns-in-Err-take_most-clause-small
returns-in-Err-take_most-clause-small g c = grind (arith, common_steps)

pub returns-then-len-size-clause-place : goal.returns-then-len-size-clause-place
returns-then-len-size-clause-place g c = grind (arith, common_steps)

pub returns-then-len-size-clause-small : goal.returns-then-len-size-clause-small
returns-then-len-size-clause-small g c = grind (arith, common_steps)

pub returns-then-len-size-clause-some : goal.returns-then-len-size-clause-some
returns-then-len-size-clause-some g c = grind (arith, common_steps)

pub returns-then-not-is_first-clause-place : goal.returns-then-not-is_first-clause-place
returns-then-not-is_first-clause-place g c = grind (arith, common_steps)

pub returns-then-not-is_first-clause-small : goal.returns-then-not-is_first-clause-small
returns-then-not-is_first-clause-small g c = grind (arith, common_steps)

pub returns-then-not-is_first-clause-some : goal.returns-then-not-is_first-clause-some
returns-then-not-is_first-clause-some g c = grind (arith, common_steps)

pub same-lines : goal.same-lines
same-lines g c = grind (arith, common_steps)

pub same-lines-in-loop-turn : goal.same-lines-in-loop-turn
same-lines-in-loop-turn g c = grind (arith, common_steps)
