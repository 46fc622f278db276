use Rattle.std.proofs.Common.{◌≡◌, ◌∙◌, ◌++◌, ◌∷◌, [], ap, refl, sym, subst, length, map, vec_items, arith}
use Rattle.std.proofs.lemmas.List.{length-map, length_push, map_push}
use Rattle.std.proofs.lemmas.Result.{err_from_is_err_and}
use Rattle.tl_device.specs.Device.{passage}
use Rattle.tl_lines.specs.Lines.{TooLong}
use Rattle.tl_lines.specs.Reading.{TellsOf, all_entries}
use Rattle.tl_lines.proofs.ReadingLemmas.{all_read, entry_more, entry_short, line_failed, none_of, of_then}
use Rattle.tl_lines.proofs.lines.Lines.take_most.Goals as goal

pub returns-in_err-push-in-Ok-Some-Entry : goal.returns-in_err-push-in-Ok-Some-Entry
returns-in_err-push-in-Ok-Some-Entry g c =
    let at = c.loop-line in
    let before = c.args.reader.now in
    let after = c.next.new.reader in
    let lines = map vec_items at.lines.items in
    let line = vec_items c.in-Ok-Some-Entry.line in
    let told = rw (c.in-Ok-Some-Entry.field-0-is, c.in-Ok-Some-Entry.field-0-0-is) at c.in-Ok-Some-Entry.ensures in
    let p = err_from_is_err_and c.from_residual.result c.from_residual.ensures.1 in
    rw (p.1, p.2) (
      lines ++ line ∷ [],
      omega (arith, length_push lines line, length-map at.lines.items vec_items, at.invariant.count, c.loop-line-test.true),
      omega (arith, c.loop-line-test.true),
      entry_short c.args.self.now at.self c.next.new.self (g.R.Read.remaining before.device) (g.R.Read.remaining at.reader.device) (g.R.Read.remaining after.device)
          before.failed at.reader.failed after.failed lines at.invariant.lines line told,
    )

pub returns-in-Ok-Some-TooLong : goal.returns-in-Ok-Some-TooLong
returns-in-Ok-Some-TooLong g c =
    let at = c.loop-line in
    let before = c.args.reader.now in
    let after = c.next.new.reader in
    let lines = map vec_items at.lines.items in
    let told = rw (c.in-Ok-Some-TooLong.field-0-is, c.in-Ok-Some-TooLong.field-0-0-is) at c.in-Ok-Some-TooLong.ensures in (
      lines,
      omega (arith, length-map at.lines.items vec_items, at.invariant.count, c.loop-line-test.true),
      of_then c.args.self.now at.self c.next.new.self before.failed at.reader.failed after.failed
          (g.R.Read.remaining before.device) (g.R.Read.remaining at.reader.device) (g.R.Read.remaining after.device) (all_entries lines) (TooLong c.in-Ok-Some-TooLong.number ∷ []) at.invariant.lines told,
    )

pub returns-in-Ok-None : goal.returns-in-Ok-None
returns-in-Ok-None g c =
    let at = c.loop-line in
    let before = c.args.reader.now in
    let after = c.next.new.reader in
    let lines = map vec_items at.lines.items in
    let all = all_read c.args.self.now at.self c.next.new.self (g.R.Read.remaining before.device) (g.R.Read.remaining at.reader.device) (g.R.Read.remaining after.device)
    before.failed at.reader.failed after.failed lines at.invariant.lines (rw c.in-Ok-None.field-0-is at c.in-Ok-None.ensures) in
    (omega (arith, at.invariant.count, c.loop-line-test.true), all.lines, λ few. all)

pub returns-in-Err : goal.returns-in-Err
returns-in-Err g c =
    let at = c.loop-line in
    let before = c.args.reader.now in
    let after = c.next.new.reader in
    let lines = map vec_items at.lines.items in
    line_failed c.args.self.now at.self c.next.new.self (g.R.Read.remaining before.device) (g.R.Read.remaining at.reader.device) (g.R.Read.remaining after.device)
    before.failed at.reader.failed after.failed lines at.invariant.lines g.row.A.Denot c.args.count c.in-Err.fault
    (omega (arith, length-map at.lines.items vec_items, at.invariant.count, c.loop-line-test.true))
    (λ none. at.invariant.first (omega (arith, none, length-map at.lines.items vec_items))) c.in-Err.ensures

pub loop-line-preserved : goal.loop-line-preserved
loop-line-preserved g c =
    let at = c.loop-line in
    let before = c.args.reader.now in
    let after = c.next.new.reader in
    let lines = map vec_items at.lines.items in
    let line = c.in-Ok-Some-Entry.line in
    let told = rw (c.in-Ok-Some-Entry.field-0-is, c.in-Ok-Some-Entry.field-0-0-is) at c.in-Ok-Some-Entry.ensures in
    let pushed = c.in_ok-push-in-Ok-Some-Entry.ensures.items in
    let more = entry_more c.args.self.now at.self c.next.new.self (g.R.Read.remaining before.device) (g.R.Read.remaining at.reader.device) (g.R.Read.remaining after.device)
    before.failed at.reader.failed after.failed lines at.invariant.lines (vec_items line) told in
    record {
      count = omega (arith, ap length pushed, length_push at.lines.items line, at.invariant.count);
      first = λ none. absurd (omega (arith, none, ap length pushed, length_push at.lines.items line));
      lines = subst (λ ls. TellsOf c.args.self.now c.next.new.self (passage g.R.Read.remaining before after) (all_entries ls))
          (sym (ap (map vec_items) pushed ∙ map_push vec_items at.lines.items line)) more;
    }

pub loop-line-init : goal.loop-line-init
loop-line-init g c =
    let reader = c.args.reader.now in
    record {
      count = ap length c.new-lines.ensures.items;
      first = λ _. refl;
      lines = subst (λ ls. TellsOf c.args.self.now c.args.self.now (passage g.R.Read.remaining reader reader) (all_entries ls))
          (sym (ap (map vec_items) c.new-lines.ensures.items)) (none_of c.args.self.now (g.R.Read.remaining reader.device) reader.failed);
    }

pub returns : goal.returns
returns g c =
    let at = c.loop-line in
    let all : length at.lines.items ≡ c.args.count = omega (arith, at.invariant.count, c.loop-line-test.false, at.auto._line-end) in
    (omega (arith, all), at.invariant.lines, λ few. absurd (omega (arith, all, few)))
