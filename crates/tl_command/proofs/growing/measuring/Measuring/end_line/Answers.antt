use Rattle.std.proofs.Common.{◌≡◌, ◌∙◌, ◌+◌, ◌*◌, ◌++◌, ◌∷◌, [], List, ℕ, ap, refl, arith, length}
use Rattle.std.proofs.lemmas.List.{length-append}
use Rattle.std.proofs.lemmas.List.Elements.{All-nil, All-push}
use Rattle.tl_command.specs.Lines.{HasNoNewline}
use Rattle.tl_command.proofs.GrowingLemmas.{IsOther, line_ended}
use Rattle.tl_command.proofs.MeasuringLemmas.{all_each, more_each, more_left, more_number, none_left}
use Rattle.tl_command.proofs.growing.measuring.Measuring.end_line.Goals as goal

pub returns-then-self-lt-BUNDLE-clause-measures : goal.returns-then-self-lt-BUNDLE-clause-measures
returns-then-self-lt-BUNDLE-clause-measures g c = λ input was. record {
  lines = was.lines ++ was.last ∷ [];
  last = [];
  whole = ap (λ (t : List ℕ). t ++ 10 ∷ []) was.whole ∙ line_ended was.lines was.last;
  plain = All-push HasNoNewline was.lines was.last was.plain was.last_plain;
  last_plain = All-nil IsOther;
  number = more_number c.args.self.now.lengths.items was.lines was.last c.args.self.now.count c.args.self.now.bytes was.number was.left was.each;
  few = c.if-self-lt-BUNDLE.true;
  each = more_each c.args.self.now.lengths.items was.lines was.last c.args.self.now.count c.args.self.now.bytes was.number was.left was.each;
  left = more_left c.args.self.now.lengths.items was.lines was.last c.args.self.now.count c.args.self.now.bytes was.number was.left was.each (c.args.self.now.bytes + (c.args.self.now.begun + 1)) (omega (arith, was.begun));
  begun = refl;
}

pub returns-clause-measures : goal.returns-clause-measures
returns-clause-measures g c = λ input was.
    let size : ℕ = c.args.self.now.bytes + (c.args.self.now.begun + 1) in
    let full : c.args.self.now.count + 1 ≡ 256 = omega (arith, was.few, c.if-self-lt-BUNDLE.false) in
    let longer : length c.push.new.self.items ≡ length c.args.self.now.lengths.items + 1 = omega (arith, ap length c.in_ok-push.ensures.items, length-append c.args.self.now.lengths.items ((size + 256) ∷ [])) in
    let number = more_number c.args.self.now.lengths.items was.lines was.last c.args.self.now.count c.args.self.now.bytes was.number was.left was.each in
    record {
      lines = was.lines ++ was.last ∷ [];
      last = [];
      whole = ap (λ (t : List ℕ). t ++ 10 ∷ []) was.whole ∙ line_ended was.lines was.last;
      plain = All-push HasNoNewline was.lines was.last was.plain was.last_plain;
      last_plain = All-nil IsOther;
      number = omega (arith, number, full, longer);
      few = omega arith;
      each = all_each c.args.self.now.lengths.items (was.lines ++ was.last ∷ []) (c.args.self.now.count + 1) size number (more_left c.args.self.now.lengths.items was.lines was.last c.args.self.now.count c.args.self.now.bytes was.number was.left was.each size (omega (arith, was.begun))) (more_each c.args.self.now.lengths.items was.lines was.last c.args.self.now.count c.args.self.now.bytes was.number was.left was.each)
          c.push.new.self.items (size + 256) (omega (arith, full)) (omega (arith, full)) c.in_ok-push.ensures.items;
      left = none_left (was.lines ++ was.last ∷ []) (length c.push.new.self.items * 256) (omega (arith, number, full, longer));
      begun = refl;
    }
