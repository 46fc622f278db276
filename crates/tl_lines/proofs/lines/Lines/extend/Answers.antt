use Rattle.std.proofs.Common.{◌≡◌, ◌+◌, ◌-◌, ◌≤◌, ◌++◌, ◌∙◌, false, ap, sym, subst, length, take, drop, arith}
use Rattle.std.proofs.lemmas.Grind.{common_steps}
use Rattle.std.proofs.lemmas.List.{length-append, length-take-le}
use Rattle.std.proofs.lemmas.List.Elements.{All-append}
use Rattle.tl_lines.specs.Lines.{HasNoNewline, Uncut}
use Rattle.tl_lines.proofs.PieceLemmas.{IsOther}
use Rattle.tl_lines.proofs.CuttingLemmas.{made, part_of, waiting_after, waiting_length}
use Rattle.tl_lines.proofs.lines.Lines.extend.Goals as goal

-- what is left of the block is seen
shown : (g : _) (c : goal.After-self-1 g) → take (c.self.inside.end - c.self.inside.start) (drop c.self.inside.start c.self.inside.block.items) ≡ c.args.self.now.waiting
shown g c = ap (λ (u : Uncut). u.waiting) c.self.view_is

within : (g : _) (c : goal.After-self-1 g) → c.self.inside.start + c.args.count ≤ c.self.inside.end
within g c =
    let s = c.self.inside in
    let here = waiting_length s.start s.end s.block.items c.self.invariant.from c.self.invariant.within in
    omega (arith, c.requires.within, ap length (shown g c), here, c.self.invariant.from)

-- the line has the bytes more
longer : (g : _) (c : goal.After-self-1 g) → c.extend_from_slice.new.self.items ≡ c.self.inside.line.items ++ take c.args.count c.args.self.now.waiting
longer g c =
    let s = c.self.inside in
    let count = c.args.count in
    c.in_ok-extend_from_slice.ensures.items
    ∙ ap (λ part. s.line.items ++ part)
    (ap (λ block. take ((s.start + count) - s.start) (drop s.start block)) c.deref.ensures.value ∙ part_of s.start s.end count s.block.items (within g c) ∙ ap (take count) (shown g c))

short : (g : _) (c : goal.After-self-1 g) → length c.self.inside.line.items + c.args.count ≤ 65535
short g c = omega (arith, c.self.inside.line.ok.0, c.len.ensures, c.if-len-count-gt-LONGEST_LINE.false)

pub invariant_of-self-2 : goal.invariant_of-self-2
invariant_of-self-2 g c =
    let s = c.self.inside in
    let part = take c.args.count c.args.self.now.waiting in
    let off : s.skips ≡ false = ap (λ (u : Uncut). u.in_tail) c.self.view_is ∙ c.requires.tail in
    record {
      from = within g c;
      within = c.self.invariant.within;
      room = c.self.invariant.room;
      plain = subst HasNoNewline (sym (longer g c)) (All-append IsOther s.line.items part c.self.invariant.plain c.requires.plain);
      short = omega (arith, short g c, ap length (longer g c), length-append s.line.items part, length-take-le c.args.count c.args.self.now.waiting c.requires.within);
      left_out = λ on. absurd cc;
    }

pub returns : goal.returns
returns g c =
    let s = c.self.inside in
    let count = c.args.count in
    let u = c.args.self.now in (
      omega (arith, short g c, ap (λ (x : Uncut). length x.begun) c.self.view_is),
      ap (λ line. made s.number s.entries line (take (s.end - (s.start + count)) (drop (s.start + count) s.block.items)) s.skips) (longer g c)
          ∙ ap (λ w. made s.number s.entries (s.line.items ++ take count u.waiting) w s.skips)
          (waiting_after s.start s.end count s.block.items (within g c) ∙ ap (drop count) (shown g c))
          ∙ ap (λ (x : Uncut). made x.number x.entries (x.begun ++ take count u.waiting) (drop count u.waiting) x.in_tail) c.self.view_is,
    )

pub overflow_add-len : goal.overflow_add-len
overflow_add-len g c = grind (arith, common_steps)

pub slice_bounds-part-end : goal.slice_bounds-part-end
slice_bounds-part-end g c = grind (arith, common_steps)
