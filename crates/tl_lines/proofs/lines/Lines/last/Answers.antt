use Rattle.std.proofs.Common.{◌≡◌, ◌<◌, ◌≤◌, ◌∙◌, List, ℕ, [], true, false, ap, sym, subst, length, arith}
use Rattle.std.proofs.lemmas.Bool.Decides.{nat_tests}
use Rattle.tl_lines.specs.Lines.{HasNoNewline, Uncut}
use Rattle.tl_lines.specs.Reading.{told}
use Rattle.tl_lines.proofs.CuttingLemmas.{closed_line, closed_none, closed_tail, nothing_in, nothing_waits, something_waits}
use Rattle.tl_lines.proofs.lines.Lines.last.Goals as goal

pub returns-then-self-clause-cut : goal.returns-then-self-clause-cut
returns-then-self-clause-cut g c = λ cut.
    let s = c.self.inside in
    something_waits s.start s.end s.block.items c.args.self.now.waiting (ap (λ (x : Uncut). x.waiting) c.self.view_is) c.if-self.true c.self.invariant.within cut

pub returns-then-self-2-clause-uncut : goal.returns-then-self-2-clause-uncut
returns-then-self-2-clause-uncut g c = λ some.
    let s = c.self.inside in
    nothing_waits s.start s.end s.block.items c.args.self.now.waiting (ap (λ (x : Uncut). x.waiting) c.self.view_is) c.if-self.false some

pub returns-then-self-2-clause-cut : goal.returns-then-self-2-clause-cut
returns-then-self-2-clause-cut g c = λ cut.
    let u = c.args.self.now in
    let tail : u.in_tail ≡ true = sym (ap (λ (x : Uncut). x.in_tail) c.self.view_is) ∙ c.if-self-2.true in
    let begun : u.begun ≡ [] = sym (ap (λ (x : Uncut). x.begun) c.self.view_is) ∙ c.self.invariant.left_out c.if-self-2.true in
    closed_tail u c.end_tail.new.self cut begun tail c.end_tail.ensures

pub returns-then-is_empty-clause-uncut : goal.returns-then-is_empty-clause-uncut
returns-then-is_empty-clause-uncut g c = λ some.
    let s = c.self.inside in
    nothing_waits s.start s.end s.block.items c.args.self.now.waiting (ap (λ (x : Uncut). x.waiting) c.self.view_is) c.if-self.false some

pub returns-then-is_empty-clause-cut : goal.returns-then-is_empty-clause-cut
returns-then-is_empty-clause-cut g c = λ cut.
    let u = c.args.self.now in
    let off : u.in_tail ≡ false = sym (ap (λ (x : Uncut). x.in_tail) c.self.view_is) ∙ c.if-self-2.false in
    let none : length c.self.inside.line.items ≡ 0 = grind (arith, nat_tests, c.self.inside.line.ok.0, c.is_empty.ensures, c.if-is_empty.true) in
    closed_none u cut off (sym (ap (λ (x : Uncut). x.begun) c.self.view_is) ∙ nothing_in c.self.inside.line.items none)

pub returns-clause-uncut : goal.returns-clause-uncut
returns-clause-uncut g c = λ some.
    let s = c.self.inside in
    nothing_waits s.start s.end s.block.items c.args.self.now.waiting (ap (λ (x : Uncut). x.waiting) c.self.view_is) c.if-self.false some

pub returns-clause-cut : goal.returns-clause-cut
returns-clause-cut g c = λ cut.
    let u = c.args.self.now in
    let line : c.self.inside.line.items ≡ u.begun = ap (λ (x : Uncut). x.begun) c.self.view_is in
    let off : u.in_tail ≡ false = sym (ap (λ (x : Uncut). x.in_tail) c.self.view_is) ∙ c.if-self-2.false in
    let some : 0 < length c.self.inside.line.items = grind (arith, nat_tests, c.self.inside.line.ok.0, c.is_empty.ensures, c.if-is_empty.false) in
    closed_line u c.finish.new.self (told c.finish.result) cut off (subst HasNoNewline line c.self.invariant.plain) (subst (λ (l : List ℕ). 0 < length l) line some)
    (subst (λ (l : List ℕ). length l ≤ 65535) line c.self.invariant.short) c.finish.ensures.after c.finish.ensures.line
