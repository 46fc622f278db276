use Rattle.std.proofs.Common.{map, string_bytes, ap, subst, sym, ◌∙◌, All, true≢false, arith}
use Rattle.tl_text.specs.Text.{IsOneLine}
use Rattle.tl_checkpoint.specs.Checkpoint.{head_of}
use Rattle.tl_checkpoint.proofs.WriteLemmas.{is_head, writes_refused}
use Rattle.tl_checkpoint.proofs.writing.write.Goals as goal

pub returns-then-not-are_lines : goal.returns-then-not-are_lines
returns-then-not-are_lines g c =
    λ each. true≢false (sym (c.are_lines.ensures.1 (subst (All IsOneLine) (ap (map string_bytes) (sym c.deref.ensures.value)) each)) ∙ c.if-not-are_lines.true)

pub returns-then-not-is_one_line : goal.returns-then-not-is_one_line
returns-then-not-is_one_line g c = (
  subst (All IsOneLine) (ap (map string_bytes) c.deref.ensures.value) (c.are_lines.ensures.0 c.if-not-are_lines.false),
  λ one. true≢false (sym (c.is_one_line.ensures.1 (subst IsOneLine (sym c.deref-2.ensures) one)) ∙ c.if-not-is_one_line.true),
)

pub returns-then-checkpoint : goal.returns-then-checkpoint
returns-then-checkpoint g c = (
  subst (All IsOneLine) (ap (map string_bytes) c.deref.ensures.value) (c.are_lines.ensures.0 c.if-not-are_lines.false),
  subst IsOneLine c.deref-2.ensures (c.is_one_line.ensures.0 c.if-not-is_one_line.false),
  λ small. omega (arith, small, c.if-checkpoint.true),
)

pub returns-in_err-lines_of : goal.returns-in_err-lines_of
returns-in_err-lines_of g c =
    writes_refused (head_of c.args.checkpoint.now) c.from_residual.result c.from_residual.ensures.1
    (is_head (head_of c.args.checkpoint.now) (map string_bytes c.deref.result.now) c.deref-2.result.now (ap (map string_bytes) c.deref.ensures.value) c.deref-2.ensures
    (c.are_lines.ensures.0 c.if-not-are_lines.false) (c.is_one_line.ensures.0 c.if-not-is_one_line.false) c.if-checkpoint.false c.lines_of.ensures.root)

pub returns : goal.returns
returns g c = (
  is_head (head_of c.args.checkpoint.now) (map string_bytes c.deref.result.now) c.deref-2.result.now (ap (map string_bytes) c.deref.ensures.value) c.deref-2.ensures
      (c.are_lines.ensures.0 c.if-not-are_lines.false) (c.is_one_line.ensures.0 c.if-not-is_one_line.false) c.if-checkpoint.false c.lines_of.ensures.root,
  c.in_ok-lines_of.ensures.text,
)
