use Rattle.std.proofs.Common.{Bor, List, ℕ, arith}
use Rattle.std.proofs.lemmas.List.{length-map}
use Rattle.tl_checkpoint.specs.Checkpoint.{head_of}
use Rattle.tl_client.specs.Trusted.{OpensHead}
use Rattle.tl_client.proofs.Failing.{handed_on}
use Rattle.tl_client.proofs.Heads.{note_fault, text_fault, cosigned_is}
use Rattle.tl_client.proofs.head.open_cosigned.Goals as goal

pub returns-in_err-opened : goal.returns-in_err-opened
returns-in_err-opened g c =
    handed_on (OpensHead c.args.note.now _) c.from_residual.result _ c.from_residual.ensures.1
    (note_fault _ c.args.note.now _ c.in_err-opened.field-0.0 c.in_err-opened.ensures)

pub returns-in_err-checkpoint : goal.returns-in_err-checkpoint
returns-in_err-checkpoint g c =
    handed_on (OpensHead c.args.note.now _) c.from_residual-in_err-checkpoint.result _ c.from_residual-in_err-checkpoint.ensures.1
    (text_fault _ c.args.note.now _ c.in_ok-opened.opened.note.text.now c.in_ok-opened.opened.note.signatures.items c.in_err-checkpoint.field-0.0
    c.in_ok-opened.ensures.note c.in_ok-opened.ensures.opens c.in_err-checkpoint.ensures)

pub returns-in_err-names : goal.returns-in_err-names
returns-in_err-names g c =
    handed_on (OpensHead c.args.note.now _) c.from_residual-in_err-names.result _ c.from_residual-in_err-names.ensures.1
    (c.in_ok-opened.opened.note.text.now, c.in_ok-opened.opened.note.signatures.items, c.in_ok-opened.ensures.note)

pub returns-then-len-need : goal.returns-then-len-need
returns-then-len-need g c = (
  head_of c.in_ok-checkpoint.checkpoint,
  cosigned_is c.args.note.now _ c.in_ok-opened.opened.note.text.now c.in_ok-opened.opened.note.signatures.items _ _ c.len-then-len-need.result
      c.in_ok-opened.ensures.note c.in_ok-opened.ensures.opens c.in_ok-checkpoint.ensures.0 c.in_ok-checkpoint.ensures.1 (rw (c.as_slice-lines.ensures.value) at c.in_ok-names.ensures)
      (omega (arith, length-map c.in_ok-names.names.items (λ (n : Bor (List ℕ)). n.now), c.in_ok-names.names.ok, c.len-then-len-need.ensures)),
  omega (arith, c.if-len-need.true, c.len.ensures, c.len-then-len-need.ensures),
)

pub returns : goal.returns
returns g c = (
  c.len.result,
  cosigned_is c.args.note.now _ c.in_ok-opened.opened.note.text.now c.in_ok-opened.opened.note.signatures.items _ _ c.len.result
      c.in_ok-opened.ensures.note c.in_ok-opened.ensures.opens c.in_ok-checkpoint.ensures.0 c.in_ok-checkpoint.ensures.1 (rw (c.as_slice-lines.ensures.value) at c.in_ok-names.ensures)
      (omega (arith, length-map c.in_ok-names.names.items (λ (n : Bor (List ℕ)). n.now), c.in_ok-names.names.ok, c.len.ensures)),
  omega (arith, c.if-len-need.false),
)
