use Rattle.std.proofs.Common.{◌≡◌, ◌-◌, ◌++◌, ℕ, length, take, drop, sym, ap, ◌∙◌, arith, vec_len}
use Rattle.tl_note.specs.Line.{field_signature}
use Rattle.tl_note.specs.Note.{Signature}
use Rattle.tl_note.proofs.FieldLemmas.{decoded, without_front}
use Rattle.tl_note.proofs.line.SigView.decode.Goals as goal

pub returns : goal.returns
returns g c =
    let bytes = c.in-Ok.bytes.items in
    let len : vec_len c.in-Ok.bytes ≡ length bytes = omega (arith, c.in-Ok.bytes.ok.0) in
    let kept : c.truncate.new.self.items ≡ drop 4 bytes = c.truncate.ensures.items ∙ ap (take (c.len-rest.result - 4)) c.rotate_left.ensures.items ∙ ap (λ (n : ℕ). take (n - 4) (drop 4 bytes ++ take 4 bytes)) (c.len-rest.ensures ∙ len) ∙ without_front bytes in
    let shown : c.args.self.now.bytes ≡ field_signature c.self.inside.field.now = ap (λ (s : Signature). s.bytes) (sym c.self.view_is) in
    let field : c.as_bytes.result.now ≡ c.self.inside.field.now = c.as_bytes.ensures.value in
    kept ∙ ap (drop 4) (sym (decoded c.as_bytes.result.now bytes c.in-Ok.ensures.ok)) ∙ ap field_signature field ∙ sym shown
