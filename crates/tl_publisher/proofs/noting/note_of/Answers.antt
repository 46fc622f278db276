use Rattle.std.proofs.Common.{map, string_bytes, sym, subst, ◌∙◌, arith}
use Rattle.std.proofs.lemmas.Grind.{common_steps}
use Rattle.std.specs.Global.{Global}
use Rattle.tl_note.specs.Note.{IsNoteText}
use Rattle.tl_publisher.specs.Signed.{IsSignedNote, no_quorum}
use Rattle.tl_publisher.proofs.Notes.{signed_plain, known_fault}
use Rattle.tl_publisher.proofs.noting.note_of.Goals as goal

pub returns-in-Ok : goal.returns-in-Ok
returns-in-Ok g c =
    let keys = map (λ b. (goal.Signer-dyn g (b.vtable, b.value)).signing_key b.value) c.args.signers.now in
    subst (λ t. IsSignedNote keys no_quorum t (string_bytes c.in-Ok.note)) (c.as_str.ensures.value ∙ c.in_ok-text.ensures.text) (signed_plain keys _ _ c.in-Ok.ensures)

pub refusal-requires : goal.refusal-requires
refusal-requires g c =
    let keys = map (λ b. (goal.Signer-dyn g (b.vtable, b.value)).signing_key b.value) c.args.signers.now in
    known_fault Global keys c.as_str.result.now c.in-Err.fault (subst IsNoteText (sym c.as_str.ensures.value) c.in_ok-text.ensures.note) c.requires.signers c.in-Err.ensures

pub returns : goal.returns
returns g c = grind (arith, common_steps)
