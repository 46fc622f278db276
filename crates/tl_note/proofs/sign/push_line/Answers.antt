use Rattle.std.proofs.Common.{◌≡◌, ◌<◌, ◌++◌, List, ℕ, sym, ap, ◌∙◌, subst, string_bytes, length}
use Rattle.tl_note.specs.Key.{IsKeyName}
use Rattle.tl_note.specs.Note.{IsSignature, signature_line}
use Rattle.tl_note.proofs.SignLemmas.{line_of}
use Rattle.tl_note.proofs.sign.push_line.Goals as goal

pub returns : goal.returns
returns g c =
    let signer = c.args.signer.now in
    let key = (goal.Signer-dyn g (signer.vtable, signer.value)).signing_key signer.value in
    let bytes = c.in_ok-signature.signature.items in
    let shown = c.as_slice.result.now in
    let name = c.name_of.result.now in
    let same : shown ≡ bytes = c.as_slice.ensures.value in
    let some : 0 < length shown = subst (λ (b : List ℕ). 0 < length b) (sym same) c.in_ok-signature.ensures.0 in
    let lawful : IsSignature (record { name = name; id = c.key_id_of.result; bytes = shown }) = c.write_signature_line.ensures.lawful (subst IsKeyName (sym c.name_of.ensures) c.requires) some in
    let added : string_bytes c.push_str.new.self ≡ string_bytes c.args.note.now ++ signature_line (record { name = name; id = c.key_id_of.result; bytes = shown }) =
    c.in_ok-push_str.ensures.bytes ∙ ap (λ (t : List ℕ). string_bytes c.args.note.now ++ t) (c.as_str.ensures.value ∙ c.in_ok-line.ensures.text) in
    line_of key c.args.text.now name shown (string_bytes c.args.note.now) (string_bytes c.push_str.new.self) c.key_id_of.result lawful c.name_of.ensures c.key_id_of.ensures (rw same c.in_ok-signature.ensures.1) added
