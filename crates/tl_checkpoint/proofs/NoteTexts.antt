-- The text of a checkpoint is the text of a note.
use Rattle.std.proofs.Common.{◌≡◌, List, [], ◌∷◌, ◌++◌, All, inl, inr, refl, sym, ap, subst, ◌∙◌, append_assoc, append-nil, arith}
use Rattle.std.specs.Prelude.{IsUtf8}
use Rattle.std.specs.List.{flat_map}
use Rattle.std.proofs.lemmas.List.Elements.{All-nil, All-cons, All-append, All-head, All-tail}
use Rattle.tl_hash.specs.Bytes.{Bytes}
use Rattle.tl_text.specs.Text.{line, number_text, base64_text, HasNoControl, IsOneLine}
use Rattle.tl_text.proofs.PlainText.{number_plain, base64_plain}
use Rattle.tl_note.specs.Note.{IsNoteByte, IsNoteText}
use Rattle.tl_checkpoint.specs.Checkpoint.{Head, IsHead, checkpoint_text}

line_plain : (words : Bytes) → HasNoControl words → All IsNoteByte (line words)
line_plain words visible =
    All-append IsNoteByte words (10 ∷ []) (λ k d lt. inl (visible k d lt)) (All-cons IsNoteByte 10 [] (inr refl) (All-nil IsNoteByte))

lines_plain : (texts : List Bytes) → All IsOneLine texts → All IsNoteByte (flat_map line texts)
lines_plain [] each = All-nil IsNoteByte
lines_plain (text ∷ texts) each =
    All-append IsNoteByte (line text) (flat_map line texts) (line_plain text (All-head IsOneLine text texts each).plain) (lines_plain texts (All-tail IsOneLine text texts each))

-- lines end with a newline
lines_end : (words : Bytes) (texts : List Bytes) → (front : Bytes) × (line words ++ flat_map line texts ≡ front ++ 10 ∷ [])
lines_end words [] = (words, append-nil (line words))
lines_end words (text ∷ texts) =
    let more = lines_end text texts in
    (line words ++ more.0, ap (λ (rest : Bytes). line words ++ rest) more.1 ∙ sym (append_assoc (line words) more.0 (10 ∷ [])))

pub can_be_signed : (text : Bytes) (h : Head) → IsUtf8 text → IsHead h → text ≡ checkpoint_text h → IsNoteText text
can_be_signed text h utf8 is e =
    let first : Bytes = line h.origin ++ line (number_text h.size) in
    let last = lines_end (base64_text h.root) h.extensions in
    let whole : text ≡ first ++ (line (base64_text h.root) ++ flat_map line h.extensions) = e ∙ append_assoc first (line (base64_text h.root)) (flat_map line h.extensions) in
    record {
      utf8 = utf8;
      plain = subst (All IsNoteByte) (sym whole)
          (All-append IsNoteByte first (line (base64_text h.root) ++ flat_map line h.extensions)
          (All-append IsNoteByte (line h.origin) (line (number_text h.size)) (line_plain h.origin is.origin.plain) (line_plain (number_text h.size) (number_plain h.size (omega (arith, is.size)))))
          (All-append IsNoteByte (line (base64_text h.root)) (flat_map line h.extensions) (line_plain (base64_text h.root) (base64_plain h.root is.root.bytes)) (lines_plain h.extensions is.extensions)));
      front = first ++ last.0;
      ended = whole ∙ ap (λ (rest : Bytes). first ++ rest) last.1 ∙ sym (append_assoc first last.0 (10 ∷ []));
    }
