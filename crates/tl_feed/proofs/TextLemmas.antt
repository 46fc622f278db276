-- A witness's answer is text.
use Rattle.std.proofs.Common.{◌≡◌, ◌<◌, ℕ, List, [], ◌∷◌, ◌++◌, All, ap, append-nil, arith, length, refl, subst, sym, ◌∙◌}
use Rattle.std.specs.Prelude.{IsUtf8, flat_map}
use Rattle.std.proofs.lemmas.Fmt.{IsAscii-decimal}
use Rattle.std.proofs.lemmas.List.Concat.{flat_map-cons}
use Rattle.std.proofs.lemmas.List.Elements.{All-head, All-tail}
use Rattle.std.proofs.lemmas.Str.{IsUtf8-append, IsUtf8-from_ascii}
use Rattle.std.proofs.lemmas.Str.Ascii.{IsAscii-nil, IsAscii-cons}
use Rattle.base64.specs.Engines.{standard}
use Rattle.base64.proofs.EngineFacts.{IsAscii-encode_of}
use Rattle.std.specs.Int.{w32, to_be_bytes}
use Rattle.tl_text.specs.Text.{line, number_text, HasNoControl}
use Rattle.tl_text.specs.Pieces.{IsNoLine}
use Rattle.tl_text.proofs.Lines.{line_not_empty, one_line}
use Rattle.tl_text.proofs.PlainText.{number_plain}
use Rattle.tl_note.specs.Note.{Signature, IsSignature, signature_field, signature_line, signature_words}
use Rattle.tl_feed.specs.Answer.{AreSignatures, IsSizeLine}

-- a newline
newline_utf8 : IsUtf8 (10 ∷ [])
newline_utf8 = IsUtf8-from_ascii (10 ∷ []) (IsAscii-cons 10 [] (omega arith) IsAscii-nil)

-- the em dash that begins a signature line, and the space behind it
dash_utf8 : IsUtf8 (0xE2 ∷ 0x80 ∷ 0x94 ∷ 32 ∷ [])
unfolding lib.Utf8.encode
dash_utf8 = (0x2014 ∷ 32 ∷ [], (refl, refl))

-- a signature line
signature_utf8 : (s : Signature) → IsSignature s → IsUtf8 (signature_line s)
signature_utf8 s is =
    IsUtf8-append (signature_words s) (10 ∷ [])
    (IsUtf8-append ((0xE2 ∷ 0x80 ∷ 0x94 ∷ 32 ∷ []) ++ s.name) (32 ∷ signature_field s)
    (IsUtf8-append (0xE2 ∷ 0x80 ∷ 0x94 ∷ 32 ∷ []) s.name dash_utf8 is.name.text)
    (IsUtf8-from_ascii (32 ∷ signature_field s) (IsAscii-cons 32 (signature_field s) (omega arith) (IsAscii-encode_of standard (to_be_bytes w32 s.id ++ s.bytes)))))
    newline_utf8

lines_utf8 : (lines : List Signature) → All IsSignature lines → IsUtf8 (flat_map signature_line lines)
lines_utf8 [] each = IsUtf8-from_ascii [] IsAscii-nil
lines_utf8 (s ∷ lines) each =
    subst IsUtf8 (sym (flat_map-cons signature_line s lines))
    (IsUtf8-append (signature_line s) (flat_map signature_line lines) (signature_utf8 s (All-head IsSignature s lines each)) (lines_utf8 lines (All-tail IsSignature s lines each)))

-- bytes that aren't text aren't signature lines
pub no_signatures : (bytes : List ℕ) → ¬ (IsUtf8 bytes) → ¬ (AreSignatures bytes)
no_signatures bytes none are = none (subst IsUtf8 (sym are.1.spelled) (lines_utf8 are.0 are.1.each))

-- no bytes aren't signature lines
pub none_signed : (bytes : List ℕ) → length bytes ≡ 0 → ¬ (AreSignatures bytes)
none_signed bytes none ([], are, some) = absurd (omega (arith, some))
none_signed [] none (s ∷ lines, are, some) =
    line_not_empty (signature_words s) (flat_map signature_line lines) (sym (flat_map-cons signature_line s lines) ∙ sym are.spelled)
none_signed (b ∷ bytes) none (s ∷ lines, are, some) = absurd (omega (arith, none))

-- bytes that aren't text aren't a size
pub no_size : (bytes : List ℕ) → ¬ (IsUtf8 bytes) → (n : ℕ) → ¬ (IsSizeLine bytes n)
no_size bytes none n is =
    none (subst IsUtf8 (sym is.1)
    (IsUtf8-append (number_text n) (10 ∷ []) (IsUtf8-from_ascii (number_text n) (IsAscii-decimal n (let small = is.0 in omega (arith, small)))) newline_utf8))

-- a text that doesn't begin with a line isn't a size
pub no_line : (bytes text : List ℕ) → text ≡ bytes → IsNoLine text → (n : ℕ) → ¬ (IsSizeLine bytes n)
no_line bytes text same none n is =
    none (number_text n) [] (number_plain n (let small = is.0 in omega (arith, small))) (same ∙ (is.1 ∙ sym (append-nil (line (number_text n)))))

-- a text with something behind its line isn't a size
pub no_more : (bytes text words rest : List ℕ) → text ≡ bytes → HasNoControl words → text ≡ line words ++ rest → 0 < length rest → (n : ℕ) → ¬ (IsSizeLine bytes n)
no_more bytes text words rest same plain joined more n is =
    let whole : line words ++ rest ≡ line (number_text n) ++ [] = sym joined ∙ (same ∙ (is.1 ∙ sym (append-nil (line (number_text n))))) in
    let one = one_line words (number_text n) rest [] plain (number_plain n (let small = is.0 in omega (arith, small))) whole in
    omega (arith, ap (λ (l : List ℕ). length l) one.1, more)
