-- The bytes of a note are text, and some.
use Rattle.std.proofs.Common.{ℕ, ◌<◌, List, [], ◌∷◌, ◌++◌, length, refl, sym, ap, subst, arith, All}
use Rattle.std.specs.Prelude.{IsUtf8}
use Rattle.std.specs.Int.{w32, to_be_bytes}
use Rattle.std.specs.List.{flat_map}
use Rattle.std.proofs.lemmas.List.{length-append}
use Rattle.std.proofs.lemmas.List.Concat.{flat_map-cons}
use Rattle.std.proofs.lemmas.List.Elements.{All-head, All-tail}
use Rattle.std.proofs.lemmas.Str.{IsUtf8-append, IsUtf8-from_ascii, IsUtf8-nil}
use Rattle.std.proofs.lemmas.Str.Ascii.{IsAscii-nil, IsAscii-cons}
use lib.Utf8.{encode}
use Rattle.base64.specs.Engines.{standard}
use Rattle.base64.proofs.EngineFacts.{IsAscii-encode_of}
use Rattle.tl_note.specs.Note.{Signature, IsSignature, Note, signature_field, signature_words, signature_line}

one_utf8 : (b : ℕ) → b < 128 → IsUtf8 (b ∷ [])
one_utf8 b low = IsUtf8-from_ascii (b ∷ []) (IsAscii-cons b [] low IsAscii-nil)

dash : IsUtf8 (0xE2 ∷ 0x80 ∷ 0x94 ∷ 32 ∷ [])
unfolding encode
dash = (0x2014 ∷ 32 ∷ [], (refl, refl))

line_utf8 : (s : Signature) → IsSignature s → IsUtf8 (signature_line s)
line_utf8 s is =
    let field = IsUtf8-from_ascii (signature_field s) (IsAscii-encode_of standard (to_be_bytes w32 s.id ++ s.bytes)) in
    let named = IsUtf8-append s.name (32 ∷ signature_field s) is.name.text (IsUtf8-append (32 ∷ []) (signature_field s) (one_utf8 32 (omega arith)) field) in
    IsUtf8-append (signature_words s) (10 ∷ []) (IsUtf8-append (0xE2 ∷ 0x80 ∷ 0x94 ∷ 32 ∷ []) (s.name ++ 32 ∷ signature_field s) dash named) (one_utf8 10 (omega arith))

lines_utf8 : (lines : List Signature) → All IsSignature lines → IsUtf8 (flat_map signature_line lines)
lines_utf8 [] each = IsUtf8-nil
lines_utf8 (s ∷ lines) each =
    subst IsUtf8 (sym (flat_map-cons signature_line s lines))
    (IsUtf8-append (signature_line s) (flat_map signature_line lines) (line_utf8 s (All-head IsSignature s lines each)) (lines_utf8 lines (All-tail IsSignature s lines each)))

-- a note is text
pub note_utf8 : (bytes text : List ℕ) (lines : List Signature) → Note bytes text lines → IsUtf8 bytes
note_utf8 bytes text lines is =
    subst IsUtf8 (sym is.spelled)
    (IsUtf8-append text (10 ∷ flat_map signature_line lines) is.readable.utf8
    (IsUtf8-append (10 ∷ []) (flat_map signature_line lines) (one_utf8 10 (omega arith)) (lines_utf8 lines is.each)))

-- a note has a byte
pub note_some : (bytes text : List ℕ) (lines : List Signature) → Note bytes text lines → 0 < length bytes
note_some bytes text lines is =
    omega (arith, ap length is.spelled, length-append text (10 ∷ flat_map signature_line lines))
