-- The field of a signature line: what decoding it gives.
use Rattle.std.proofs.Common.{◌≡◌, ℕ, zero, suc, ◌-◌, ◌^◌, ◌<◌, ◌≤◌, List, [], ◌∷◌, ◌++◌, length, take, drop, get_or, refl, sym, ap, subst, ◌∙◌, arith, lit<, Ok, Option, Some, None}
use Rattle.std.specs.Int.{w32, to_be_bytes, from_be_bytes}
use Rattle.std.proofs.lemmas.Nat.{be_bytes_4}
use Rattle.std.proofs.lemmas.List.{take_at, length-drop, length-append, length-take, get_or-take}
use Rattle.base64.specs.Decode.{decode_outcome}
use Rattle.base64.specs.declared.decode.DecodeError.{DecodeError}
use Rattle.base64.specs.GeneralPurpose.{IsBytes, decode_of, decoded_bytes_of, encode_of}
use Rattle.base64.specs.Engines.{standard}
use Rattle.base64.proofs.EngineFacts.{decode_of-encode_of}
use Rattle.tl_text.specs.Text.{base64_text}
use Rattle.tl_note.specs.Note.{Signature, IsSignature, signature_field}
use Rattle.tl_text.specs.Base64.{IsSpelled, IsRead, IsNoBase64}
use Rattle.tl_note.proofs.OneNote.{field_bytes}
use Rattle.tl_text.proofs.Base64Lemmas.{length-text, block_front, spelled_once}
use Rattle.tl_note.specs.Line.{field_signature}
use Rattle.tl_note.specs.Inner.LineField.{ShowsField}

outcome_bytes : (error : Option DecodeError) (d b : List ℕ) → decode_outcome error d ≡ Ok b → d ≡ b
outcome_bytes None d b e = cc
outcome_bytes (Some x) d b e = cc

-- what a field decodes to
pub decoded : (field bytes : List ℕ) → decode_of standard field ≡ Ok bytes → decoded_bytes_of standard field ≡ bytes
decoded field bytes e = outcome_bytes _ _ bytes e

-- the bytes without the first four, as the code moves them to the front
pub without_front : (bytes : List ℕ) → take (length bytes - 4) (drop 4 bytes ++ take 4 bytes) ≡ drop 4 bytes
without_front bytes = take_at (drop 4 bytes) (take 4 bytes) (length bytes - 4) (length-drop 4 bytes)

four_fit : (a b c d : ℕ) (rest : List ℕ) → IsBytes (a ∷ b ∷ c ∷ d ∷ rest) → IsBytes (a ∷ b ∷ c ∷ d ∷ [])
four_fit a b c d rest fits zero = fits 0
four_fit a b c d rest fits (suc zero) = fits 1
four_fit a b c d rest fits (suc (suc zero)) = fits 2
four_fit a b c d rest fits (suc (suc (suc zero))) = fits 3
four_fit a b c d rest fits (suc (suc (suc (suc i)))) = omega arith

pub field_read : (field bytes : List ℕ) (id : ℕ) → decode_of standard field ≡ Ok bytes → field ≡ encode_of standard bytes → IsBytes bytes → 5 ≤ length bytes → id < 2 ^ 32
    → id ≡ from_be_bytes w32 (get_or bytes 0 0 ∷ get_or bytes 1 0 ∷ get_or bytes 2 0 ∷ get_or bytes 3 0 ∷ []) → ShowsField id field
field_read field [] id ok exact fits long range is = absurd (omega arith)
field_read field (a ∷ []) id ok exact fits long range is = absurd (omega arith)
field_read field (a ∷ b ∷ []) id ok exact fits long range is = absurd (omega arith)
field_read field (a ∷ b ∷ c ∷ []) id ok exact fits long range is = absurd (omega arith)
field_read field (a ∷ b ∷ c ∷ d ∷ []) id ok exact fits long range is = absurd (omega arith)
field_read field (a ∷ b ∷ c ∷ d ∷ e ∷ rest) id ok exact fits long range is =
    let signature : field_signature field ≡ e ∷ rest = ap (drop 4) (decoded field (a ∷ b ∷ c ∷ d ∷ e ∷ rest) ok) in
    let front : to_be_bytes w32 id ≡ a ∷ b ∷ c ∷ d ∷ [] = be_bytes_4 (a ∷ b ∷ c ∷ d ∷ []) id refl (four_fit a b c d (e ∷ rest) fits) is in
    let whole : a ∷ b ∷ c ∷ d ∷ e ∷ rest ≡ to_be_bytes w32 id ++ field_signature field = ap (λ (f : List ℕ). f ++ e ∷ rest) (sym front) ∙ ap (λ (s : List ℕ). to_be_bytes w32 id ++ s) (sym signature) in
    record {
      range = range;
      some = subst (λ (s : List ℕ). 0 < length s) (sym signature) (omega arith);
      bytes = subst IsBytes (sym signature) (λ i. fits (suc (suc (suc (suc i)))));
      spelled = exact ∙ ap base64_text whole;
    }

-- ---- the field, read by its first block

field_spelled : (field : List ℕ) (s : Signature) → IsSignature s → field ≡ signature_field s → IsSpelled field (to_be_bytes w32 s.id ++ s.bytes)
field_spelled field s is e = record { fit = field_bytes s is; spelled = e }

field_long : (s : Signature) → IsSignature s → 5 ≤ length (to_be_bytes w32 s.id ++ s.bytes)
field_long s is = omega (arith, is.some, length-append (to_be_bytes w32 s.id) s.bytes)

front_long : (b : List ℕ) → 5 ≤ length b → 5 ≤ length (take 6 b)
front_long b long = omega (arith, length-take 6 b)

-- a field has eight characters
pub no_short_field : (field : List ℕ) (s : Signature) → length field < 8 → IsSignature s → field ≡ signature_field s → ⊥
no_short_field field s short is e = absurd (omega (arith, field_long s is, ap (λ (t : List ℕ). length t) e, length-text (to_be_bytes w32 s.id ++ s.bytes)))

-- they are base64
pub no_field_block : (field block : List ℕ) (s : Signature) → block ≡ take 8 field → IsNoBase64 block → IsSignature s → field ≡ signature_field s → ⊥
no_field_block field block s at none is e =
    let b = to_be_bytes w32 s.id ++ s.bytes in
    none (take 6 b) (subst (λ (t : List ℕ). IsSpelled t (take 6 b)) (sym at) (block_front field b (field_spelled field s is e)))

-- of five bytes at least
pub no_field_few : (field block bytes : List ℕ) (count : ℕ) (s : Signature) → block ≡ take 8 field → IsRead block count bytes → count ≤ 4 → IsSignature s → field ≡ signature_field s → ⊥
no_field_few field block bytes count s at read few is e =
    let b = to_be_bytes w32 s.id ++ s.bytes in
    let front : IsSpelled block (take 6 b) = subst (λ (t : List ℕ). IsSpelled t (take 6 b)) (sym at) (block_front field b (field_spelled field s is e)) in
    let same : take count bytes ≡ take 6 b = spelled_once block (take count bytes) (take 6 b) read.spelled front in
    absurd (omega (arith, few, read.counted, ap (λ (l : List ℕ). length l) same, front_long b (field_long s is)))

-- the identifier is in the first block
first_bytes : (b bytes : List ℕ) (count i : ℕ) → take count bytes ≡ take 6 b → length (take count bytes) ≡ count → 4 < count → i < 4 → get_or bytes i 0 ≡ get_or b i 0
first_bytes b bytes count i same counted more lt =
    let in_block : i < count = omega arith in
    let in_six : i < 6 = omega arith in
    sym (get_or-take count bytes i 0 in_block) ∙ ap (λ (l : List ℕ). get_or l i 0) same ∙ get_or-take 6 b i 0 in_six

pub field_shown : (field block b bytes : List ℕ) (count id : ℕ) → block ≡ take 8 field → IsSpelled field b → IsRead block count bytes → 4 < count → id < 2 ^ 32
    → id ≡ from_be_bytes w32 (get_or bytes 0 0 ∷ get_or bytes 1 0 ∷ get_or bytes 2 0 ∷ get_or bytes 3 0 ∷ []) → ShowsField id field
field_shown field block b bytes count id at whole read more range is =
    let front : IsSpelled block (take 6 b) = subst (λ (t : List ℕ). IsSpelled t (take 6 b)) (sym at) (block_front field b whole) in
    let same : take count bytes ≡ take 6 b = spelled_once block (take count bytes) (take 6 b) read.spelled front in
    let long : 5 ≤ length b = omega (arith, more, read.counted, ap (λ (l : List ℕ). length l) same, length-take 6 b) in
    let byte : (i : ℕ) → i < 4 → get_or bytes i 0 ≡ get_or b i 0 = λ i lt. first_bytes b bytes count i same read.counted more lt in
    let four : get_or bytes 0 0 ∷ get_or bytes 1 0 ∷ get_or bytes 2 0 ∷ get_or bytes 3 0 ∷ [] ≡ get_or b 0 0 ∷ get_or b 1 0 ∷ get_or b 2 0 ∷ get_or b 3 0 ∷ [] = cc (byte 0 (lit< tt), byte 1 (lit< tt), byte 2 (lit< tt), byte 3 (lit< tt)) in
    let ok : decode_of standard field ≡ Ok b = subst (λ (t : List ℕ). decode_of standard t ≡ Ok b) (sym whole.spelled) (decode_of-encode_of standard b refl whole.fit) in
    field_read field b id ok whole.spelled whole.fit long range (is ∙ ap (from_be_bytes w32) four)
