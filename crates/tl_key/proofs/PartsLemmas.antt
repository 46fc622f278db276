-- The parts of a key's text: their ends, and that a text has them once.
use Rattle.std.proofs.Common.{◌≡◌, ℕ, ◌-◌, List, [], ◌∷◌, ◌++◌, length, take, drop, refl, sym, ap, subst, ◌∙◌, arith, All, Option, Bor}
use Rattle.std.specs.Prelude.{◌≢◌, MatchOption, chars, encode_utf8, encode_utf8_all}
use Rattle.std.specs.Int.{w32, to_be_bytes}
use Rattle.std.proofs.lemmas.List.{append-nil, take_all, take_at, take_rest, drop_at, drop-drop}
use Rattle.std.proofs.lemmas.List.Elements.{All-nil, All-append, All-head, All-tail, All-get_or, All-from_get_or}
use Rattle.std.proofs.lemmas.Str.{encodes-chars, inside_one}
use Rattle.std.proofs.lemmas.Str.Pattern.{IsSplitOnceResult, split_after}
use Rattle.base64.specs.GeneralPurpose.{IsBytes}
use Rattle.hex.specs.Hex.{lower_digits}
use Rattle.hex.proofs.HexLemmas.{length-encode_with}
use Rattle.tl_text.specs.Text.{base64_text}
use Rattle.tl_text.specs.Base64.{IsRead}
use Rattle.tl_text.proofs.Base64Lemmas.{spelled_once}
use Rattle.tl_text.proofs.PlainText.{base64_once}
use Rattle.tl_note.specs.Key.{IsNameChar, IsKeyName}
use Rattle.tl_key.specs.KeyText.{hex8}
use Rattle.tl_key.specs.Inner.Parts.{Are33Bytes, IsField, IsNoField, IsTail, HasParts}

-- ---- a name has no plus sign

abbrev IsNoPlus : ℕ → Type 0
IsNoPlus byte = byte ≢ 0x2B

-- in UTF-8 the byte of a plus sign stands for that character alone
char_no_plus : (c : ℕ) → IsNameChar c → All IsNoPlus (encode_utf8 c)
char_no_plus c is = All-from_get_or IsNoPlus (encode_utf8 c) 0 (λ i lt plus. is.no_plus (inside_one c [] (encode_utf8 c) i (sym (append-nil (encode_utf8 c))) lt (omega arith) ∙ plus))

chars_no_plus : (cs : List ℕ) → All IsNameChar cs → All IsNoPlus (encode_utf8_all cs)
chars_no_plus [] each = All-nil IsNoPlus
chars_no_plus (c ∷ cs) each = All-append IsNoPlus (encode_utf8 c) (encode_utf8_all cs) (char_no_plus c (All-head IsNameChar c cs each)) (chars_no_plus cs (All-tail IsNameChar c cs each))

name_no_plus : (name : List ℕ) → IsKeyName name → All IsNoPlus name
name_no_plus name is = subst (All IsNoPlus) (encodes-chars name is.text) (chars_no_plus (chars name) is.each)

-- ---- the parts are in one place

-- two texts are equal up to their first plus signs
first_plus : (a b x y : List ℕ) → All IsNoPlus a → All IsNoPlus b → a ++ 0x2B ∷ x ≡ b ++ 0x2B ∷ y → (a ≡ b) × (x ≡ y)
first_plus [] [] x y na nb e = (refl, ap (drop 1) e)
first_plus [] (b ∷ bs) x y na nb e = let head : 0x2B ≡ b = cc in absurd (All-head IsNoPlus b bs nb (sym head))
first_plus (a ∷ as_left) [] x y na nb e = let head : a ≡ 0x2B = cc in absurd (All-head IsNoPlus a as_left na head)
first_plus (a ∷ as_left) (b ∷ bs) x y na nb e =
    let head : a ≡ b = cc in
    let others = first_plus as_left bs x y (All-tail IsNoPlus a as_left na) (All-tail IsNoPlus b bs nb) (ap (drop 1) e) in
    (ap (λ (c : ℕ). c ∷ as_left) head ∙ ap (λ (cs : List ℕ). b ∷ cs) others.0, others.1)

tail_once : (d e b c : List ℕ) → length d ≡ 8 → length e ≡ 8 → Are33Bytes b → Are33Bytes c → d ++ 0x2B ∷ base64_text b ≡ e ++ 0x2B ∷ base64_text c → (d ≡ e) × (b ≡ c)
tail_once d e b c ld le fb fc same =
    let digits : d ≡ e = sym (take_at d (0x2B ∷ base64_text b) 8 ld) ∙ ap (take 8) same ∙ take_at e (0x2B ∷ base64_text c) 8 le in
    let field : 0x2B ∷ base64_text b ≡ 0x2B ∷ base64_text c = sym (drop_at d (0x2B ∷ base64_text b) 8 ld) ∙ ap (drop 8) same ∙ drop_at e (0x2B ∷ base64_text c) 8 le in
    (digits, base64_once b c fb.fit fc.fit (ap (drop 1) field))

-- a text has its parts once
pub parts_once : (text n m d e b c : List ℕ) → HasParts text n d b → HasParts text m e c → (n ≡ m) × (d ≡ e) × (b ≡ c)
parts_once text n m d e b c one two =
    let cut = first_plus n m (d ++ 0x2B ∷ base64_text b) (e ++ 0x2B ∷ base64_text c) (name_no_plus n one.name_is) (name_no_plus m two.name_is) (sym one.spelled ∙ two.spelled) in
    let rest = tail_once d e b c one.eight two.eight one.fit two.fit cut.1 in
    (cut.0, rest.0, rest.1)

-- an identifier has eight digits
pub length-hex8 : (n : ℕ) → length (hex8 n) ≡ 8
length-hex8 n = length-encode_with lower_digits (to_be_bytes w32 n)

-- ---- reading what follows a name

pub no_tail : (rest field digits bytes : List ℕ) → field ≡ take (length rest - 9) (drop 9 rest) → IsNoField field → IsTail rest digits bytes → ⊥
no_tail rest field digits bytes at none is =
    let after : drop 8 rest ≡ 0x2B ∷ base64_text bytes = ap (drop 8) is.spelled ∙ drop_at digits (0x2B ∷ base64_text bytes) 8 is.eight in
    none bytes (record { fit = is.fit; spelled = at ∙ take_rest rest 9 ∙ sym (drop-drop 1 8 rest) ∙ ap (drop 1) after })

-- ---- reading the field

-- an array that was written whole
pub field_read : (field written : List ℕ) (count : ℕ) → IsRead field count written → count ≡ 33 → length written ≡ 33 → IsField field written
field_read field written count read all size =
    let whole : take count written ≡ written = take_all count written (omega (arith, all, size)) in
    record {
      fit = record { size = size; fit = subst IsBytes whole read.spelled.fit };
      spelled = subst (λ (bytes : List ℕ). field ≡ base64_text bytes) whole read.spelled.spelled;
    }

pub other_count : (field written bytes : List ℕ) (count : ℕ) → IsRead field count written → count ≢ 33 → IsField field bytes → ⊥
other_count field written bytes count read other is =
    let one : take count written ≡ bytes = spelled_once field (take count written) bytes read.spelled (record { fit = is.fit.fit; spelled = is.spelled }) in
    other (sym read.counted ∙ ap (λ (b : List ℕ). length b) one ∙ is.fit.size)

-- ---- reading a text

-- what stands round the first plus sign
pub name_parts : (text n d b : List ℕ) (r : Option (Bor (List ℕ) × Bor (List ℕ))) → IsSplitOnceResult 0x2B text r → HasParts text n d b
    → MatchOption r ⊥ (λ x. (x.0.now ≡ n) × (x.1.now ≡ d ++ 0x2B ∷ base64_text b))
name_parts text n d b r split has =
    split_after 0x2B text n (d ++ 0x2B ∷ base64_text b) r split (omega arith) has.spelled (λ i lt. All-get_or IsNoPlus n i 0 lt (name_no_plus n has.name_is))

pub tail_of : (text n d b rest : List ℕ) → HasParts text n d b → rest ≡ d ++ 0x2B ∷ base64_text b → IsTail rest d b
tail_of text n d b rest has same = record { eight = has.eight; fit = has.fit; spelled = same }
