-- Bytes are one note: the text ends at the last place with two newlines in a row.
use Rattle.std.proofs.Common.{◌≡◌, ℕ, zero, suc, ◌/◌, ◌%◌, true, false, take, drop, ◌<◌, ◌≤◌, List, [], ◌∷◌, ◌++◌, get_or, refl, sym, ap, subst, ◌∙◌, append_assoc, arith, inl, inr, All}
use Rattle.std.specs.Prelude.{◌≢◌, ⊤, chars, encode_utf8, encode_utf8_all}
use Rattle.std.specs.List.{flat_map}
use Rattle.std.specs.Int.{w32, to_be_bytes, from_be_bytes}
use Rattle.std.specs.Char.{is_whitespace}
use Rattle.std.proofs.lemmas.Nat.{from_be_bytes-to_be_bytes_4}
use Rattle.std.proofs.lemmas.Bool.{cases_lt}
use Rattle.std.proofs.lemmas.List.{append-nil}
use Rattle.std.proofs.lemmas.List.Elements.{All-nil, All-cons, All-append, All-head, All-tail, All-from_get_or}
use Rattle.std.proofs.lemmas.List.Concat.{flat_map-cons}
use Rattle.std.proofs.lemmas.Str.{encodes-chars, inside_one}
use Rattle.base64.specs.GeneralPurpose.{IsBytes}
use Rattle.tl_text.specs.Text.{line, HasNoControl}
use Rattle.tl_note.specs.Key.{IsNameChar, IsKeyName}
use Rattle.tl_note.specs.Note.{Signature, IsSignature, signature_field, signature_words, signature_line, Note}
use Rattle.tl_text.proofs.PlainText.{base64_plain, base64_once}
use Rattle.tl_text.proofs.Lines.{one_line, line_not_empty}

-- no two newlines meet
abbrev pub NoGap : List ℕ → Type 0
NoGap [] = ⊤
NoGap (x ∷ []) = ⊤
NoGap (x ∷ y ∷ rest) = (x ≡ 10 → y ≡ 10 → ⊥) × NoGap (y ∷ rest)

gap_within : (front rest : List ℕ) → NoGap (front ++ 10 ∷ 10 ∷ rest) → ⊥
gap_within [] rest apart = apart.0 refl refl
gap_within (x ∷ []) rest apart = apart.1.0 refl refl
gap_within (x ∷ y ∷ front) rest apart = gap_within (y ∷ front) rest apart.1

-- the last place with two newlines in a row
pub last_gap : (f g x y : List ℕ) → NoGap (10 ∷ x) → NoGap (10 ∷ y) → f ++ 10 ∷ 10 ∷ x ≡ g ++ 10 ∷ 10 ∷ y → (f ≡ g) × (x ≡ y)
last_gap [] [] x y px py e = (refl, cc)
last_gap [] (b ∷ g) x y px py e = let tail : 10 ∷ x ≡ g ++ 10 ∷ 10 ∷ y = cc in absurd (gap_within g y (subst NoGap tail px))
last_gap (a ∷ f) [] x y px py e = let tail : f ++ 10 ∷ 10 ∷ x ≡ 10 ∷ y = cc in absurd (gap_within f x (subst NoGap (sym tail) py))
last_gap (a ∷ f) (b ∷ g) x y px py e =
    let head : a ≡ b = cc in
    let tail : f ++ 10 ∷ 10 ∷ x ≡ g ++ 10 ∷ 10 ∷ y = cc in
    let others = last_gap f g x y px py tail in
    (ap (λ (c : ℕ). c ∷ f) head ∙ ap (λ (h : List ℕ). b ∷ h) others.0, others.1)

abbrev IsPlain : ℕ → Type 0
IsPlain byte = 32 ≤ byte

-- a line that isn't empty keeps newlines apart
after_text : (x : ℕ) (text rest : List ℕ) → HasNoControl (x ∷ text) → NoGap (10 ∷ rest) → NoGap ((x ∷ text) ++ 10 ∷ rest)
after_text x [] rest plain apart = let visible : 32 ≤ x = All-head IsPlain x [] plain in (λ a b. absurd (omega arith), apart)
after_text x (y ∷ text) rest plain apart =
    let visible : 32 ≤ x = All-head IsPlain x (y ∷ text) plain in
    (λ a b. absurd (omega arith), after_text y text rest (All-tail IsPlain x (y ∷ text) plain) apart)

before_text : (x : ℕ) (text rest : List ℕ) → HasNoControl (x ∷ text) → NoGap (10 ∷ rest) → NoGap (10 ∷ (x ∷ text) ++ 10 ∷ rest)
before_text x text rest plain apart = let visible : 32 ≤ x = All-head IsPlain x text plain in (λ a b. absurd (omega arith), after_text x text rest plain apart)

-- a character from 0x20 on has bytes from 0x20 on
char_plain : (c : ℕ) → 32 ≤ c → HasNoControl (encode_utf8 c)
char_plain c visible = All-from_get_or IsPlain (encode_utf8 c) 0 (λ i lt. elim (cases_lt (get_or (encode_utf8 c) i 0) 128) [
  | inl ascii ↦ let same : c ≡ get_or (encode_utf8 c) i 0 = inside_one c [] (encode_utf8 c) i (sym (append-nil (encode_utf8 c))) lt ascii in omega arith
  | inr high ↦ omega arith
])

chars_plain : (cs : List ℕ) → All IsNameChar cs → HasNoControl (encode_utf8_all cs)
chars_plain [] each = All-nil IsPlain
chars_plain (c ∷ cs) each = All-append IsPlain (encode_utf8 c) (encode_utf8_all cs) (char_plain c (All-head IsNameChar c cs each).no_control) (chars_plain cs (All-tail IsNameChar c cs each))

pub name_plain : (name : List ℕ) → IsKeyName name → HasNoControl name
name_plain name is = subst HasNoControl (encodes-chars name is.text) (chars_plain (chars name) is.each)

bytes_cons : (b : ℕ) (rest : List ℕ) → b < 256 → IsBytes rest → IsBytes (b ∷ rest)
bytes_cons b rest small fits zero = small
bytes_cons b rest small fits (suc i) = fits i

pub field_bytes : (s : Signature) → IsSignature s → IsBytes (to_be_bytes w32 s.id ++ s.bytes)
field_bytes s is =
    bytes_cons (s.id / 16777216 % 256) (s.id / 65536 % 256 ∷ s.id / 256 % 256 ∷ s.id % 256 ∷ s.bytes) (omega arith) (bytes_cons (s.id / 65536 % 256) (s.id / 256 % 256 ∷ s.id % 256 ∷ s.bytes) (omega arith) (bytes_cons (s.id / 256 % 256) (s.id % 256 ∷ s.bytes) (omega arith) (bytes_cons (s.id % 256) s.bytes (omega arith) is.bytes)))

abbrev body_rest : Signature → List ℕ
body_rest s = 0x80 ∷ 0x94 ∷ 32 ∷ s.name ++ 32 ∷ signature_field s

plain_cons : (b : ℕ) (rest : List ℕ) → 32 ≤ b → HasNoControl rest → HasNoControl (b ∷ rest)
plain_cons b rest visible each = All-cons IsPlain b rest visible each

field_plain : (s : Signature) → IsSignature s → HasNoControl (signature_field s)
field_plain s is = base64_plain (to_be_bytes w32 s.id ++ s.bytes) (field_bytes s is)

word_plain : (s : Signature) → IsSignature s → HasNoControl (s.name ++ 32 ∷ signature_field s)
word_plain s is = All-append IsPlain s.name (32 ∷ signature_field s) (name_plain s.name is.name) (plain_cons 32 (signature_field s) (omega arith) (field_plain s is))

pub body_plain : (s : Signature) → IsSignature s → HasNoControl (0xE2 ∷ body_rest s)
body_plain s is =
    plain_cons 0xE2 (body_rest s) (omega arith) (plain_cons 0x80 (0x94 ∷ 32 ∷ s.name ++ 32 ∷ signature_field s) (omega arith)
    (plain_cons 0x94 (32 ∷ s.name ++ 32 ∷ signature_field s) (omega arith) (plain_cons 32 (s.name ++ 32 ∷ signature_field s) (omega arith) (word_plain s is))))

pub open_lines : (s : Signature) (rest : List Signature) → flat_map signature_line (s ∷ rest) ≡ line (signature_words s) ++ flat_map signature_line rest
open_lines s rest = flat_map-cons signature_line s rest

pub lines_apart : (lines : List Signature) → All IsSignature lines → NoGap (10 ∷ flat_map signature_line lines)
lines_apart [] each = tt
lines_apart (s ∷ rest) each =
    let others = lines_apart rest (All-tail IsSignature s rest each) in
    let joined : line (signature_words s) ++ flat_map signature_line rest ≡ (0xE2 ∷ body_rest s) ++ 10 ∷ flat_map signature_line rest = append_assoc (signature_words s) (10 ∷ []) (flat_map signature_line rest) in
    subst (λ (t : List ℕ). NoGap (10 ∷ t)) (sym (open_lines s rest ∙ joined)) (before_text 0xE2 (body_rest s) (flat_map signature_line rest) (body_plain s (All-head IsSignature s rest each)) others)

-- a note, by the two newlines that end its text
pub note_whole : (bytes t : List ℕ) (ls : List Signature) (n : Note bytes t ls) → bytes ≡ n.readable.front ++ 10 ∷ 10 ∷ flat_map signature_line ls
note_whole bytes t ls n = n.spelled ∙ ap (λ (x : List ℕ). x ++ 10 ∷ flat_map signature_line ls) n.readable.ended ∙ append_assoc n.readable.front (10 ∷ []) (10 ∷ flat_map signature_line ls)

-- a note's text is fixed by its bytes
pub one_text : (bytes t u : List ℕ) (ls ms : List Signature) → Note bytes t ls → Note bytes u ms → (t ≡ u) × (flat_map signature_line ls ≡ flat_map signature_line ms)
one_text bytes t u ls ms n m =
    let left = note_whole bytes t ls n in
    let right = note_whole bytes u ms m in
    let cut = last_gap n.readable.front m.readable.front (flat_map signature_line ls) (flat_map signature_line ms) (lines_apart ls n.each) (lines_apart ms m.each) (sym left ∙ right) in
    (n.readable.ended ∙ ap (λ (f : List ℕ). f ++ 10 ∷ []) cut.0 ∙ sym m.readable.ended, cut.1)

-- ---- the lines

abbrev pub IsNoSpace : ℕ → Type 0
IsNoSpace byte = byte ≢ 32

char_no_space : (c : ℕ) → IsNameChar c → All IsNoSpace (encode_utf8 c)
char_no_space c is = All-from_get_or IsNoSpace (encode_utf8 c) 0 (λ i lt e.
    let same : c ≡ get_or (encode_utf8 c) i 0 = inside_one c [] (encode_utf8 c) i (sym (append-nil (encode_utf8 c))) lt (omega arith) in
    let space : c ≡ 32 = same ∙ e in
    let white : true ≡ false = subst (λ (d : ℕ). is_whitespace d ≡ false) space is.visible in
    cc)

chars_no_space : (cs : List ℕ) → All IsNameChar cs → All IsNoSpace (encode_utf8_all cs)
chars_no_space [] each = All-nil IsNoSpace
chars_no_space (c ∷ cs) each = All-append IsNoSpace (encode_utf8 c) (encode_utf8_all cs) (char_no_space c (All-head IsNameChar c cs each)) (chars_no_space cs (All-tail IsNameChar c cs each))

pub name_no_space : (name : List ℕ) → IsKeyName name → All IsNoSpace name
name_no_space name is = subst (All IsNoSpace) (encodes-chars name is.text) (chars_no_space (chars name) is.each)

-- a name ends at the first space
one_name : (a b x y : List ℕ) → All IsNoSpace a → All IsNoSpace b → a ++ 32 ∷ x ≡ b ++ 32 ∷ y → (a ≡ b) × (x ≡ y)
one_name [] [] x y pa pb e = (refl, cc)
one_name [] (b ∷ bs) x y pa pb e = let head : 32 ≡ b = cc in absurd (All-head IsNoSpace b bs pb (sym head))
one_name (a ∷ rest) [] x y pa pb e = let head : a ≡ 32 = cc in absurd (All-head IsNoSpace a rest pa head)
one_name (a ∷ rest) (b ∷ bs) x y pa pb e =
    let head : a ≡ b = cc in
    let tail : rest ++ 32 ∷ x ≡ bs ++ 32 ∷ y = cc in
    let others = one_name rest bs x y (All-tail IsNoSpace a rest pa) (All-tail IsNoSpace b bs pb) tail in
    (ap (λ (c : ℕ). c ∷ rest) head ∙ ap (λ (cs : List ℕ). b ∷ cs) others.0, others.1)

abbrev made : List ℕ → ℕ → List ℕ → Signature
made name id bytes = record { name = name; id = id; bytes = bytes }

same_signature : (a b : List ℕ) (m n : ℕ) (x y : List ℕ) → a ≡ b → m ≡ n → x ≡ y → made a m x ≡ made b n y
same_signature a b m n x y p q r = ap (λ (c : List ℕ). made c m x) p ∙ ap (λ (k : ℕ). made b k x) q ∙ ap (λ (z : List ℕ). made b n z) r

pub one_body : (s t : Signature) → IsSignature s → IsSignature t → signature_words s ≡ signature_words t → s ≡ t
one_body s t is_s is_t e =
    let words : s.name ++ 32 ∷ signature_field s ≡ t.name ++ 32 ∷ signature_field t = ap (drop 4) e in
    let cut = one_name s.name t.name (signature_field s) (signature_field t) (name_no_space s.name is_s.name) (name_no_space t.name is_t.name) words in
    let fields : to_be_bytes w32 s.id ++ s.bytes ≡ to_be_bytes w32 t.id ++ t.bytes = base64_once (to_be_bytes w32 s.id ++ s.bytes) (to_be_bytes w32 t.id ++ t.bytes) (field_bytes s is_s) (field_bytes t is_t) cut.1 in
    let ids : to_be_bytes w32 s.id ≡ to_be_bytes w32 t.id = ap (take 4) fields in
    let id : s.id ≡ t.id = sym (from_be_bytes-to_be_bytes_4 s.id is_s.id) ∙ ap (from_be_bytes w32) ids ∙ from_be_bytes-to_be_bytes_4 t.id is_t.id in
    let bytes : s.bytes ≡ t.bytes = ap (drop 4) fields in
    same_signature s.name t.name s.id t.id s.bytes t.bytes cut.0 id bytes

pub signatures_once : (ls ms : List Signature) → All IsSignature ls → All IsSignature ms → flat_map signature_line ls ≡ flat_map signature_line ms → ls ≡ ms
signatures_once [] [] pl pm e = refl
signatures_once [] (m ∷ ms) pl pm e = absurd (line_not_empty (signature_words m) (flat_map signature_line ms) (sym (e ∙ open_lines m ms)))
signatures_once (l ∷ ls) [] pl pm e = absurd (line_not_empty (signature_words l) (flat_map signature_line ls) (sym (open_lines l ls) ∙ e))
signatures_once (l ∷ ls) (m ∷ ms) pl pm e =
    let is_l = All-head IsSignature l ls pl in
    let is_m = All-head IsSignature m ms pm in
    let cut = one_line (signature_words l) (signature_words m) (flat_map signature_line ls) (flat_map signature_line ms) (body_plain l is_l) (body_plain m is_m) (sym (open_lines l ls) ∙ e ∙ open_lines m ms) in
    let others = signatures_once ls ms (All-tail IsSignature l ls pl) (All-tail IsSignature m ms pm) cut.1 in
    ap (λ (s : Signature). s ∷ ls) (one_body l m is_l is_m cut.0) ∙ ap (λ (ss : List Signature). m ∷ ss) others

-- bytes are one note
pub one_note : (bytes t u : List ℕ) (ls ms : List Signature) → Note bytes t ls → Note bytes u ms → (t ≡ u) × (ls ≡ ms)
one_note bytes t u ls ms n m =
    let cut = one_text bytes t u ls ms n m in
    (cut.0, signatures_once ls ms n.each m.each cut.1)
