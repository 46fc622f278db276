-- Reading lines: the end of a line and of its words.
use Rattle.std.proofs.Common.{◌≡◌, ℕ, ◌+◌, ◌<◌, ◌≤◌, List, [], ◌∷◌, ◌++◌, length, drop, get_or, refl, sym, ap, subst, ◌∙◌, append_assoc, arith, All, Option, Some, Bor}
use Rattle.std.specs.Prelude.{MatchOption, IsUtf8}
use Rattle.std.specs.List.{flat_map}
use Rattle.std.specs.Str.{IsCharBoundary}
use Rattle.std.proofs.lemmas.List.{append-nil, length-append, flat_map_more}
use Rattle.std.proofs.lemmas.List.Elements.{All-nil, All-head, All-tail, All-get_or, All-push}
use Rattle.std.proofs.lemmas.Str.{IsUtf8-drop}
use Rattle.std.proofs.lemmas.Str.Pattern.{IsSplitOnceResult, split_after}
use Rattle.tl_note.specs.Note.{Signature, IsSignature, signature_field, signature_words, signature_line}
use Rattle.tl_note.specs.Inner.Reading.{CutsLine, IsNoFirstLine, AreSignatureLines, HasSignatureLines}
use Rattle.tl_text.proofs.Lines.{one_line, line_not_empty}
use Rattle.tl_note.proofs.OneNote.{name_no_space, body_plain, open_lines, one_body, IsNoSpace}

abbrev pub dash : List ℕ
dash = 0xE2 ∷ 0x80 ∷ 0x94 ∷ 32 ∷ []

-- what stands round the first space after the dash
pub words_parts : (text words : List ℕ) (r : Option (Bor (List ℕ) × Bor (List ℕ))) (s : Signature) → text ≡ dash ++ words → IsSplitOnceResult 32 words r → IsSignature s → text ≡ signature_words s
    → MatchOption r ⊥ (λ x. (x.0.now ≡ s.name) × (x.1.now ≡ signature_field s))
words_parts text words r s begins split is e =
    let rest : words ≡ s.name ++ 32 ∷ signature_field s = ap (drop 4) (sym begins ∙ e) in
    split_after 32 words s.name (signature_field s) r split (omega arith) rest (λ i lt. All-get_or IsNoSpace s.name i 0 lt (name_no_space s.name is.name))

-- what stands round the first newline
pub line_parts : (text : List ℕ) (r : Option (Bor (List ℕ) × Bor (List ℕ))) (s : Signature) (rest : List ℕ) → IsSplitOnceResult 10 text r → CutsLine text s rest
    → MatchOption r ⊥ (λ x. (x.0.now ≡ signature_words s) × (x.1.now ≡ rest))
line_parts text r s rest split cuts =
    let whole : text ≡ signature_words s ++ 10 ∷ rest = cuts.whole ∙ append_assoc (signature_words s) (10 ∷ []) rest in
    split_after 10 text (signature_words s) rest r split (omega arith) whole (λ i lt e. let visible : 32 ≤ get_or (signature_words s) i 0 = All-get_or (λ b. 32 ≤ b) (signature_words s) i 0 lt (body_plain s cuts.lawful) in absurd (omega (arith, e, visible)))

-- a first line, by what stands round the newline
pub cut_line : (text words rest : List ℕ) (s : Signature) → text ≡ words ++ 10 ∷ rest → IsSignature s → words ≡ signature_words s → CutsLine text s rest
cut_line text words rest s whole is e = record { lawful = is; whole = whole ∙ ap (λ (w : List ℕ). w ++ 10 ∷ rest) e ∙ sym (append_assoc (signature_words s) (10 ∷ []) rest) }

-- what follows the newline is text
pub rest_utf8 : (text : List ℕ) (words rest : Bor (List ℕ)) → IsUtf8 text → IsSplitOnceResult 10 text (Some (words, rest)) → IsUtf8 rest.now
rest_utf8 text words rest utf8 split =
    let at = split.2.1 in
    subst IsUtf8 (sym split.4) (IsUtf8-drop text split.1 utf8 (subst (IsCharBoundary text) (sym at.ends) at.after))

-- lines that begin with lines
pub record Continue (done lines : List Signature) (left : List ℕ) : Type 0 where
  pub more : List Signature
  pub each : All IsSignature more
  pub joined : lines ≡ done ++ more
  pub rest : left ≡ flat_map signature_line more

after_done : (done lines : List Signature) (left : List ℕ) → All IsSignature done → All IsSignature lines → flat_map signature_line lines ≡ flat_map signature_line done ++ left → Continue done lines left
after_done [] lines left d l e = record { more = lines; each = l; joined = refl; rest = sym e }
after_done (s ∷ done) [] left d l e = absurd (line_not_empty (signature_words s) (flat_map signature_line done ++ left) (sym (append_assoc (signature_line s) (flat_map signature_line done) left) ∙ ap (λ (t : List ℕ). t ++ left) (sym (open_lines s done)) ∙ sym e))
after_done (s ∷ done) (m ∷ lines) left d l e =
    let is_s = All-head IsSignature s done d in
    let is_m = All-head IsSignature m lines l in
    let opened : signature_line m ++ flat_map signature_line lines ≡ signature_line s ++ (flat_map signature_line done ++ left) = sym (open_lines m lines) ∙ e ∙ ap (λ (t : List ℕ). t ++ left) (open_lines s done) ∙ append_assoc (signature_line s) (flat_map signature_line done) left in
    let cut = one_line (signature_words m) (signature_words s) (flat_map signature_line lines) (flat_map signature_line done ++ left) (body_plain m is_m) (body_plain s is_s) opened in
    let others = after_done done lines left (All-tail IsSignature s done d) (All-tail IsSignature m lines l) cut.1 in
    record {
      more = others.more;
      each = others.each;
      joined = ap (λ (x : Signature). x ∷ lines) (one_body m s is_m is_s cut.0) ∙ ap (λ (xs : List Signature). s ∷ xs) others.joined;
      rest = others.rest;
    }

-- what was read, and what is left to read
pub record HasRead (text : List ℕ) (done : List Signature) (left : List ℕ) : Type 0 where
  pub utf8 : IsUtf8 left
  pub each : All IsSignature done
  pub whole : flat_map signature_line done ++ left ≡ text

continue : (text left : List ℕ) (done lines : List Signature) → HasRead text done left → AreSignatureLines text lines → Continue done lines left
continue text left done lines has are = after_done done lines left has.each are.each (sym are.whole ∙ sym has.whole)

-- the text is no list of 1 to 100 lines if 100 lines are read and some bytes are left
too_many_more : (left : List ℕ) (done lines more : List Signature) → length done ≡ 100 → 0 < length left → length lines ≤ 100 → lines ≡ done ++ more → left ≡ flat_map signature_line more → ⊥
too_many_more left done lines [] full some few joined rest = absurd (omega (arith, some, ap length rest))
too_many_more left done lines (m ∷ more) full some few joined rest = absurd (omega (arith, full, few, ap length joined, length-append done (m ∷ more)))

pub too_many : (text left : List ℕ) (done lines : List Signature) → HasRead text done left → length done ≡ 100 → 0 < length left → AreSignatureLines text lines → ⊥
too_many text left done lines has full some are =
    let next = continue text left done lines has are in
    too_many_more left done lines next.more full some are.few next.joined next.rest

-- nor if what is left begins with no line
no_first_more : (left : List ℕ) (more : List Signature) → IsNoFirstLine left → 0 < length left → All IsSignature more → left ≡ flat_map signature_line more → ⊥
no_first_more left [] none some each rest = absurd (omega (arith, some, ap length rest))
no_first_more left (m ∷ more) none some each rest = none m (flat_map signature_line more) (record { lawful = All-head IsSignature m more each; whole = rest ∙ open_lines m more })

pub no_first : (text left : List ℕ) (done lines : List Signature) → HasRead text done left → IsNoFirstLine left → 0 < length left → AreSignatureLines text lines → ⊥
no_first text left done lines has none some are =
    let next = continue text left done lines has are in
    no_first_more left next.more none some next.each next.rest

-- nor if it is empty
no_lines_more : (left : List ℕ) (lines more : List Signature) → length left ≡ 0 → 0 < length lines → lines ≡ more → left ≡ flat_map signature_line more → ⊥
no_lines_more left lines [] empty some joined rest = absurd (omega (arith, some, ap length joined))
no_lines_more left lines (m ∷ more) empty some joined rest = absurd (omega (arith, empty, ap length (rest ∙ open_lines m more), length-append (signature_line m) (flat_map signature_line more), length-append (signature_words m) (10 ∷ [])))

pub no_lines : (text left : List ℕ) (done lines : List Signature) → HasRead text done left → length done ≡ 0 → length left ≡ 0 → AreSignatureLines text lines → ⊥
no_lines text left [] lines has none empty are =
    let next = continue text left [] lines has are in
    no_lines_more left lines next.more empty are.some next.joined next.rest
no_lines text left (s ∷ done) lines has none empty are = absurd (omega arith)

-- one more line is read
pub reads_more : (text left rest : List ℕ) (done : List Signature) (s : Signature) → HasRead text done left → IsUtf8 rest → CutsLine left s rest → HasRead text (done ++ s ∷ []) rest
reads_more text left rest done s has utf8 cuts = record {
  utf8 = utf8;
  each = All-push IsSignature done s has.each cuts.lawful;
  whole = ap (λ (t : List ℕ). t ++ rest) (sym (flat_map_more signature_line [] done s)) ∙ append_assoc (flat_map signature_line done) (signature_line s) rest ∙ ap (λ (t : List ℕ). flat_map signature_line done ++ t) (sym cuts.whole) ∙ has.whole;
}

-- a count of what was read
pub record HasCounted (text : List ℕ) (count : ℕ) (left : List ℕ) : Type 0 where
  pub done : List Signature
  pub read : HasRead text done left
  pub counted : length done ≡ count
  pub few : count ≤ 100

pub counts_none : (text : List ℕ) → IsUtf8 text → HasCounted text 0 text
counts_none text utf8 = record { done = []; read = record { utf8 = utf8; each = All-nil IsSignature; whole = refl }; counted = refl; few = omega arith }

pub counts_more : (text left rest : List ℕ) (count : ℕ) (s : Signature) → HasCounted text count left → count < 100 → IsUtf8 rest → CutsLine left s rest → HasCounted text (count + 1) rest
counts_more text left rest count s has few utf8 cuts = record {
  done = has.done ++ s ∷ [];
  read = reads_more text left rest has.done s has.read utf8 cuts;
  counted = omega (arith, length-append has.done (s ∷ []), has.counted);
  few = omega (arith, few);
}

-- nothing is left
pub counts_all : (text left : List ℕ) (count : ℕ) → HasCounted text count left → length left ≡ 0 → 0 < count → HasSignatureLines text count
counts_all text [] count has none some = (has.done, record { each = has.read.each; some = omega (arith, some, has.counted); few = omega (arith, has.few, has.counted); whole = sym has.read.whole ∙ append-nil (flat_map signature_line has.done) }, has.counted)
counts_all text (x ∷ left) count has none some = absurd (omega arith)

-- what is left begins with no line, so all lines are read
all_read : (text left : List ℕ) (done lines more : List Signature) → IsNoFirstLine left → All IsSignature more → left ≡ flat_map signature_line more → lines ≡ done ++ more → AreSignatureLines text lines → AreSignatureLines text done
all_read text left done lines [] none each rest joined are = subst (AreSignatureLines text) (joined ∙ append-nil done) are
all_read text left done lines (m ∷ more) none each rest joined are = absurd (none m (flat_map signature_line more) (record { lawful = All-head IsSignature m more each; whole = rest ∙ open_lines m more }))

pub reads_all : (text left : List ℕ) (done : List Signature) (count : ℕ) → HasRead text done left → IsNoFirstLine left → HasSignatureLines text count → AreSignatureLines text done
reads_all text left done count has none are =
    let next = continue text left done are.0 has are.1 in
    all_read text left done are.0 next.more none next.each next.rest next.joined are.1
