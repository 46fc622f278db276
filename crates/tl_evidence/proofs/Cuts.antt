-- The text of evidence is cut into its parts in one way alone.
use Rattle.std.proofs.Common.{◌≡◌, ◌≢◌, ℕ, zero, suc, ◌+◌, ◌-◌, ◌<◌, ◌≤◌, ◌⊎◌, inl, inr, List, [], ◌∷◌, ◌++◌, length, take, drop, get_or, map, cond, Bool, true, false, refl, sym, ap, subst, ◌∙◌, append_assoc, arith, All}
use Rattle.std.specs.Prelude.{⊤, ◌==◌, Option, Some, None, not, position, vec_items, vec_len}
use Rattle.std.specs.List.{flat_map, position_or_len}
use Rattle.std.specs.declared.vec.Vec.{Vec}
use Rattle.std.proofs.lemmas.Bool.{cases_lt, le-ltb, lt-ltb, ne_eqb}
use Rattle.std.proofs.lemmas.Fmt.{decimal_nonempty}
use Rattle.std.proofs.lemmas.List.{length-append, length-map, take_rest}
use Rattle.std.proofs.lemmas.List.Folds.{list_any_none}
use Rattle.std.proofs.lemmas.List.Sums.{prefix_len-le-length}
use Rattle.tl_proof.proofs.Folds.{None-no_Some, Some-injective}
use Rattle.std.proofs.lemmas.List.Elements.{All-nil, All-cons, All-append, All-head, All-tail}
use Rattle.std.proofs.lemmas.List.Concat.{flat_map-append, flat_map-cons}
use Rattle.tl_text.specs.Text.{line, base64_text, number_text, HasNoControl, IsOneLine}
use Rattle.base64.specs.Engines.{standard}
use Rattle.base64.specs.GeneralPurpose.{IsBytes}
use Rattle.base64.proofs.EngineFacts.{encode_of-nil}
use Rattle.tl_hash.specs.Bytes.{IsHash}
use Rattle.tl_text.proofs.PlainText.{base64_once, base64_plain, number_plain}
use Rattle.tl_note.specs.Key.{Key, IsKeyName}
use Rattle.tl_note.specs.Note.{IsSignature, Note, Signature, signature_line, signature_words}
use Rattle.tl_note.proofs.OneNote.{body_plain, name_no_space, one_note}
use Rattle.tl_checkpoint.specs.Checkpoint.{Head, IsHead, checkpoint_text}
use Rattle.tl_checkpoint.proofs.OneText.{one_checkpoint}
use Rattle.tl_command.specs.Lines.{HasNoNewline, entries_of, lines_text}
use Rattle.tl_command.proofs.LineTexts.{entries_of_lines}
use Rattle.tl_command.proofs.ProofTexts.{proof_plain}
use Rattle.tl_command.specs.ProofText.{Consistency, Consistent, IsConsistency, consistency_lines, consistency_text}
use Rattle.tl_fork.specs.Evidence.{Disagree, IsEvidence, IsOfLog}
use Rattle.tl_evidence.specs.Inner.Cutting.{has_space, note_length, signature_length, signed_length, text_length}

-- ---- how long a note at the front is

abbrev IsSome : List ℕ → Type 0
IsSome text = 0 < length text

abbrev HasSpace : List ℕ → Type 0
HasSpace text = has_space text ≡ true

-- what follows the signatures of a note: nothing, or a line without a space
abbrev EndsNote : List (List ℕ) → Type 0
EndsNote [] = ⊤
EndsNote (text ∷ rest) = has_space text ≡ false

text_before : (front rest : List (List ℕ)) → All IsSome front → text_length (front ++ [] ∷ rest) ≡ length front
text_before [] rest each = refl
text_before (text ∷ front) rest each =
    let some : 0 < length text = All-head IsSome text front each in
    rw (ne_eqb (length text) 0 (λ e. omega (arith, e, some))) (omega (arith, text_before front rest (All-tail IsSome text front each)))

signatures_before : (front rest : List (List ℕ)) → All HasSpace front → EndsNote rest → signature_length (front ++ rest) ≡ length front
signatures_before [] [] each ends = refl
signatures_before [] (text ∷ rest) each ends = rw (ends) refl
signatures_before (text ∷ front) rest each ends =
    rw (All-head HasSpace text front each) (omega (arith, signatures_before front rest (All-tail HasSpace text front each) ends))

-- ---- as the code finds it

-- a test finds the same index among elements as a test of their views among these
first_same : {A B : Type 0} (p : A → Bool) (q : B → Bool) (f : A → B) → ((x : A) → p x ≡ q (f x)) → (xs : List A) → position_or_len p xs ≡ position_or_len q (map f xs)
first_same p q f same [] = refl
first_same p q f same (x ∷ xs) =
    ap (λ (b : Bool). cond (not b) (1 + position_or_len p xs) 0) (same x)
    ∙ ap (λ (n : ℕ). cond (not (q (f x))) (1 + n) 0) (first_same p q f same xs)

within : {A : Type 0} (p : A → Bool) (xs : List A) → position_or_len p xs ≤ length xs
within p xs = prefix_len-le-length (λ x. not (p x)) xs

found_at : {A : Type 0} (p : A → Bool) (xs : List A) (k : ℕ) → position p xs ≡ Some k → k ≡ position_or_len p xs
found_at p xs k e =
    elim (cases_lt (position_or_len p xs) (length xs)) as (λ _. k ≡ position_or_len p xs) [
      | inl less ↦ sym (Some-injective (position_or_len p xs) k (rw (lt-ltb (position_or_len p xs) (length xs) less) at e))
      | inr most ↦ absurd (None-no_Some None k refl (rw (le-ltb (position_or_len p xs) (length xs) most) at e))
    ]

found_nowhere : {A : Type 0} (p : A → Bool) (xs : List A) → position p xs ≡ None → length xs ≡ position_or_len p xs
found_nowhere p xs e =
    elim (cases_lt (position_or_len p xs) (length xs)) as (λ _. length xs ≡ position_or_len p xs) [
      | inl less ↦ absurd (None-no_Some None (position_or_len p xs) refl (sym e ∙ rw (lt-ltb (position_or_len p xs) (length xs) less) refl))
      | inr most ↦ omega (arith, most, within p xs)
    ]

abbrev is_empty_vec : {A : Type 0} → Vec ℕ A → Bool
is_empty_vec v = vec_len v == 0

abbrev is_empty : List ℕ → Bool
is_empty line = length line == 0

abbrev is_spaceless : List ℕ → Bool
is_spaceless line = not (has_space line)

empty_same : {A : Type 0} (v : Vec ℕ A) → is_empty_vec v ≡ is_empty (vec_items v)
empty_same v = ap (λ (n : ℕ). n == 0) (v.ok.0)

pub text_found : {A : Type 0} (lines : List (Vec ℕ A)) (k : ℕ) → position is_empty_vec lines ≡ Some k → k ≡ text_length (map vec_items lines)
text_found lines k e = found_at is_empty_vec lines k e ∙ first_same is_empty_vec is_empty vec_items empty_same lines

pub text_none : {A : Type 0} (lines : List (Vec ℕ A)) → position is_empty_vec lines ≡ None → length lines ≡ text_length (map vec_items lines)
text_none lines e = found_nowhere is_empty_vec lines e ∙ first_same is_empty_vec is_empty vec_items empty_same lines

pub signatures_found : {A : Type 0} (lines : List (Vec ℕ A)) (k : ℕ) → position (λ v. is_spaceless (vec_items v)) lines ≡ Some k → k ≡ signature_length (map vec_items lines)
signatures_found lines k e = found_at (λ v. is_spaceless (vec_items v)) lines k e ∙ first_same (λ v. is_spaceless (vec_items v)) is_spaceless vec_items (λ v. refl) lines

pub signatures_none : {A : Type 0} (lines : List (Vec ℕ A)) → position (λ v. is_spaceless (vec_items v)) lines ≡ None → length lines ≡ signature_length (map vec_items lines)
signatures_none lines e = found_nowhere (λ v. is_spaceless (vec_items v)) lines e ∙ first_same (λ v. is_spaceless (vec_items v)) is_spaceless vec_items (λ v. refl) lines

-- ---- a note at the front

drop_front : {A : Type 0} (front rest : List A) → drop (length front) (front ++ rest) ≡ rest
drop_front [] rest = refl
drop_front (x ∷ front) rest = drop_front front rest

take_front : {A : Type 0} (front rest : List A) → take (length front) (front ++ rest) ≡ front
take_front [] rest = refl
take_front (x ∷ front) rest = ap (λ l. x ∷ l) (take_front front rest)

-- the lines of a note: its text's, an empty one, and signatures
abbrev note_lines : List (List ℕ) → List (List ℕ) → List (List ℕ)
note_lines texts signatures = texts ++ [] ∷ signatures

length_note : (texts signatures rest : List (List ℕ)) → All IsSome texts → All HasSpace signatures → EndsNote rest
    → note_length (note_lines texts signatures ++ rest) ≡ length (note_lines texts signatures)
length_note texts signatures rest some spaced ends =
    let behind : List (List ℕ) = [] ∷ (signatures ++ rest) in
    let whole : note_lines texts signatures ++ rest ≡ texts ++ behind = append_assoc texts ([] ∷ signatures) rest in
    let front : text_length (texts ++ behind) ≡ length texts = text_before texts (signatures ++ rest) some in
    let left : drop (length texts) (texts ++ behind) ≡ behind = drop_front texts behind in
    let signed : signature_length (signatures ++ rest) ≡ length signatures = signatures_before signatures rest spaced ends in
    ap note_length whole
    ∙ ap (λ (n : ℕ). n + signed_length (drop n (texts ++ behind))) front
    ∙ ap (λ (ls : List (List ℕ)). length texts + signed_length ls) left
    ∙ ap (λ (n : ℕ). length texts + suc n) signed
    ∙ sym (length-append texts ([] ∷ signatures))

-- ---- a signed checkpoint by its lines

no_newline : (text : List ℕ) → HasNoControl text → HasNoNewline text
no_newline text plain = λ i d lt e. let visible = plain i d lt in absurd (omega (arith, visible, e))

abbrev checkpoint_lines : Head → List (List ℕ)
checkpoint_lines c = c.origin ∷ number_text c.size ∷ base64_text c.root ∷ c.extensions

abbrev lines_of_note : Head → List Signature → List (List ℕ)
lines_of_note c signatures = note_lines (checkpoint_lines c) (map signature_words signatures)

text_of_lines : (c : Head) → checkpoint_text c ≡ lines_text (checkpoint_lines c)
text_of_lines c =
    append_assoc (line c.origin ++ line (number_text c.size)) (line (base64_text c.root)) (flat_map line c.extensions)
    ∙ append_assoc (line c.origin) (line (number_text c.size)) (line (base64_text c.root) ++ flat_map line c.extensions)

words_text : (signatures : List Signature) → flat_map signature_line signatures ≡ lines_text (map signature_words signatures)
words_text [] = refl
words_text (s ∷ rest) = ap (λ (t : List ℕ). signature_line s ++ t) (words_text rest)

note_text : (bytes : List ℕ) (c : Head) (signatures : List Signature) → Note bytes (checkpoint_text c) signatures → bytes ≡ lines_text (lines_of_note c signatures)
note_text bytes c signatures n =
    n.spelled
    ∙ ap (λ (t : List ℕ). t ++ 10 ∷ flat_map signature_line signatures) (text_of_lines c)
    ∙ ap (λ (t : List ℕ). lines_text (checkpoint_lines c) ++ 10 ∷ t) (words_text signatures)
    ∙ sym (flat_map-append line (checkpoint_lines c) ([] ∷ map signature_words signatures))

no_text : base64_text [] ≡ []
no_text = encode_of-nil standard

no_bytes : IsBytes []
no_bytes i = omega arith

base64_some : (m t : List ℕ) → IsHash m → base64_text m ≡ t → IsSome t
base64_some m [] lawful e =
    let none : m ≡ [] = base64_once m [] lawful.bytes no_bytes (e ∙ sym no_text) in
    absurd (omega (arith, sym lawful.length ∙ ap length none))
base64_some m (x ∷ t) lawful e = omega arith

lines_some : (lines : List (List ℕ)) → All IsOneLine lines → All IsSome lines
lines_some lines each = λ k d lt. (each k d lt).some

lines_plain : (lines : List (List ℕ)) → All IsOneLine lines → All HasNoNewline lines
lines_plain lines each = λ k d lt. no_newline (get_or lines k d) (each k d lt).plain

checkpoint_some : (c : Head) → IsHead c → All IsSome (checkpoint_lines c)
checkpoint_some c is =
    All-cons IsSome c.origin (number_text c.size ∷ base64_text c.root ∷ c.extensions) is.origin.some
    (All-cons IsSome (number_text c.size) (base64_text c.root ∷ c.extensions) (decimal_nonempty c.size (omega (arith, is.size)))
    (All-cons IsSome (base64_text c.root) c.extensions (base64_some c.root (base64_text c.root) is.root refl) (lines_some c.extensions is.extensions)))

checkpoint_plain : (c : Head) → IsHead c → All HasNoNewline (checkpoint_lines c)
checkpoint_plain c is =
    All-cons HasNoNewline c.origin (number_text c.size ∷ base64_text c.root ∷ c.extensions) (no_newline c.origin is.origin.plain)
    (All-cons HasNoNewline (number_text c.size) (base64_text c.root ∷ c.extensions) (no_newline (number_text c.size) (number_plain c.size (omega (arith, is.size))))
    (All-cons HasNoNewline (base64_text c.root) c.extensions (no_newline (base64_text c.root) (base64_plain c.root is.root.bytes)) (lines_plain c.extensions is.extensions)))

words_spaced : (signatures : List Signature) → All HasSpace (map signature_words signatures)
words_spaced [] = All-nil HasSpace
words_spaced (s ∷ rest) = All-cons HasSpace (signature_words s) (map signature_words rest) refl (words_spaced rest)

words_plain : (signatures : List Signature) → All IsSignature signatures → All HasNoNewline (map signature_words signatures)
words_plain [] each = All-nil HasNoNewline
words_plain (s ∷ rest) each =
    All-cons HasNoNewline (signature_words s) (map signature_words rest) (no_newline (signature_words s) (body_plain s (All-head IsSignature s rest each)))
    (words_plain rest (All-tail IsSignature s rest each))

empty_plain : HasNoNewline []
empty_plain = All-nil (λ byte. byte ≢ 10)

note_plain : (c : Head) (signatures : List Signature) → IsHead c → All IsSignature signatures → All HasNoNewline (lines_of_note c signatures)
note_plain c signatures is each =
    All-append HasNoNewline (checkpoint_lines c) ([] ∷ map signature_words signatures) (checkpoint_plain c is)
    (All-cons HasNoNewline [] (map signature_words signatures) empty_plain (words_plain signatures each))

name_spaceless : (name : List ℕ) → IsKeyName name → has_space name ≡ false
name_spaceless name is = list_any_none (λ byte. byte == 32) name (λ k d lt. ne_eqb (get_or name k d) 32 (name_no_space name is k d lt))

-- ---- evidence by its lines

-- two checkpoints of a log by their lines, and what shows that they disagree
pub record AreEvidence (keys : List Key) (name : List ℕ) (first second proof : List (List ℕ)) : Type 0 where
  pub a : Head
  pub b : Head
  pub first_of : IsOfLog keys name (lines_text first) a
  pub second_of : IsOfLog keys name (lines_text second) b
  pub disagree : Disagree a b (lines_text proof)

-- evidence in lines that are cut as the code cuts them
abbrev pub AreCutEvidence : List Key → List ℕ → List (List ℕ) → Type 0
AreCutEvidence keys name lines =
    AreEvidence keys name (take (note_length lines) lines)
    (take (note_length (drop (note_length lines) lines)) (drop (note_length lines) lines))
    (drop (note_length (drop (note_length lines) lines)) (drop (note_length lines) lines))

-- the cut of lines whose notes have these lengths
cut_by : (keys : List Key) (name : List ℕ) (first second proof : List (List ℕ)) → note_length (first ++ (second ++ proof)) ≡ length first
    → note_length (second ++ proof) ≡ length second → AreEvidence keys name first second proof → AreCutEvidence keys name (first ++ (second ++ proof))
cut_by keys name first second proof one two are =
    let front = take_front first (second ++ proof) in
    let behind = drop_front first (second ++ proof) in
    rw (one, front, behind, two, take_front second proof, drop_front second proof) are

-- the lines of evidence whose proof has these lines
cut_lines : (keys : List Key) (name : List ℕ) (lines proof : List (List ℕ)) → IsKeyName name → All HasNoNewline lines → All HasNoNewline proof → EndsNote proof
    → (e : IsEvidence keys name (lines_text lines)) → e.proof ≡ lines_text proof → AreCutEvidence keys name lines
cut_lines keys name lines proof is plain proof_is ends e spelled =
    let s = e.first_of.signed in
    let t = e.second_of.signed in
    let first : List (List ℕ) = lines_of_note e.a s.lines in
    let second : List (List ℕ) = lines_of_note e.b t.lines in
    let first_text : e.first ≡ lines_text first = note_text e.first e.a s.lines s.noted in
    let second_text : e.second ≡ lines_text second = note_text e.second e.b t.lines t.noted in
    let behind : e.second ++ e.proof ≡ lines_text (second ++ proof) =
    ap (λ (x : List ℕ). x ++ e.proof) second_text ∙ ap (λ (x : List ℕ). lines_text second ++ x) spelled ∙ sym (flat_map-append line second proof) in
    let whole : lines_text lines ≡ lines_text (first ++ (second ++ proof)) =
    e.parts ∙ ap (λ (x : List ℕ). x ++ (e.second ++ e.proof)) first_text ∙ ap (λ (x : List ℕ). lines_text first ++ x) behind
    ∙ sym (flat_map-append line first (second ++ proof)) in
    let each = All-append HasNoNewline first (second ++ proof) (note_plain e.a s.lines s.stated s.noted.each)
    (All-append HasNoNewline second proof (note_plain e.b t.lines t.stated t.noted.each) proof_is) in
    let same : first ++ (second ++ proof) ≡ lines = sym (entries_of_lines (first ++ (second ++ proof)) each) ∙ ap entries_of (sym whole) ∙ entries_of_lines lines plain in
    let origin : has_space e.b.origin ≡ false = ap has_space e.second_of.named ∙ name_spaceless name is in
    let one = length_note (checkpoint_lines e.a) (map signature_words s.lines) (second ++ proof) (checkpoint_some e.a s.stated) (words_spaced s.lines) origin in
    let two = length_note (checkpoint_lines e.b) (map signature_words t.lines) proof (checkpoint_some e.b t.stated) (words_spaced t.lines) ends in
    subst (λ (ls : List (List ℕ)). AreCutEvidence keys name ls) same
    (cut_by keys name first second proof one two (record {
      a = e.a;
      b = e.b;
      first_of = subst (λ (x : List ℕ). IsOfLog keys name x e.a) first_text e.first_of;
      second_of = subst (λ (x : List ℕ). IsOfLog keys name x e.b) second_text e.second_of;
      disagree = subst (λ (x : List ℕ). Disagree e.a e.b x) spelled e.disagree;
    }))

cut_case : (keys : List Key) (name : List ℕ) (lines : List (List ℕ)) → IsKeyName name → All HasNoNewline lines → (e : IsEvidence keys name (lines_text lines))
    → Disagree e.a e.b e.proof → AreCutEvidence keys name lines
cut_case keys name lines is plain e (inl (none, two)) = cut_lines keys name lines [] is plain (All-nil HasNoNewline) tt e none
cut_case keys name lines is plain e (inr (p, lawful, spelled, leads)) =
    cut_lines keys name lines (consistency_lines p) is plain (proof_plain (Consistent p) lawful) refl e spelled

-- evidence is cut into its parts
pub evidence_is_cut : (keys : List Key) (name : List ℕ) (lines : List (List ℕ)) → IsKeyName name → All HasNoNewline lines → IsEvidence keys name (lines_text lines)
    → AreCutEvidence keys name lines
evidence_is_cut keys name lines is plain e = cut_case keys name lines is plain e e.disagree

-- evidence is lines
behind_lines : (keys : List Key) (name text : List ℕ) (proof : List (List ℕ)) → All HasNoNewline proof → (e : IsEvidence keys name text) → e.proof ≡ lines_text proof
    → (lines : List (List ℕ)) × All HasNoNewline lines × (text ≡ lines_text lines)
behind_lines keys name text proof proof_is e spelled =
    let s = e.first_of.signed in
    let t = e.second_of.signed in
    let first : List (List ℕ) = lines_of_note e.a s.lines in
    let second : List (List ℕ) = lines_of_note e.b t.lines in
    let behind : e.second ++ e.proof ≡ lines_text (second ++ proof) =
    ap (λ (x : List ℕ). x ++ e.proof) (note_text e.second e.b t.lines t.noted) ∙ ap (λ (x : List ℕ). lines_text second ++ x) spelled ∙ sym (flat_map-append line second proof) in (
      first ++ (second ++ proof),
      All-append HasNoNewline first (second ++ proof) (note_plain e.a s.lines s.stated s.noted.each)
          (All-append HasNoNewline second proof (note_plain e.b t.lines t.stated t.noted.each) proof_is),
      e.parts ∙ ap (λ (x : List ℕ). x ++ (e.second ++ e.proof)) (note_text e.first e.a s.lines s.noted) ∙ ap (λ (x : List ℕ). lines_text first ++ x) behind
          ∙ sym (flat_map-append line first (second ++ proof)),
    )

lines_case : (keys : List Key) (name text : List ℕ) → (e : IsEvidence keys name text) → Disagree e.a e.b e.proof → (lines : List (List ℕ)) × All HasNoNewline lines × (text ≡ lines_text lines)
lines_case keys name text e (inl (none, two)) = behind_lines keys name text [] (All-nil HasNoNewline) e none
lines_case keys name text e (inr (p, lawful, spelled, leads)) = behind_lines keys name text (consistency_lines p) (proof_plain (Consistent p) lawful) e spelled

pub evidence_lines : (keys : List Key) (name text : List ℕ) → IsEvidence keys name text → (lines : List (List ℕ)) × All HasNoNewline lines × (text ≡ lines_text lines)
evidence_lines keys name text e = lines_case keys name text e e.disagree

-- parts that are cut are evidence
pub cut_is_evidence : (keys : List Key) (name : List ℕ) (first second proof : List (List ℕ)) → AreEvidence keys name first second proof
    → IsEvidence keys name (lines_text (first ++ (second ++ proof)))
cut_is_evidence keys name first second proof are = record {
  first = lines_text first;
  second = lines_text second;
  proof = lines_text proof;
  a = are.a;
  b = are.b;
  parts = flat_map-append line first (second ++ proof) ∙ ap (λ (x : List ℕ). lines_text first ++ x) (flat_map-append line second proof);
  first_of = are.first_of;
  second_of = are.second_of;
  disagree = are.disagree;
}

-- bytes are one checkpoint of a log
pub one_of_log : (keys : List Key) (name other bytes : List ℕ) (a b : Head) → IsOfLog keys name bytes a → IsOfLog keys other bytes b → a ≡ b
one_of_log keys name other bytes a b is_a is_b =
    one_checkpoint a b is_a.signed.stated is_b.signed.stated
    (one_note bytes (checkpoint_text a) (checkpoint_text b) is_a.signed.lines is_b.signed.lines is_a.signed.noted is_b.signed.noted).0

-- ---- what the code makes of it

map_drop : {A B : Type 0} (f : A → B) (n : ℕ) (xs : List A) → map f (drop n xs) ≡ drop n (map f xs)
map_drop f zero xs = refl
map_drop f (suc n) [] = refl
map_drop f (suc n) (x ∷ xs) = map_drop f n xs

-- the rest of a list behind its first elements, as a contract sees it
pub rest_shown : {A B : Type 0} (f : A → B) (k : ℕ) (xs : List A) → map f (take (length xs - k) (drop k xs)) ≡ drop k (map f xs)
rest_shown f k xs = ap (map f) (take_rest xs k) ∙ map_drop f k xs

signed_at : (t : ℕ) (lines : List (List ℕ)) → t < length lines → signed_length (drop t lines) ≡ suc (signature_length (drop (suc t) lines))
signed_at t [] less = absurd (omega (arith, less))
signed_at zero (text ∷ lines) less = refl
signed_at (suc t) (text ∷ lines) less = signed_at t lines (omega (arith, less))

drop_whole : {A : Type 0} (xs : List A) → drop (length xs) xs ≡ []
drop_whole [] = refl
drop_whole (x ∷ xs) = drop_whole xs

-- no line is empty
pub note_all : {A : Type 0} (lines : List (Vec ℕ A)) (t : ℕ) → t ≡ text_length (map vec_items lines) → t ≡ length lines → t ≡ note_length (map vec_items lines)
note_all lines t is all =
    let seen : List (List ℕ) = map vec_items lines in
    let whole : text_length seen ≡ length seen = sym is ∙ all ∙ sym (length-map lines vec_items) in
    let none : drop (text_length seen) seen ≡ [] = ap (λ (n : ℕ). drop n seen) whole ∙ drop_whole seen in
    let plain : text_length seen ≡ text_length seen + 0 = omega arith in
    is ∙ plain ∙ sym (ap (λ (ls : List (List ℕ)). text_length seen + signed_length ls) none)

-- the line at this place is the first empty one
pub note_more : {A : Type 0} (lines : List (Vec ℕ A)) (t s : ℕ) → t ≡ text_length (map vec_items lines) → t < length lines
    → s ≡ signature_length (drop (t + 1) (map vec_items lines)) → t + 1 + s ≡ note_length (map vec_items lines)
note_more lines t s is less same =
    let seen : List (List ℕ) = map vec_items lines in
    let at : signed_length (drop t seen) ≡ suc (signature_length (drop (suc t) seen)) = signed_at t seen (omega (arith, less, length-map lines vec_items)) in
    let one : t + 1 ≡ suc t = omega arith in
    let s_is : s ≡ signature_length (drop (suc t) seen) = same ∙ ap (λ (n : ℕ). signature_length (drop n seen)) one in
    let sum : t + 1 + s ≡ t + signed_length (drop t seen) = omega (arith, at, s_is) in
    sum ∙ ap (λ (n : ℕ). n + signed_length (drop n seen)) is
