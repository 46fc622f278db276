-- Lines behind a line with a word and their number, and the lines of an audit's text.
use Rattle.std.proofs.Common.{inl, inr, ◌≡◌, ℕ, ◌-◌, ◌<◌, ◌≤◌, List, [], ◌∷◌, ◌++◌, length, get_or, map, take, drop, refl, sym, ap, ◌∙◌, append_assoc, subst, arith, All}
use Rattle.std.specs.Prelude.{◌≢◌, codes}
use Rattle.std.specs.List.{onto_first}
use Rattle.std.proofs.Math.Seq.{take-append_seam, drop-append_seam}
use Rattle.std.proofs.lemmas.Bool.{cases_eq}
use Rattle.std.proofs.lemmas.Fmt.{decimal_injective}
use Rattle.std.proofs.lemmas.List.{append_cancel_left, length-map, length-append, length-take-le, map-append, take-append-drop, take-map, drop-map, take_rest}
use Rattle.std.proofs.lemmas.List.Elements.{All-nil, All-cons, All-head, All-tail, All-append}
use Rattle.tl_hash.specs.Bytes.{IsHash}
use Rattle.tl_text.specs.Text.{number_text, base64_text, IsSize}
use Rattle.tl_command.specs.AuditText.{Audit, IsAudit, counted_lines, audit_lines, audit_text}
use Rattle.tl_command.specs.Inner.Shown.{IsAuditRead}
use Rattle.tl_command.specs.Lines.{entries_of, HasNoNewline}
use Rattle.tl_command.proofs.LinesLemmas.{step_newline, step_other}
use Rattle.tl_command.proofs.LineTexts.{entries_of_lines}
use Rattle.tl_command.proofs.ProofTexts.{number_line, hash_lines}

-- the number of a line
same_count : (word : List ℕ) (m n : ℕ) → IsSize m → IsSize n → word ++ number_text m ≡ word ++ number_text n → m ≡ n
same_count word m n fits_m fits_n e = decimal_injective m n (omega arith) (omega arith) (append_cancel_left word (number_text m) (number_text n) e)

-- the lines are cut at the number
pub counted_found : {X : Type 0} (text : X → List ℕ) (xs : List X) (first : X) (word : List ℕ) (count : ℕ) → 1 ≤ length xs → first ≡ get_or xs 0 first
    → text first ≡ word ++ number_text count → count ≤ length (drop 1 xs)
    → map text xs ≡ counted_lines word (map text (take count (drop 1 xs))) ++ map text (drop count (drop 1 xs))
counted_found text [] first word count some is spelled within = absurd (omega arith)
counted_found text (x ∷ more) first word count some is spelled within =
    let entries = map text (take count more) in
    let number : count ≡ length entries = sym (length-map (take count more) text ∙ length-take-le count more within) in
    let head : text x ≡ word ++ number_text (length entries) = ap text (sym is) ∙ spelled ∙ ap (λ (n : ℕ). word ++ number_text n) number in
    let tail : map text more ≡ entries ++ map text (drop count more) = ap (map text) (sym (take-append-drop count more)) ∙ map-append text (take count more) (drop count more) in
    ap (λ (t : List ℕ). t ∷ map text more) head ∙ ap (λ (ts : List (List ℕ)). (word ++ number_text (length entries)) ∷ ts) tail

-- lines that are so have this number
counted_number : {X : Type 0} (text : X → List ℕ) (xs : List X) (first : X) (word : List ℕ) (count : ℕ) → 1 ≤ length xs → first ≡ get_or xs 0 first
    → text first ≡ word ++ number_text count → IsSize count → (entries others : List (List ℕ)) → IsSize (length entries) → map text xs ≡ counted_lines word entries ++ others
    → (count ≡ length entries) × (map text (drop 1 xs) ≡ entries ++ others)
counted_number text [] first word count some is spelled fits entries others size e = absurd (omega arith)
counted_number text (x ∷ more) first word count some is spelled fits entries others size e =
    let head : text x ≡ word ++ number_text (length entries) = cc in
    let tail : map text more ≡ entries ++ others = cc in
    (same_count word count (length entries) fits size (sym (ap text (sym is) ∙ spelled) ∙ head), tail)

pub counted_only : {X : Type 0} (text : X → List ℕ) (xs : List X) (first : X) (word : List ℕ) (count : ℕ) → 1 ≤ length xs → first ≡ get_or xs 0 first
    → text first ≡ word ++ number_text count → IsSize count → (entries others : List (List ℕ)) → IsSize (length entries) → map text xs ≡ counted_lines word entries ++ others
    → (map text (take count (drop 1 xs)) ≡ entries) × (map text (drop count (drop 1 xs)) ≡ others)
counted_only text xs first word count some is spelled fits entries others size e =
    let cut = counted_number text xs first word count some is spelled fits entries others size e in (
      sym (take-map text count (drop 1 xs)) ∙ ap (take count) cut.1 ∙ ap (λ (n : ℕ). take n (entries ++ others)) cut.0 ∙ take-append_seam entries others,
      sym (drop-map text count (drop 1 xs)) ∙ ap (drop count) cut.1 ∙ ap (λ (n : ℕ). drop n (entries ++ others)) cut.0 ∙ drop-append_seam entries others,
    )

pub counted_none : {X : Type 0} (text : X → List ℕ) (xs : List X) (first : X) (word : List ℕ) (count : ℕ) → 1 ≤ length xs → first ≡ get_or xs 0 first
    → text first ≡ word ++ number_text count → IsSize count → length (drop 1 xs) < count → (entries others : List (List ℕ)) → IsSize (length entries)
    → map text xs ≢ counted_lines word entries ++ others
counted_none text xs first word count some is spelled fits few entries others size e =
    let cut = counted_number text xs first word count some is spelled fits entries others size e in
    absurd (omega (arith, few, cut.0, ap length cut.1, length-map (drop 1 xs) text, length-append entries others))

-- a first line that has the word and no number
pub counted_absent : {X : Type 0} (text : X → List ℕ) (xs : List X) (first : X) (word : List ℕ) → 1 ≤ length xs → first ≡ get_or xs 0 first
    → ((n : ℕ) → IsSize n → text first ≢ word ++ number_text n) → (entries others : List (List ℕ)) → IsSize (length entries)
    → map text xs ≢ counted_lines word entries ++ others
counted_absent text [] first word some is none entries others size e = absurd (omega arith)
counted_absent text (x ∷ more) first word some is none entries others size e =
    let head : text x ≡ word ++ number_text (length entries) = cc in
    none (length entries) size (ap text is ∙ head)

-- the same of slices
pub slices_found : {X : Type 0} (text : X → List ℕ) (xs : List X) (first : X) (word : List ℕ) (count : ℕ) (rest : List X) → rest ≡ drop 1 xs → 1 ≤ length xs
    → first ≡ get_or xs 0 first → text first ≡ word ++ number_text count → count ≤ length rest
    → map text xs ≡ counted_lines word (map text (take count rest)) ++ map text (take (length rest - count) (drop count rest))
slices_found {X} text xs first word count rest e some is spelled within =
    let left : take (length rest - count) (drop count rest) ≡ drop count (drop 1 xs) = take_rest rest count ∙ ap (drop count) e in
    counted_found text xs first word count some is spelled (omega (arith, within, ap length e))
    ∙ ap (λ (r : List X). counted_lines word (map text (take count r)) ++ map text (drop count (drop 1 xs))) (sym e)
    ∙ ap (λ (r : List X). counted_lines word (map text (take count rest)) ++ map text r) (sym left)

pub slices_only : {X : Type 0} (text : X → List ℕ) (xs : List X) (first : X) (word : List ℕ) (count : ℕ) (rest : List X) → rest ≡ drop 1 xs → 1 ≤ length xs
    → first ≡ get_or xs 0 first → text first ≡ word ++ number_text count → IsSize count → (entries others : List (List ℕ)) → IsSize (length entries)
    → map text xs ≡ counted_lines word entries ++ others
    → (map text (take count rest) ≡ entries) × (map text (take (length rest - count) (drop count rest)) ≡ others)
slices_only {X} text xs first word count rest e some is spelled fits entries others size lines =
    let cut = counted_only text xs first word count some is spelled fits entries others size lines in
    (ap (λ (r : List X). map text (take count r)) e ∙ cut.0, ap (map text) (take_rest rest count ∙ ap (drop count) e) ∙ cut.1)

-- an audit's lines behind its old entries
abbrev pub after_old : Audit → List (List ℕ)
after_old a = counted_lines (codes "new ") a.new ++ map base64_text a.proof

pub audit_cut : (a : Audit) → audit_lines a ≡ counted_lines (codes "old ") a.old ++ after_old a
audit_cut a = append_assoc (counted_lines (codes "old ") a.old) (counted_lines (codes "new ") a.new) (map base64_text a.proof)

abbrev audit_of : List (List ℕ) → List (List ℕ) → List (List ℕ) → Audit
audit_of old new proof = record { old = old; new = new; proof = proof }

-- the audit that was read of lines
pub audit_found : {X : Type 0} (text : X → List ℕ) (lines old rest new last : List X) (proof : List (List ℕ)) → IsSize (length old) → IsSize (length new) → All IsHash proof
    → map text lines ≡ counted_lines (codes "old ") (map text old) ++ map text rest → map text rest ≡ counted_lines (codes "new ") (map text new) ++ map text last
    → map text last ≡ map base64_text proof
    → IsAuditRead (audit_of (map text old) (map text new) proof) × (map text lines ≡ audit_lines (audit_of (map text old) (map text new) proof))
audit_found text lines old rest new last proof old_count new_count fit first second third =
    let behind : map text rest ≡ after_old (audit_of (map text old) (map text new) proof) =
    second ∙ ap (λ (ls : List (List ℕ)). counted_lines (codes "new ") (map text new) ++ ls) third in (
      record { old_count = subst IsSize (sym (length-map old text)) old_count; new_count = subst IsSize (sym (length-map new text)) new_count; proof = fit },
      first ∙ ap (λ (ls : List (List ℕ)). counted_lines (codes "old ") (map text old) ++ ls) behind ∙ sym (audit_cut (audit_of (map text old) (map text new) proof)),
    )

-- the lines of an audit's text have no newline
pub audit_plain : (a : Audit) → IsAudit a → All HasNoNewline (audit_lines a)
audit_plain a lawful =
    All-append HasNoNewline (counted_lines (codes "old ") a.old ++ counted_lines (codes "new ") a.new) (map base64_text a.proof)
    (All-append HasNoNewline (counted_lines (codes "old ") a.old) (counted_lines (codes "new ") a.new)
    (All-cons HasNoNewline (codes "old " ++ number_text (length a.old)) a.old (number_line (codes "old ") (length a.old) refl lawful.old_count) lawful.old)
    (All-cons HasNoNewline (codes "new " ++ number_text (length a.new)) a.new (number_line (codes "new ") (length a.new) refl lawful.new_count) lawful.new))
    (hash_lines a.proof lawful.proof)

-- the entries of an audit's text are its lines
pub entries_of_audit : (a : Audit) (text : List ℕ) → IsAudit a → text ≡ audit_text a → entries_of text ≡ audit_lines a
entries_of_audit a text lawful e = ap entries_of e ∙ entries_of_lines (audit_lines a) (audit_plain a lawful)

abbrev IsOther : ℕ → Type 0
IsOther byte = byte ≢ 10

onto_plain : (b : ℕ) (es : List (List ℕ)) → b ≢ 10 → All HasNoNewline es → All HasNoNewline (onto_first b es)
onto_plain b [] other each = All-cons HasNoNewline (b ∷ []) [] (All-cons IsOther b [] other (All-nil IsOther)) (All-nil HasNoNewline)
onto_plain b (e ∷ es) other each =
    All-cons HasNoNewline (b ∷ e) es (All-cons IsOther b e other (All-head HasNoNewline e es each)) (All-tail HasNoNewline e es each)

-- no entry of an input has a newline
pub entries_plain : (text : List ℕ) → All HasNoNewline (entries_of text)
unfolding entries_of
entries_plain [] = All-nil HasNoNewline
entries_plain (b ∷ rest) =
    elim (cases_eq b 10) as (λ _. All HasNoNewline (entries_of (b ∷ rest))) [
      | inl same ↦ rw (step_newline b rest same) (All-cons HasNoNewline [] (entries_of rest) (All-nil IsOther) (entries_plain rest))
      | inr other ↦ rw (step_other b rest other) (onto_plain b (entries_of rest) other (entries_plain rest))
    ]

left_of : (xs ys : List (List ℕ)) → All HasNoNewline (xs ++ ys) → All HasNoNewline xs
left_of [] ys each = All-nil HasNoNewline
left_of (x ∷ xs) ys each = All-cons HasNoNewline x xs (All-head HasNoNewline x (xs ++ ys) each) (left_of xs ys (All-tail HasNoNewline x (xs ++ ys) each))

right_of : (xs ys : List (List ℕ)) → All HasNoNewline (xs ++ ys) → All HasNoNewline ys
right_of [] ys each = each
right_of (x ∷ xs) ys each = right_of xs ys (All-tail HasNoNewline x (xs ++ ys) each)

-- an audit that was read of lines without a newline
pub read_is_audit : (a : Audit) → IsAuditRead a → All HasNoNewline (audit_lines a) → IsAudit a
read_is_audit a read each =
    let both = left_of (counted_lines (codes "old ") a.old ++ counted_lines (codes "new ") a.new) (map base64_text a.proof) each in
    let old = left_of (counted_lines (codes "old ") a.old) (counted_lines (codes "new ") a.new) both in
    let new = right_of (counted_lines (codes "old ") a.old) (counted_lines (codes "new ") a.new) both in
    record {
      old_count = read.old_count;
      old = All-tail HasNoNewline (codes "old " ++ number_text (length a.old)) a.old old;
      new_count = read.new_count;
      new = All-tail HasNoNewline (codes "new " ++ number_text (length a.new)) a.new new;
      proof = read.proof;
    }
