-- A body is one request, and its note is of one checkpoint.
use Rattle.std.proofs.Common.{◌≡◌, ◌≢◌, ◌≤◌, ℕ, List, [], ◌∷◌, ◌++◌, sym, ap, subst, ◌∙◌, append_assoc, arith, All}
use Rattle.std.specs.Prelude.{codes}
use Rattle.std.proofs.lemmas.List.Concat.{flat_map-cons}
use Rattle.std.proofs.lemmas.List.Elements.{All-append, All-cons, All-head, All-tail, All-nil}
use Rattle.tl_hash.specs.Bytes.{IsHash}
use Rattle.tl_text.specs.Text.{line, base64_text, number_text, HasNoControl, IsSize}
use Rattle.tl_note.specs.Note.{Note}
use Rattle.tl_text.proofs.Lines.{one_line}
use Rattle.tl_note.proofs.OneNote.{one_note}
use Rattle.tl_text.proofs.PlainText.{base64_plain, number_plain}
use Rattle.tl_checkpoint.proofs.OneText.{one_checkpoint}
use Rattle.tl_witness.specs.Book.{Signed, IsSigned}
use Rattle.tl_witness.specs.Request.{Body, IsRequest, hash_lines}
use Rattle.tl_witness.proofs.ProofLines.{text_of_hash}
use Rattle.tl_witness.proofs.RequestLaws.{old_words}

abbrev after_old : Body → List ℕ
after_old r = hash_lines r.proof ++ 10 ∷ r.note

regroup : (r : Body) (bytes : List ℕ) → IsRequest bytes r → bytes ≡ line (old_words r) ++ after_old r
regroup r bytes is = is.spelled ∙ append_assoc (line (old_words r)) (hash_lines r.proof) (10 ∷ r.note)

old_plain : (n : ℕ) → IsSize n → HasNoControl (codes "old " ++ number_text n)
old_plain n small =
    let P : ℕ → Type 0 = λ b. 32 ≤ b in
    All-append P (codes "old ") (number_text n)
    (All-cons P 111 (108 ∷ 100 ∷ 32 ∷ []) (omega arith) (All-cons P 108 (100 ∷ 32 ∷ []) (omega arith) (All-cons P 100 (32 ∷ []) (omega arith) (All-cons P 32 [] (omega arith) (All-nil P)))))
    (number_plain n (omega arith))

nothing_plain : HasNoControl []
nothing_plain = All-nil (λ (b : ℕ). 32 ≤ b)

opened : (h : List ℕ) (hs : List (List ℕ)) (note : List ℕ) → hash_lines (h ∷ hs) ++ 10 ∷ note ≡ line (base64_text h) ++ (hash_lines hs ++ 10 ∷ note)
opened h hs note =
    ap (λ (t : List ℕ). t ++ 10 ∷ note) (flat_map-cons (λ (hash : List ℕ). line (base64_text hash)) h hs)
    ∙ append_assoc (line (base64_text h)) (hash_lines hs) (10 ∷ note)

-- an empty line is no line of a hash
not_both : (h rest note : List ℕ) → IsHash h → 10 ∷ note ≢ line (base64_text h) ++ rest
not_both h rest note is e = text_of_hash h is (sym (one_line [] (base64_text h) note rest nothing_plain (base64_plain h is.bytes) e).0)

-- the note is what follows the first empty line
one_rest : (xs ys : List (List ℕ)) (m n : List ℕ) → All IsHash xs → All IsHash ys → hash_lines xs ++ 10 ∷ m ≡ hash_lines ys ++ 10 ∷ n → m ≡ n
one_rest [] [] m n x y e = cc
one_rest [] (h ∷ ys) m n x y e = absurd (not_both h _ m (All-head IsHash h ys y) (e ∙ opened h ys n))
one_rest (h ∷ xs) [] m n x y e = absurd (not_both h _ n (All-head IsHash h xs x) (sym e ∙ opened h xs m))
one_rest (h ∷ xs) (k ∷ ys) m n x y e =
    let both = one_line (base64_text h) (base64_text k) _ _ (base64_plain h (All-head IsHash h xs x).bytes) (base64_plain k (All-head IsHash k ys y).bytes) (sym (opened h xs m) ∙ e ∙ opened k ys n) in
    one_rest xs ys m n (All-tail IsHash h xs x) (All-tail IsHash k ys y) both.1

pub one_body_note : (bytes : List ℕ) (r s : Body) → IsRequest bytes r → IsRequest bytes s → r.note ≡ s.note
one_body_note bytes r s a b =
    let rest = one_line (old_words r) (old_words s) (after_old r) (after_old s) (old_plain r.old a.lawful.old) (old_plain s.old b.lawful.old) (sym (regroup r bytes a) ∙ regroup s bytes b) in
    one_rest r.proof s.proof r.note s.note a.lawful.hashes b.lawful.hashes rest.1

pub one_signed_head : (note again : List ℕ) (s t : Signed) → note ≡ again → IsSigned note s → IsSigned again t → s.head ≡ t.head
one_signed_head note again s t same a b =
    let text = one_note again s.text t.text s.lines t.lines (subst (λ (b : List ℕ). Note b s.text s.lines) same a.note) b.note in
    one_checkpoint s.head t.head a.head b.head (sym a.spelled ∙ text.0 ∙ b.spelled)
