-- Bytes that are no request.
use Rattle.std.proofs.Common.{◌≡◌, ◌≢◌, ℕ, ◌<◌, ◌≤◌, List, [], ◌∷◌, ◌++◌, Ok, Err, Result, ap, sym, subst, ◌∙◌, append_assoc, arith}
use Rattle.std.specs.Prelude.{IsUtf8, codes, IsErrAnd, length}
use Rattle.std.specs.Str.{IsAscii}
use Rattle.std.proofs.lemmas.Fmt.{IsAscii-decimal}
use Rattle.std.proofs.lemmas.List.Concat.{flat_map-cons}
use Rattle.std.proofs.lemmas.List.Elements.{All-append, All-cons, All-nil}
use Rattle.std.proofs.lemmas.Str.{IsUtf8-append, IsUtf8-from_ascii, IsAscii-append}
use Rattle.std.proofs.lemmas.Str.Ascii.{IsAscii-nil, IsAscii-cons}
use Rattle.base64.specs.Engines.{standard}
use Rattle.base64.proofs.EngineFacts.{IsAscii-encode_of}
use Rattle.tl_text.specs.Text.{line, number_text, base64_text, HasNoControl, IsSize}
use Rattle.tl_text.proofs.Lines.{one_line}
use Rattle.tl_text.proofs.PlainText.{number_plain}
use Rattle.tl_text.specs.Pieces.{IsNoLine, IsNoSize}
use Rattle.tl_witness.specs.declared.request.AddRequest.{AddRequest}
use Rattle.tl_witness.specs.declared.request.RequestFault.{RequestFault}
use Rattle.tl_witness.specs.declared.request.RequestFault.TheVariants.{OutOfMemory}
use Rattle.tl_witness.specs.Request.{Body, IsRequest, hash_lines, body_text}
use Rattle.tl_witness.specs.ReadRequest.{IsProofText, HasNoProof, ParsesRequest}

-- the first line of a request
abbrev pub old_words : Body → List ℕ
old_words r = codes "old " ++ number_text r.old

abbrev after_old : Body → List ℕ
after_old r = hash_lines r.proof ++ 10 ∷ r.note

regroup : (r : Body) → body_text r ≡ line (old_words r) ++ after_old r
regroup r = append_assoc (line (old_words r)) (hash_lines r.proof) (10 ∷ r.note)

old_plain : (n : ℕ) → IsSize n → HasNoControl (codes "old " ++ number_text n)
old_plain n small =
    let P : ℕ → Type 0 = λ b. 32 ≤ b in
    All-append P (codes "old ") (number_text n)
    (All-cons P 111 (108 ∷ 100 ∷ 32 ∷ []) (omega arith) (All-cons P 108 (100 ∷ 32 ∷ []) (omega arith) (All-cons P 100 (32 ∷ []) (omega arith) (All-cons P 32 [] (omega arith) (All-nil P)))))
    (number_plain n (omega arith))

ascii_lines : (hashes : List (List ℕ)) → IsAscii (hash_lines hashes)
ascii_lines [] = IsAscii-nil
ascii_lines (h ∷ hashes) =
    subst IsAscii (sym (flat_map-cons (λ (hash : List ℕ). line (base64_text hash)) h hashes))
    (IsAscii-append (line (base64_text h)) (hash_lines hashes)
    (IsAscii-append (base64_text h) (10 ∷ []) (IsAscii-encode_of standard h) (IsAscii-cons 10 [] (omega arith) IsAscii-nil)) (ascii_lines hashes))

ascii_old : (n : ℕ) → IsSize n → IsAscii (line (codes "old " ++ number_text n))
ascii_old n small =
    IsAscii-append (codes "old " ++ number_text n) (10 ∷ [])
    (IsAscii-append (codes "old ") (number_text n)
    (IsAscii-cons 111 (108 ∷ 100 ∷ 32 ∷ []) (omega arith) (IsAscii-cons 108 (100 ∷ 32 ∷ []) (omega arith) (IsAscii-cons 100 (32 ∷ []) (omega arith) (IsAscii-cons 32 [] (omega arith) IsAscii-nil))))
    (IsAscii-decimal n (omega arith)))
    (IsAscii-cons 10 [] (omega arith) IsAscii-nil)

-- a request is text
pub request_utf8 : (bytes : List ℕ) (r : Body) → IsRequest bytes r → IsUtf8 bytes
request_utf8 bytes r is =
    subst IsUtf8 (sym is.spelled)
    (IsUtf8-append (line (old_words r) ++ hash_lines r.proof) (10 ∷ r.note)
    (IsUtf8-from_ascii _ (IsAscii-append (line (old_words r)) (hash_lines r.proof) (ascii_old r.old is.lawful.old) (ascii_lines r.proof)))
    (IsUtf8-append (10 ∷ []) r.note (IsUtf8-from_ascii (10 ∷ []) (IsAscii-cons 10 [] (omega arith) IsAscii-nil)) is.lawful.utf8))

-- bytes that aren't text
pub no_text : (bytes : List ℕ) → ¬ (IsUtf8 bytes) → (r : Body) → ¬ (IsRequest bytes r)
no_text bytes none r is = none (request_utf8 bytes r is)

-- a text that doesn't begin with a line
pub no_line : (bytes text : List ℕ) → text ≡ bytes → IsNoLine text → (r : Body) → ¬ (IsRequest bytes r)
no_line bytes text same none r is = none (old_words r) (after_old r) (old_plain r.old is.lawful.old) (same ∙ is.spelled ∙ regroup r)

-- a request's first line, and the rest
pub cut : (bytes text words rest : List ℕ) (r : Body) → text ≡ bytes → HasNoControl words → text ≡ line words ++ rest → IsRequest bytes r
    → (words ≡ old_words r) × IsProofText rest r.proof r.note
cut bytes text words rest r same plain e is =
    let parts = one_line words (old_words r) rest (after_old r) plain (old_plain r.old is.lawful.old) (sym e ∙ same ∙ is.spelled ∙ regroup r) in
    (parts.0, record { few = is.lawful.few; hashes = is.lawful.hashes; utf8 = is.lawful.utf8; spelled = parts.1 })

-- a first line that doesn't begin so
pub no_old : (bytes text words rest : List ℕ) → text ≡ bytes → HasNoControl words → text ≡ line words ++ rest
    → ((digits : List ℕ) → words ≢ codes "old " ++ digits) → (r : Body) → ¬ (IsRequest bytes r)
no_old bytes text words rest same plain e other r is = other (number_text r.old) (cut bytes text words rest r same plain e is).0

-- a first line without a number
pub no_size : (bytes text words rest digits : List ℕ) → text ≡ bytes → HasNoControl words → text ≡ line words ++ rest
    → words ≡ codes "old " ++ digits → IsNoSize digits → (r : Body) → ¬ (IsRequest bytes r)
no_size bytes text words rest digits same plain e begins none r is =
    let whole : codes "old " ++ digits ≡ codes "old " ++ number_text r.old = sym begins ∙ (cut bytes text words rest r same plain e is).0 in
    none r.old is.lawful.old cc

-- a rest that is no proof and note
pub no_rest : (bytes text words rest : List ℕ) → text ≡ bytes → HasNoControl words → text ≡ line words ++ rest → HasNoProof rest → (r : Body) → ¬ (IsRequest bytes r)
no_rest bytes text words rest same plain e none r is = none r.proof r.note (cut bytes text words rest r same plain e is).1

-- the request of these parts
abbrev pub made : ℕ → List (List ℕ) → List ℕ → Body
made old proof note = record { old = old; proof = proof; note = note }

pub request_of : (bytes text words rest digits : List ℕ) (old : ℕ) (proof : List (List ℕ)) (note : List ℕ) → text ≡ bytes → text ≡ line words ++ rest → words ≡ codes "old " ++ digits
    → IsSize old × (digits ≡ number_text old) → IsProofText rest proof note → IsRequest bytes (made old proof note)
request_of bytes text words rest digits old proof note same e begins size is = record {
  lawful = record { old = size.0; few = is.few; hashes = is.hashes; utf8 = is.utf8 };
  spelled = sym same ∙ e ∙ ap (λ (w : List ℕ). line w ++ rest) (begins ∙ ap (λ (d : List ℕ). codes "old " ++ d) size.1)
      ∙ ap (λ (t : List ℕ). line (old_words (made old proof note)) ++ t) is.spelled ∙ sym (regroup (made old proof note));
}

-- allocation fails, for a request whose proof isn't empty
pub parses_refused : {A : Type 0} → (bytes : List ℕ) (b : Body) (r : Result (AddRequest A) RequestFault) → IsErrAnd r (λ e. e ≡ OutOfMemory) → IsRequest bytes b → 0 < length b.proof → ParsesRequest bytes r
parses_refused bytes b (Ok request) refused is some = absurd refused
parses_refused {A = A} bytes b (Err fault) refused is some = subst (λ (f : RequestFault). ParsesRequest {A = A} bytes (Err f)) (sym refused) (b, is, some)
