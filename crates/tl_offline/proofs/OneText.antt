-- A text is one proof, and no proof's text is refused.
use Rattle.std.proofs.Common.{◌≡◌, ◌≢◌, ℕ, ◌+◌, ◌≤◌, List, [], ◌∷◌, ◌++◌, length, sym, ap, ◌∙◌, arith, All, Option, Some, None}
use Rattle.std.specs.Prelude.{IfSome}
use Rattle.std.proofs.lemmas.List.{append_cancel_left, length-append}
use Rattle.std.proofs.lemmas.List.Elements.{All-head}
use Rattle.base64.specs.GeneralPurpose.{IsBytes}
use Rattle.tl_hash.specs.Bytes.{IsHash}
use Rattle.tl_text.specs.Text.{line, base64_text}
use Rattle.tl_text.specs.Pieces.{IsNoHash}
use Rattle.tl_text.proofs.PlainText.{base64_plain}
use Rattle.tl_offline.specs.declared.proof.ProofFault.{ProofFault}
use Rattle.tl_offline.specs.declared.proof.ProofFault.TheVariants.{NoHeader, BadExtra, NoIndex, NoHash, TooMany, NoCheckpoint, OutOfMemory}
use Rattle.tl_offline.specs.ProofText.{TlogProof, IsProof, proof_text, version_line, extra_line, index_line, hash_lines}
use Rattle.tl_offline.specs.ParseProof.{HasNoData, HasNoNewline, HasBadIndex, HasHashes, IsNoProofFor}
use Rattle.tl_offline.proofs.TextLemmas.{anyhow, cut_line, five, three, index_is_no_extra, no_line, no_newline, one_extra, one_front}
use Rattle.tl_offline.proofs.HashLemmas.{GoesOn, first_hash, goes_on, one_end}

-- the lines after the extra data
abbrev after_extra : TlogProof → List ℕ
after_extra p = index_line p.index ++ (hash_lines p.hashes ++ 10 ∷ p.note)

regroup : (p : TlogProof) → proof_text p ≡ version_line ++ (extra_line p.extra ++ after_extra p)
regroup p = five version_line (extra_line p.extra) (index_line p.index) (hash_lines p.hashes) (10 ∷ p.note)

abbrev made : Option (List ℕ) → ℕ → List (List ℕ) → List ℕ → TlogProof
made extra index hashes note = record { extra = extra; index = index; hashes = hashes; note = note }

same_proof : (x y : Option (List ℕ)) (m n : ℕ) (xs ys : List (List ℕ)) (a b : List ℕ) → x ≡ y → m ≡ n → xs ≡ ys → a ≡ b → made x m xs a ≡ made y n ys b
same_proof x y m n xs ys a b e i h t =
    ap (λ (z : Option (List ℕ)). made z m xs a) e ∙ ap (λ (k : ℕ). made y k xs a) i
    ∙ ap (λ (zs : List (List ℕ)). made y n zs a) h ∙ ap (λ (c : List ℕ). made y n ys c) t

-- two proofs with one text are one
pub one_proof : (p q : TlogProof) → IsProof p → IsProof q → proof_text p ≡ proof_text q → p ≡ q
one_proof p q is_p is_q e =
    let front = one_front p.extra q.extra p.index q.index (hash_lines p.hashes ++ 10 ∷ p.note) (hash_lines q.hashes ++ 10 ∷ q.note)
    is_p.extra is_q.extra is_p.index is_q.index (sym (regroup p) ∙ e ∙ regroup q) in
    let end = one_end p.hashes q.hashes p.note q.note is_p.hashes is_q.hashes front.2 in
    same_proof p.extra q.extra p.index q.index p.hashes q.hashes p.note q.note front.0 front.1 end.0 end.1

-- ---- no proof's text is refused

-- what follows the version's line
after_version : (p : TlogProof) (rest : List ℕ) → proof_text p ≡ version_line ++ rest → extra_line p.extra ++ after_extra p ≡ rest
after_version p rest e = append_cancel_left version_line (extra_line p.extra ++ after_extra p) rest (sym (regroup p) ∙ e)

no_bad_extra : (x : Option (List ℕ)) (n : ℕ) (a rest : List ℕ) → IfSome x IsBytes → extra_line x ++ (index_line n ++ a) ≡ rest → HasNoData rest → ⊥
no_bad_extra None n a rest fits e bad = index_is_no_extra n a bad.rest (e ∙ bad.begins)
no_bad_extra (Some x) n a rest fits e bad = bad.bad x (index_line n ++ a) fits (sym e)

no_bad_index : (p : TlogProof) (n : ℕ) → IsProof p → HasBadIndex (proof_text p) n → ⊥
no_bad_index p n is bad =
    let rest = append_cancel_left version_line (extra_line bad.extra ++ bad.rest) (extra_line p.extra ++ after_extra p)
    (sym (three version_line (extra_line bad.extra) bad.rest) ∙ sym bad.begins ∙ regroup p) in
    let cut = one_extra bad.extra p.extra bad.rest (after_extra p) bad.lawful is.extra bad.whole (anyhow p.extra (index_is_no_extra p.index (hash_lines p.hashes ++ 10 ∷ p.note))) rest in
    bad.bad p.index (hash_lines p.hashes ++ 10 ∷ p.note) is.index cut.1

-- what stands behind the first hashes of a proof's text
behind : (p : TlogProof) (hashes : List (List ℕ)) (n : ℕ) (rest : List ℕ) → IsProof p → HasHashes (proof_text p) hashes n rest → GoesOn hashes p.hashes rest p.note
behind p hashes n rest is has =
    let front = one_front has.extra p.extra has.index p.index (hash_lines hashes ++ rest) (hash_lines p.hashes ++ 10 ∷ p.note) has.lawful is.extra has.small is.index
    (sym (five version_line (extra_line has.extra) (index_line has.index) (hash_lines hashes) rest) ∙ sym has.begins ∙ regroup p) in
    goes_on hashes p.hashes rest p.note has.each is.hashes front.2

nothing : HasNoNewline []
nothing = λ k d lt. absurd (omega arith)

no_other_line : (words rest note : List ℕ) (more : List (List ℕ)) → All IsHash more → line words ++ rest ≡ hash_lines more ++ 10 ∷ note → HasNoNewline words → words ≢ [] → IsNoHash words → ⊥
no_other_line words rest note [] each e whole some bad = some (cut_line words [] rest note whole nothing e).0
no_other_line words rest note (h ∷ more) each e whole some bad =
    let is = All-head IsHash h more each in
    bad h is (cut_line words (base64_text h) rest (hash_lines more ++ 10 ∷ note) whole (no_newline (base64_text h) (base64_plain h is.bytes)) (e ∙ first_hash h more (10 ∷ note))).0

no_early_end : (rest note : List ℕ) (more : List (List ℕ)) → HasNoNewline rest → rest ≡ hash_lines more ++ 10 ∷ note → ⊥
no_early_end rest note more none e = no_line rest (hash_lines more) note none e

no_more : (done hashes more : List (List ℕ)) → length done ≡ 64 → length hashes ≤ 63 → hashes ≡ done ++ more → ⊥
no_more done hashes more many few joined = omega (arith, many, few, ap length joined, length-append done more)

pub refuses_none : (p : TlogProof) (fault : ProofFault) → IsProof p → IsNoProofFor (proof_text p) fault → ⊥
refuses_none p NoHeader is bad = bad (extra_line p.extra ++ after_extra p) (regroup p)
refuses_none p BadExtra is bad = no_bad_extra p.extra p.index (hash_lines p.hashes ++ 10 ∷ p.note) bad.0 is.extra (after_version p bad.0 bad.1) bad.2
refuses_none p (NoIndex n) is bad = no_bad_index p n is bad
refuses_none p (NoHash n) is bad =
    let on = behind p bad.hashes n (line bad.words ++ bad.rest) is bad.before in
    no_other_line bad.words bad.rest p.note on.more on.each on.rest bad.whole bad.some bad.bad
refuses_none p (TooMany n) is bad =
    let on = behind p bad.0 (n + 1) bad.1 is bad.3 in
    no_more bad.0 p.hashes on.more bad.2 is.few on.joined
refuses_none p (NoCheckpoint n) is bad =
    let on = behind p bad.hashes n bad.rest is bad.before in
    no_early_end bad.rest p.note on.more bad.ended on.rest
refuses_none p OutOfMemory is bad = bad
