-- A text is refused for one reason.
use Rattle.std.proofs.Common.{◌≡◌, ℕ, ◌+◌, ◌<◌, List, [], ◌∷◌, ◌++◌, length, refl, sym, ap, ◌∙◌, append_assoc, arith, All, Option, Some, None}
use Rattle.std.specs.Prelude.{IfNone, IfSome}
use Rattle.std.proofs.lemmas.List.{append_cancel_left}
use Rattle.std.proofs.lemmas.List.Elements.{All-head, All-tail}
use Rattle.base64.specs.GeneralPurpose.{IsBytes}
use Rattle.tl_hash.specs.Bytes.{IsHash}
use Rattle.tl_text.specs.Text.{line, base64_text}
use Rattle.tl_text.proofs.Lines.{one_line}
use Rattle.tl_text.proofs.PlainText.{base64_once, base64_plain}
use Rattle.tl_offline.specs.declared.proof.ProofFault.{ProofFault}
use Rattle.tl_offline.specs.declared.proof.ProofFault.TheVariants.{NoHeader, BadExtra, NoIndex, NoHash, TooMany, NoCheckpoint, OutOfMemory}
use Rattle.tl_offline.specs.ProofText.{version_line, extra_line, index_line, hash_lines}
use Rattle.tl_offline.specs.ParseProof.{HasBadExtra, HasBadHash, HasBadIndex, HasHashes, HasNoData, HasNoEnd, HasNoExtra, HasNoVersion, HasTooMany, IsNoProofFor, index_place}
use Rattle.tl_offline.proofs.TextLemmas.{anyhow, cut_line, five, three, index_is_no_extra, no_line, no_newline, one_extra, one_front}
use Rattle.tl_offline.proofs.HashLemmas.{first_hash}

abbrev hash_line : List ℕ → List ℕ
hash_line hash = line (base64_text hash)

-- ---- where two readings of hashes part

-- the text begins with the line of a hash
abbrev BeginsWithHash : List ℕ → Type 0
BeginsWithHash text = (hash : List ℕ) × (rest : List ℕ) × IsHash hash × (text ≡ hash_line hash ++ rest)

-- the one list of hashes is the other and the rests are the same, or one of them goes on where the other ends
data Parts (hs ks : List (List ℕ)) (a b : List ℕ) : Type 0 where
  same : hs ≡ ks → a ≡ b → Parts hs ks a b
  shorter : length hs < length ks → BeginsWithHash a → Parts hs ks a b
  longer : length ks < length hs → BeginsWithHash b → Parts hs ks a b

parts_more : (h k : List ℕ) (hs ks : List (List ℕ)) (a b : List ℕ) → h ≡ k → Parts hs ks a b → Parts (h ∷ hs) (k ∷ ks) a b
parts_more h k hs ks a b e (same t r) = same (ap (λ (x : List ℕ). x ∷ hs) e ∙ ap (λ (xs : List (List ℕ)). k ∷ xs) t) r
parts_more h k hs ks a b e (shorter less begins) = shorter (omega (arith, less)) begins
parts_more h k hs ks a b e (longer less begins) = longer (omega (arith, less)) begins

parts : (hs ks : List (List ℕ)) (a b : List ℕ) → All IsHash hs → All IsHash ks → hash_lines hs ++ a ≡ hash_lines ks ++ b → Parts hs ks a b
parts [] [] a b p q e = same refl e
parts [] (k ∷ ks) a b p q e = shorter (omega arith) (k, hash_lines ks ++ b, All-head IsHash k ks q, e ∙ first_hash k ks b)
parts (h ∷ hs) [] a b p q e = longer (omega arith) (h, hash_lines hs ++ a, All-head IsHash h hs p, sym e ∙ first_hash h hs a)
parts (h ∷ hs) (k ∷ ks) a b p q e =
    let is_h = All-head IsHash h hs p in
    let is_k = All-head IsHash k ks q in
    let cut = one_line (base64_text h) (base64_text k) (hash_lines hs ++ a) (hash_lines ks ++ b) (base64_plain h is_h.bytes) (base64_plain k is_k.bytes) (sym (first_hash h hs a) ∙ e ∙ first_hash k ks b) in
    parts_more h k hs ks a b (base64_once h k is_h.bytes is_k.bytes cut.0) (parts hs ks a b (All-tail IsHash h hs p) (All-tail IsHash k ks q) cut.1)

-- ---- two readings of one text up to some hashes

record Both (hs ks : List (List ℕ)) (m n : ℕ) (a b : List ℕ) : Type 0 where
  pub parted : Parts hs ks a b
  pub places : m + length ks ≡ n + length hs

both : (text : List ℕ) (hs ks : List (List ℕ)) (m n : ℕ) (a b : List ℕ) → HasHashes text hs m a → HasHashes text ks n b → Both hs ks m n a b
both text hs ks m n a b one other =
    let front = one_front one.extra other.extra one.index other.index (hash_lines hs ++ a) (hash_lines ks ++ b) one.lawful other.lawful one.small other.small
    (sym (five version_line (extra_line one.extra) (index_line one.index) (hash_lines hs) a) ∙ sym one.begins ∙ other.begins ∙ five version_line (extra_line other.extra) (index_line other.index) (hash_lines ks) b) in
    record {
      parted = parts hs ks a b one.each other.each front.2;
      places = omega (arith, one.place, other.place, ap index_place front.0);
    }

-- what is no hash isn't the line of one
no_hash_begins : (text : List ℕ) (n : ℕ) → (bad : HasBadHash text n) → BeginsWithHash (line bad.words ++ bad.rest) → ⊥
no_hash_begins text n bad begins =
    bad.bad begins.0 begins.2 (cut_line bad.words (base64_text begins.0) bad.rest begins.1 bad.whole (no_newline (base64_text begins.0) (base64_plain begins.0 begins.2.bytes)) begins.3).0

no_end_begins : (text : List ℕ) (n : ℕ) → (bad : HasNoEnd text n) → BeginsWithHash bad.rest → ⊥
no_end_begins text n bad begins =
    no_line bad.rest (base64_text begins.0) begins.1 bad.ended (begins.3 ∙ append_assoc (base64_text begins.0) (10 ∷ []) begins.1)

same_place : (hs ks : List (List ℕ)) (m n : ℕ) → hs ≡ ks → m + length ks ≡ n + length hs → m ≡ n
same_place hs ks m n e places = omega (arith, places, ap length e)

two_hashes : (text : List ℕ) (m n : ℕ) → HasBadHash text m → HasBadHash text n → m ≡ n
two_hashes text m n one other =
    let b = both text one.hashes other.hashes m n (line one.words ++ one.rest) (line other.words ++ other.rest) one.before other.before in
    elim b.parted [
      | same e r ↦ same_place one.hashes other.hashes m n e b.places
      | shorter less begins ↦ absurd (no_hash_begins text m one begins)
      | longer less begins ↦ absurd (no_hash_begins text n other begins)
    ]

two_ends : (text : List ℕ) (m n : ℕ) → HasNoEnd text m → HasNoEnd text n → m ≡ n
two_ends text m n one other =
    let b = both text one.hashes other.hashes m n one.rest other.rest one.before other.before in
    elim b.parted [
      | same e r ↦ same_place one.hashes other.hashes m n e b.places
      | shorter less begins ↦ absurd (no_end_begins text m one begins)
      | longer less begins ↦ absurd (no_end_begins text n other begins)
    ]

hash_and_end : (text : List ℕ) (m n : ℕ) → HasBadHash text m → HasNoEnd text n → ⊥
hash_and_end text m n one other =
    let b = both text one.hashes other.hashes m n (line one.words ++ one.rest) other.rest one.before other.before in
    elim b.parted [
      | same e r ↦ no_line other.rest one.words one.rest other.ended (sym r ∙ append_assoc one.words (10 ∷ []) one.rest)
      | shorter less begins ↦ no_hash_begins text m one begins
      | longer less begins ↦ no_end_begins text n other begins
    ]

many_and_hash : (text : List ℕ) (m n : ℕ) → HasTooMany text m → HasBadHash text n → ⊥
many_and_hash text m n one other =
    let few = other.few in
    let b = both text one.0 other.hashes (m + 1) n one.1 (line other.words ++ other.rest) one.3 other.before in
    elim b.parted [
      | same e r ↦ omega (arith, few, one.2, ap length e)
      | shorter less begins ↦ omega (arith, few, one.2, less)
      | longer less begins ↦ no_hash_begins text n other begins
    ]

many_and_end : (text : List ℕ) (m n : ℕ) → HasTooMany text m → HasNoEnd text n → ⊥
many_and_end text m n one other =
    let few = other.few in
    let b = both text one.0 other.hashes (m + 1) n one.1 other.rest one.3 other.before in
    elim b.parted [
      | same e r ↦ omega (arith, few, one.2, ap length e)
      | shorter less begins ↦ omega (arith, few, one.2, less)
      | longer less begins ↦ no_end_begins text n other begins
    ]

two_many : (text : List ℕ) (m n : ℕ) → HasTooMany text m → HasTooMany text n → m ≡ n
two_many text m n one other =
    let b = both text one.0 other.0 (m + 1) (n + 1) one.1 other.1 one.3 other.3 in
    omega (arith, b.places, one.2, other.2)

-- ---- the lines before the hashes

-- the version's line is there, and extra data are read, or there are none
record HasFront (text : List ℕ) : Type 0 where
  pub extra : Option (List ℕ)
  pub rest : List ℕ
  pub begins : text ≡ version_line ++ (extra_line extra ++ rest)
  pub lawful : IfSome extra IsBytes
  pub whole : IfNone extra (HasNoExtra rest)

of_index : (text : List ℕ) (n : ℕ) → HasBadIndex text n → HasFront text
of_index text n bad = record {
  extra = bad.extra;
  rest = bad.rest;
  begins = bad.begins ∙ three version_line (extra_line bad.extra) bad.rest;
  lawful = bad.lawful;
  whole = bad.whole;
}

of_hashes : (text : List ℕ) (hs : List (List ℕ)) (n : ℕ) (a : List ℕ) → HasHashes text hs n a → HasFront text
of_hashes text hs n a has = record {
  extra = has.extra;
  rest = index_line has.index ++ (hash_lines hs ++ a);
  begins = has.begins ∙ five version_line (extra_line has.extra) (index_line has.index) (hash_lines hs) a;
  lawful = has.lawful;
  whole = anyhow has.extra (index_is_no_extra has.index (hash_lines hs ++ a));
}

no_data : (x : Option (List ℕ)) (a rest : List ℕ) → IfSome x IsBytes → IfNone x (HasNoExtra a) → rest ≡ extra_line x ++ a → HasNoData rest → ⊥
no_data None a rest fits whole e bad = whole bad.rest (sym e ∙ bad.begins)
no_data (Some x) a rest fits whole e bad = bad.bad x a fits e

extra_and_front : (text : List ℕ) → HasBadExtra text → HasFront text → ⊥
extra_and_front text bad front =
    no_data front.extra front.rest bad.0 front.lawful front.whole (append_cancel_left version_line bad.0 (extra_line front.extra ++ front.rest) (sym bad.1 ∙ front.begins)) bad.2

two_indexes : (text : List ℕ) (m n : ℕ) → HasBadIndex text m → HasBadIndex text n → m ≡ n
two_indexes text m n one other =
    let a = of_index text m one in
    let b = of_index text n other in
    let rest = append_cancel_left version_line (extra_line one.extra ++ one.rest) (extra_line other.extra ++ other.rest)
    (sym (three version_line (extra_line one.extra) one.rest) ∙ sym one.begins ∙ other.begins ∙ three version_line (extra_line other.extra) other.rest) in
    let cut = one_extra one.extra other.extra one.rest other.rest one.lawful other.lawful one.whole other.whole rest in
    one.place ∙ ap index_place cut.0 ∙ sym other.place

index_and_hashes : (text : List ℕ) (m : ℕ) (hs : List (List ℕ)) (n : ℕ) (a : List ℕ) → HasBadIndex text m → HasHashes text hs n a → ⊥
index_and_hashes text m hs n a bad has =
    let rest = append_cancel_left version_line (extra_line bad.extra ++ bad.rest) (extra_line has.extra ++ (index_line has.index ++ (hash_lines hs ++ a)))
    (sym (three version_line (extra_line bad.extra) bad.rest) ∙ sym bad.begins ∙ has.begins ∙ five version_line (extra_line has.extra) (index_line has.index) (hash_lines hs) a) in
    let cut = one_extra bad.extra has.extra bad.rest (index_line has.index ++ (hash_lines hs ++ a)) bad.lawful has.lawful bad.whole (anyhow has.extra (index_is_no_extra has.index (hash_lines hs ++ a))) rest in
    bad.bad has.index (hash_lines hs ++ a) has.small cut.1

no_version : (text : List ℕ) → HasNoVersion text → HasFront text → ⊥
no_version text none front = none (extra_line front.extra ++ front.rest) front.begins

of_hash : (text : List ℕ) (n : ℕ) → HasBadHash text n → HasFront text
of_hash text n bad = of_hashes text bad.hashes n (line bad.words ++ bad.rest) bad.before

of_many : (text : List ℕ) (n : ℕ) → HasTooMany text n → HasFront text
of_many text n bad = of_hashes text bad.0 (n + 1) bad.1 bad.3

of_end : (text : List ℕ) (n : ℕ) → HasNoEnd text n → HasFront text
of_end text n bad = of_hashes text bad.hashes n bad.rest bad.before

-- ---- no two faults

pub one_fault : (text : List ℕ) (f g : ProofFault) → IsNoProofFor text f → IsNoProofFor text g → f ≡ g
one_fault text NoHeader NoHeader p q = refl
one_fault text NoHeader BadExtra p q = absurd (p q.0 q.1)
one_fault text NoHeader (NoIndex n) p q = absurd (no_version text p (of_index text n q))
one_fault text NoHeader (NoHash n) p q = absurd (no_version text p (of_hash text n q))
one_fault text NoHeader (TooMany n) p q = absurd (no_version text p (of_many text n q))
one_fault text NoHeader (NoCheckpoint n) p q = absurd (no_version text p (of_end text n q))
one_fault text BadExtra NoHeader p q = absurd (q p.0 p.1)
one_fault text BadExtra BadExtra p q = refl
one_fault text BadExtra (NoIndex n) p q = absurd (extra_and_front text p (of_index text n q))
one_fault text BadExtra (NoHash n) p q = absurd (extra_and_front text p (of_hash text n q))
one_fault text BadExtra (TooMany n) p q = absurd (extra_and_front text p (of_many text n q))
one_fault text BadExtra (NoCheckpoint n) p q = absurd (extra_and_front text p (of_end text n q))
one_fault text (NoIndex m) NoHeader p q = absurd (no_version text q (of_index text m p))
one_fault text (NoIndex m) BadExtra p q = absurd (extra_and_front text q (of_index text m p))
one_fault text (NoIndex m) (NoIndex n) p q = ap NoIndex (two_indexes text m n p q)
one_fault text (NoIndex m) (NoHash n) p q = absurd (index_and_hashes text m q.hashes n (line q.words ++ q.rest) p q.before)
one_fault text (NoIndex m) (TooMany n) p q = absurd (index_and_hashes text m q.0 (n + 1) q.1 p q.3)
one_fault text (NoIndex m) (NoCheckpoint n) p q = absurd (index_and_hashes text m q.hashes n q.rest p q.before)
one_fault text (NoHash m) NoHeader p q = absurd (no_version text q (of_hash text m p))
one_fault text (NoHash m) BadExtra p q = absurd (extra_and_front text q (of_hash text m p))
one_fault text (NoHash m) (NoIndex n) p q = absurd (index_and_hashes text n p.hashes m (line p.words ++ p.rest) q p.before)
one_fault text (NoHash m) (NoHash n) p q = ap NoHash (two_hashes text m n p q)
one_fault text (NoHash m) (TooMany n) p q = absurd (many_and_hash text n m q p)
one_fault text (NoHash m) (NoCheckpoint n) p q = absurd (hash_and_end text m n p q)
one_fault text (TooMany m) NoHeader p q = absurd (no_version text q (of_many text m p))
one_fault text (TooMany m) BadExtra p q = absurd (extra_and_front text q (of_many text m p))
one_fault text (TooMany m) (NoIndex n) p q = absurd (index_and_hashes text n p.0 (m + 1) p.1 q p.3)
one_fault text (TooMany m) (NoHash n) p q = absurd (many_and_hash text m n p q)
one_fault text (TooMany m) (TooMany n) p q = ap TooMany (two_many text m n p q)
one_fault text (TooMany m) (NoCheckpoint n) p q = absurd (many_and_end text m n p q)
one_fault text (NoCheckpoint m) NoHeader p q = absurd (no_version text q (of_end text m p))
one_fault text (NoCheckpoint m) BadExtra p q = absurd (extra_and_front text q (of_end text m p))
one_fault text (NoCheckpoint m) (NoIndex n) p q = absurd (index_and_hashes text n p.hashes m p.rest q p.before)
one_fault text (NoCheckpoint m) (NoHash n) p q = absurd (hash_and_end text n m q p)
one_fault text (NoCheckpoint m) (TooMany n) p q = absurd (many_and_end text n m q p)
one_fault text (NoCheckpoint m) (NoCheckpoint n) p q = ap NoCheckpoint (two_ends text m n p q)
one_fault text OutOfMemory g p q = absurd p
one_fault text f OutOfMemory p q = absurd q
