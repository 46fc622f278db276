-- Texts that are no line of a link, by the first field that is wrong.
use Rattle.std.proofs.Common.{◌≡◌, ℕ, ◌<◌, ◌≤◌, List, length, sym, ap, ◌∙◌, arith, All}
use Rattle.std.specs.Prelude.{IsUtf8}
use Rattle.std.proofs.lemmas.Fmt.{decimal_injective}
use Rattle.tl_hash.specs.Bytes.{IsHash}
use Rattle.tl_text.specs.Text.{number_text, base64_text, IsSize, IsOneLine}
use Rattle.tl_witness.specs.declared.chain_fields.Fields.{Fields}
use Rattle.tl_witness.specs.ReadChain.{ShowsFields}
use Rattle.tl_witness.specs.ChainLine.{ChainLine, IsChainLine}
use Rattle.tl_witness.specs.ChainFields.{field, hashes_before, chain_words}
use Rattle.tl_witness.specs.Inner.ChainFields.{HasHashes, HasNoNumber, HasNoHash, HasNoHashes, IsNoChainLine}
use Rattle.tl_witness.proofs.FieldTexts.{one_end}
use Rattle.tl_witness.proofs.FieldLaws.{number_without, hash_without}
use Rattle.tl_witness.proofs.HashFields.{hashes_once}

abbrev pub after_count : ChainLine → List ℕ
after_count l = hashes_before l.step.proof l.origin

abbrev pub after_root : ChainLine → List ℕ
after_root l = field (number_text (length l.step.proof)) (after_count l)

abbrev pub after_size : ChainLine → List ℕ
after_size l = field (base64_text l.step.root) (after_root l)

-- a number in front is one
pub number_cut : (m n : ℕ) (x y : List ℕ) → IsSize m → IsSize n → field (number_text m) x ≡ field (number_text n) y → (m ≡ n) × (x ≡ y)
number_cut m n x y small_m small_n e =
    let cut = one_end 32 (number_text m) (number_text n) x y (number_without m small_m) (number_without n small_n) e in
    (decimal_injective m n (omega arith) (omega arith) cut.0, cut.1)

pub count_size : (l : ChainLine) → IsChainLine l → IsSize (length l.step.proof)
count_size l is = omega (arith, is.few)

-- the size was read, and this is left
pub record HasSize (words left : List ℕ) : Type 0 where
  pub size : ℕ
  pub fits : IsSize size
  pub whole : words ≡ field (number_text size) left

abbrev pub has_size : (words left : List ℕ) (size : ℕ) → IsSize size → words ≡ field (number_text size) left → HasSize words left
has_size words left size fits whole = record { size = size; fits = fits; whole = whole }

size_left : (words left : List ℕ) (l : ChainLine) → HasSize words left → IsChainLine l → words ≡ chain_words l → left ≡ after_size l
size_left words left l read is e = (number_cut read.size l.step.size left (after_size l) read.fits is.size (sym read.whole ∙ e)).1

pub no_root : (words left : List ℕ) → HasSize words left → HasNoHash left → IsNoChainLine words
no_root words left read none = λ l is e. none l.step.root (after_root l) is.root (size_left words left l read is e)

-- the root was read too
pub record HasRoot (words left : List ℕ) : Type 0 where
  pub before : List ℕ
  pub size : HasSize words before
  pub root : List ℕ
  pub is_hash : IsHash root
  pub whole : before ≡ field (base64_text root) left

abbrev pub has_root : (words before left : List ℕ) (root : List ℕ) → HasSize words before → IsHash root → before ≡ field (base64_text root) left → HasRoot words left
has_root words before left root size is_hash whole = record { before = before; size = size; root = root; is_hash = is_hash; whole = whole }

root_left : (words left : List ℕ) (l : ChainLine) → HasRoot words left → IsChainLine l → words ≡ chain_words l → left ≡ after_root l
root_left words left l read is e =
    (one_end 32 (base64_text read.root) (base64_text l.step.root) left (after_root l) (hash_without read.root read.is_hash) (hash_without l.step.root is.root)
    (sym read.whole ∙ size_left words read.before l read.size is e)).1

pub no_count : (words left : List ℕ) → HasRoot words left → HasNoNumber left → IsNoChainLine words
no_count words left read none = λ l is e. none (length l.step.proof) (after_count l) (count_size l is) (root_left words left l read is e)

-- and the number of hashes
pub record HasCount (words : List ℕ) (count : ℕ) (left : List ℕ) : Type 0 where
  pub before : List ℕ
  pub root : HasRoot words before
  pub fits : IsSize count
  pub whole : before ≡ field (number_text count) left

abbrev pub has_count : (words before left : List ℕ) (count : ℕ) → HasRoot words before → IsSize count → before ≡ field (number_text count) left → HasCount words count left
has_count words before left count root fits whole = record { before = before; root = root; fits = fits; whole = whole }

count_left : (words : List ℕ) (count : ℕ) (left : List ℕ) (l : ChainLine) → HasCount words count left → IsChainLine l → words ≡ chain_words l
    → (count ≡ length l.step.proof) × (left ≡ after_count l)
count_left words count left l read is e =
    number_cut count (length l.step.proof) left (after_count l) read.fits (count_size l is) (sym read.whole ∙ root_left words read.before l read.root is e)

pub too_many : (words : List ℕ) (count : ℕ) (left : List ℕ) → HasCount words count left → 63 < count → IsNoChainLine words
too_many words count left read many = λ l is e. absurd (omega (arith, is.few, (count_left words count left l read is e).0))

pub no_proof : (words : List ℕ) (count : ℕ) (left : List ℕ) → HasCount words count left → HasNoHashes count left → IsNoChainLine words
no_proof words count left read none = λ l is e.
    let cut = count_left words count left l read is e in
    none l.step.proof l.origin is.hashes (sym cut.0) cut.1

pub no_origin : (words : List ℕ) (count : ℕ) (left origin : List ℕ) (proof : List (List ℕ)) → HasCount words count left → All IsHash proof → length proof ≡ count
    → left ≡ hashes_before proof origin → ¬ (IsOneLine origin) → IsNoChainLine words
no_origin words count left origin proof read each number whole none = λ l is e.
    let cut = count_left words count left l read is e in
    let same : origin ≡ l.origin = (hashes_once proof l.step.proof origin l.origin each is.hashes (number ∙ cut.0) (sym whole ∙ cut.1)).1 in
    none (rw same is.origin)

-- the fields of a line, one after another
pub fields_shown : (words before after : List ℕ) (fields : Fields) → IsSize fields.size → words ≡ field (number_text fields.size) before → IsHash fields.root → before ≡ field (base64_text fields.root) after
    → after ≡ field (number_text fields.count) fields.hashes.now → fields.count ≤ 63 → HasHashes fields.count fields.hashes.now fields.origin.now → IsUtf8 fields.origin.now → IsOneLine fields.origin.now → ShowsFields words fields
fields_shown words before after fields small first is_hash second third few has utf8 one =
    let proof = has.0 in
    record {
      proof = proof;
      hashes = has.1;
      line = record {
        lawful = record { origin = one; utf8 = utf8; size = small; root = is_hash; few = omega (arith, few, has.1.number); hashes = has.1.each };
        spelled = first
            ∙ ap (field (number_text fields.size)) (second
            ∙ ap (field (base64_text fields.root)) (third
            ∙ ap (field (number_text fields.count)) has.1.whole
            ∙ ap (λ (n : ℕ). field (number_text n) (hashes_before proof fields.origin.now)) (sym has.1.number)));
      };
    }
