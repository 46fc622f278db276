-- Reading the hashes of a chain line, one after the other.
use Rattle.std.proofs.Common.{◌≡◌, ℕ, ◌+◌, ◌<◌, ◌≤◌, List, [], ◌∷◌, ◌++◌, length, refl, sym, ap, ◌∙◌, arith, All}
use Rattle.std.specs.Prelude.{IsUtf8}
use Rattle.std.proofs.lemmas.List.{length-append}
use Rattle.std.proofs.lemmas.List.Elements.{All-nil, All-head, All-tail, All-push}
use Rattle.tl_hash.specs.Bytes.{IsHash}
use Rattle.tl_text.specs.Text.{base64_text}
use Rattle.tl_text.proofs.PlainText.{base64_once}
use Rattle.tl_witness.specs.ChainFields.{field, hashes_before, AreHashes}
use Rattle.tl_witness.specs.Inner.ChainFields.{HasHashes, HasNoHash, HasNoHashes}
use Rattle.tl_witness.proofs.FieldTexts.{one_end}
use Rattle.tl_witness.proofs.FieldLaws.{hash_without}

-- the hashes that were read, of at most `count`, and the text that is left
pub record HasRead (count : ℕ) (text : List ℕ) (done : List (List ℕ)) (left : List ℕ) : Type 0 where
  pub utf8 : IsUtf8 left
  pub each : All IsHash done
  pub few : length done ≤ count
  pub whole : text ≡ hashes_before done left

-- one hash more
fields_more : (done : List (List ℕ)) (hash rest : List ℕ) → hashes_before (done ++ hash ∷ []) rest ≡ hashes_before done (field (base64_text hash) rest)
fields_more [] hash rest = refl
fields_more (d ∷ done) hash rest = ap (λ (t : List ℕ). field (base64_text d) t) (fields_more done hash rest)

pub reads_more : (count : ℕ) (text left rest hash : List ℕ) (done : List (List ℕ)) → HasRead count text done left → length done < count → IsHash hash
    → left ≡ field (base64_text hash) rest → IsUtf8 rest → HasRead count text (done ++ hash ∷ []) rest
reads_more count text left rest hash done read room is e utf8 = record {
  utf8 = utf8;
  each = All-push IsHash done hash read.each is;
  few = omega (arith, length-append done (hash ∷ []));
  whole = read.whole ∙ ap (hashes_before done) e ∙ sym (fields_more done hash rest);
}

-- what is left goes on as the text does, with a hash if some are missing
after_done : (done hashes : List (List ℕ)) (left rest : List ℕ) → All IsHash done → All IsHash hashes → length done < length hashes
    → hashes_before hashes rest ≡ hashes_before done left → HasNoHash left → ⊥
after_done [] [] left rest d h less e none = absurd (omega arith)
after_done [] (b ∷ hashes) left rest d h less e none = none b (hashes_before hashes rest) (All-head IsHash b hashes h) (sym e)
after_done (a ∷ done) [] left rest d h less e none = absurd (omega arith)
after_done (a ∷ done) (b ∷ hashes) left rest d h less e none =
    let cut = one_end 32 (base64_text b) (base64_text a) (hashes_before hashes rest) (hashes_before done left)
    (hash_without b (All-head IsHash b hashes h)) (hash_without a (All-head IsHash a done d)) e in
    after_done done hashes left rest (All-tail IsHash a done d) (All-tail IsHash b hashes h) (omega arith) cut.1 none

pub no_hashes : (count : ℕ) (text left : List ℕ) (done : List (List ℕ)) → HasRead count text done left → length done < count → HasNoHash left → HasNoHashes count text
no_hashes count text left done read room none = λ hashes rest each number e.
    after_done done hashes left rest read.each each (omega arith) (sym e ∙ read.whole) none

-- this many hashes were passed over
pub record HasSkipped (count : ℕ) (text : List ℕ) (number : ℕ) (left : List ℕ) : Type 0 where
  pub done : List (List ℕ)
  pub read : HasRead count text done left
  pub counted : length done ≡ number

pub skips_none : (count : ℕ) (text : List ℕ) → IsUtf8 text → HasSkipped count text 0 text
skips_none count text utf8 = record { done = []; read = record { utf8 = utf8; each = All-nil IsHash; few = omega arith; whole = refl }; counted = refl }

pub skips_more : (count : ℕ) (text left rest hash : List ℕ) (number : ℕ) → HasSkipped count text number left → number < count → IsHash hash → left ≡ field (base64_text hash) rest → IsUtf8 rest → HasSkipped count text (number + 1) rest
skips_more count text left rest hash number has less is e utf8 = record {
  done = has.done ++ hash ∷ [];
  read = reads_more count text left rest hash has.done has.read (omega (arith, has.counted)) is e utf8;
  counted = omega (arith, length-append has.done (hash ∷ []), has.counted);
}

pub skips_all : (count : ℕ) (text left : List ℕ) (number : ℕ) → HasSkipped count text number left → count ≤ number → HasHashes count text left
skips_all count text left number has all = (has.done, record { each = has.read.each; number = omega (arith, has.counted, has.read.few); whole = has.read.whole })

pub no_skip : (count : ℕ) (text left : List ℕ) (number : ℕ) → HasSkipped count text number left → number < count → HasNoHash left → HasNoHashes count text
no_skip count text left number has less none = no_hashes count text left has.done has.read (omega (arith, has.counted)) none

-- if a text begins with `count` hashes and fewer were read, another one follows
pub goes_on : (count : ℕ) (text left rest : List ℕ) (done : List (List ℕ)) → HasRead count text done left → length done < count → HasNoHash left → HasHashes count text rest → ⊥
goes_on count text left rest done read room none is = no_hashes count text left done read room none is.0 rest is.1.each is.1.number is.1.whole

-- as many hashes before a text are one list
pub hashes_once : (xs ys : List (List ℕ)) (x y : List ℕ) → All IsHash xs → All IsHash ys → length xs ≡ length ys → hashes_before xs x ≡ hashes_before ys y → (xs ≡ ys) × (x ≡ y)
hashes_once [] [] x y each others number e = (refl, e)
hashes_once [] (b ∷ ys) x y each others number e = absurd (omega arith)
hashes_once (a ∷ xs) [] x y each others number e = absurd (omega arith)
hashes_once (a ∷ xs) (b ∷ ys) x y each others number e =
    let is_a = All-head IsHash a xs each in
    let is_b = All-head IsHash b ys others in
    let cut = one_end 32 (base64_text a) (base64_text b) (hashes_before xs x) (hashes_before ys y) (hash_without a is_a) (hash_without b is_b) e in
    let same : a ≡ b = base64_once a b is_a.bytes is_b.bytes cut.0 in
    let rest = hashes_once xs ys x y (All-tail IsHash a xs each) (All-tail IsHash b ys others) (omega arith) cut.1 in
    (ap (λ (h : List ℕ). h ∷ xs) same ∙ ap (λ (hs : List (List ℕ)). b ∷ hs) rest.0, rest.1)

-- all hashes were read
pub all_read : (count : ℕ) (text left : List ℕ) (done hashes : List (List ℕ)) (rest : List ℕ) → HasRead count text done left → count ≤ length done → AreHashes count text hashes rest → done ≡ hashes
all_read count text left done hashes rest read all is =
    (hashes_once done hashes left rest read.each is.each (omega (arith, all, read.few, is.number)) (sym read.whole ∙ is.whole)).0
