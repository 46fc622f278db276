-- Reading the hashes of a proof, one after the other.
use Rattle.std.proofs.Common.{◌≡◌, ◌≢◌, ℕ, ◌+◌, ◌-◌, ◌<◌, ◌≤◌, List, [], ◌∷◌, ◌++◌, length, refl, sym, ap, ◌∙◌, append_assoc, append-nil, arith, All}
use Rattle.std.specs.Prelude.{IsUtf8}
use Rattle.std.proofs.lemmas.List.{length-append}
use Rattle.std.proofs.lemmas.List.Elements.{All-nil, All-head, All-tail, All-push}
use Rattle.std.proofs.lemmas.List.Concat.{flat_map-cons, flat_map-append}
use Rattle.base64.specs.Rfc4648.{encode_symbols}
use Rattle.tl_hash.specs.Bytes.{IsHash}
use Rattle.tl_text.specs.Text.{line, base64_text, HasNoControl}
use Rattle.tl_text.proofs.Lines.{one_line}
use Rattle.tl_text.proofs.PlainText.{base64_plain, base64_once}
use Rattle.tl_text.specs.Pieces.{IsNoLine, IsNoHash}
use Rattle.tl_witness.specs.Request.{hash_lines}
use Rattle.tl_witness.specs.ReadRequest.{IsProofText, HasProof, HasNoHashLine}

-- what was read, and what is left to read
pub record HasRead (text : List ℕ) (done : List (List ℕ)) (left : List ℕ) : Type 0 where
  pub utf8 : IsUtf8 left
  pub each : All IsHash done
  pub few : length done ≤ 63
  pub whole : hash_lines done ++ left ≡ text

-- what is left is the lines of these hashes, an empty line and the note
pub record Continue (left note : List ℕ) (count : ℕ) (done proof : List (List ℕ)) : Type 0 where
  pub more : List (List ℕ)
  pub joined : proof ≡ done ++ more
  pub each : All IsHash more
  pub few : length more ≤ count
  pub rest : left ≡ hash_lines more ++ 10 ∷ note

abbrev hash_line : List ℕ → List ℕ
hash_line hash = line (base64_text hash)

-- no hash has an empty text
pub text_of_hash : (hash : List ℕ) → IsHash hash → base64_text hash ≢ []
unfolding encode_symbols
text_of_hash hash is e =
    let none : hash ≡ [] = base64_once hash [] is.bytes (λ i. omega arith) e in
    absurd (omega (arith, is.length, ap length none))

after_done : (done proof : List (List ℕ)) (left note : List ℕ) (count : ℕ) → All IsHash done → All IsHash proof → length proof ≤ length done + count
    → hash_lines proof ++ 10 ∷ note ≡ hash_lines done ++ left → Continue left note count done proof
after_done [] proof left note count d p few e = record { more = proof; joined = refl; each = p; few = omega arith; rest = sym e }
after_done (a ∷ done) [] left note count d p few e =
    let one = All-head IsHash a done d in
    let opened : line [] ++ note ≡ line (base64_text a) ++ (hash_lines done ++ left) = e ∙ ap (λ (t : List ℕ). t ++ left) (flat_map-cons hash_line a done) ∙ append_assoc (hash_line a) (hash_lines done) left in
    let cut = one_line [] (base64_text a) note (hash_lines done ++ left) (λ k d lt. absurd (omega arith)) (base64_plain a one.bytes) opened in
    absurd (text_of_hash a one (sym cut.0))
after_done (a ∷ done) (b ∷ proof) left note count d p few e =
    let opened : line (base64_text b) ++ (hash_lines proof ++ 10 ∷ note) ≡ line (base64_text a) ++ (hash_lines done ++ left) =
    sym (append_assoc (hash_line b) (hash_lines proof) (10 ∷ note)) ∙ ap (λ (t : List ℕ). t ++ 10 ∷ note) (sym (flat_map-cons hash_line b proof))
    ∙ e ∙ ap (λ (t : List ℕ). t ++ left) (flat_map-cons hash_line a done) ∙ append_assoc (hash_line a) (hash_lines done) left in
    let cut = one_line (base64_text b) (base64_text a) (hash_lines proof ++ 10 ∷ note) (hash_lines done ++ left)
    (base64_plain b (All-head IsHash b proof p).bytes) (base64_plain a (All-head IsHash a done d).bytes) opened in
    let same : b ≡ a = base64_once b a (All-head IsHash b proof p).bytes (All-head IsHash a done d).bytes cut.0 in
    let others = after_done done proof left note count (All-tail IsHash a done d) (All-tail IsHash b proof p) (omega arith) cut.1 in
    record {
      more = others.more;
      joined = ap (λ (h : List ℕ). h ∷ proof) same ∙ ap (λ (hs : List (List ℕ)). a ∷ hs) others.joined;
      each = others.each;
      few = others.few;
      rest = others.rest;
    }

-- what is left goes on as the text does
pub continue : (text left note : List ℕ) (done proof : List (List ℕ)) (count : ℕ) → HasRead text done left → count + length done ≡ 63
    → IsProofText text proof note → Continue left note count done proof
continue text left note done proof count read room is =
    after_done done proof left note count read.each is.hashes (let few = is.few in omega arith) (sym is.spelled ∙ sym read.whole)

-- what doesn't begin with an empty line goes on with a hash
pub record Next (left note : List ℕ) (count : ℕ) : Type 0 where
  pub hash : List ℕ
  pub more : List (List ℕ)
  pub is_hash : IsHash hash
  pub few : length more + 1 ≤ count
  pub rest : left ≡ line (base64_text hash) ++ (hash_lines more ++ 10 ∷ note)

next_of : (left note : List ℕ) (count : ℕ) (more : List (List ℕ)) → ((rest : List ℕ) → left ≢ 10 ∷ rest) → All IsHash more → length more ≤ count
    → left ≡ hash_lines more ++ 10 ∷ note → Next left note count
next_of left note count [] other each few e = absurd (other note e)
next_of left note count (hash ∷ more) other each few e = record {
  hash = hash;
  more = more;
  is_hash = All-head IsHash hash more each;
  few = omega arith;
  rest = e ∙ ap (λ (t : List ℕ). t ++ 10 ∷ note) (flat_map-cons hash_line hash more) ∙ append_assoc (hash_line hash) (hash_lines more) (10 ∷ note);
}

pub next : (text left note : List ℕ) (done proof : List (List ℕ)) (count : ℕ) → HasRead text done left → count + length done ≡ 63
    → ((rest : List ℕ) → left ≢ 10 ∷ rest) → IsProofText text proof note → Next left note count
next text left note done proof count read room other is =
    let c = continue text left note done proof count read room is in next_of left note count c.more other c.each c.few c.rest

-- there are too many hashes
pub too_many : (text left : List ℕ) (done : List (List ℕ)) → HasRead text done left → length done ≡ 63 → ((rest : List ℕ) → left ≢ 10 ∷ rest)
    → (proof : List (List ℕ)) (note : List ℕ) → ¬ (IsProofText text proof note)
too_many text left done read full other proof note is =
    let n = next text left note done proof 0 read (omega arith) other is in absurd (omega (arith, n.few))

-- no line of a hash follows
pub no_next : (text left : List ℕ) (done : List (List ℕ)) (count : ℕ) → HasRead text done left → count + length done ≡ 63 → ((rest : List ℕ) → left ≢ 10 ∷ rest)
    → HasNoHashLine left → (proof : List (List ℕ)) (note : List ℕ) → ¬ (IsProofText text proof note)
no_next text left done count read room other none proof note is =
    let n = next text left note done proof count read room other is in none n.hash (hash_lines n.more ++ 10 ∷ note) n.is_hash n.rest

-- one hash more is read
pub reads_more : (text left words rest hash : List ℕ) (done : List (List ℕ)) → HasRead text done left → length done + 1 ≤ 63 → IsHash hash
    → left ≡ line words ++ rest → words ≡ base64_text hash → IsUtf8 rest → HasRead text (done ++ hash ∷ []) rest
reads_more text left words rest hash done read room is e spelled utf8 = record {
  utf8 = utf8;
  each = All-push IsHash done hash read.each is;
  few = omega (arith, length-append done (hash ∷ []));
  whole = ap (λ (t : List ℕ). t ++ rest) (flat_map-append hash_line done (hash ∷ []) ∙ ap (λ (t : List ℕ). hash_lines done ++ t) (flat_map-cons hash_line hash [] ∙ append-nil (hash_line hash)))
      ∙ append_assoc (hash_lines done) (hash_line hash) rest
      ∙ ap (λ (t : List ℕ). hash_lines done ++ (line t ++ rest)) (sym spelled)
      ∙ ap (λ (t : List ℕ). hash_lines done ++ t) (sym e) ∙ read.whole;
}

-- this many hashes were read
pub record HasCounted (text : List ℕ) (count : ℕ) (left : List ℕ) : Type 0 where
  pub done : List (List ℕ)
  pub read : HasRead text done left
  pub counted : length done ≡ count

pub counts_none : (text : List ℕ) → IsUtf8 text → HasCounted text 0 text
counts_none text utf8 = record { done = []; read = record { utf8 = utf8; each = All-nil IsHash; few = omega arith; whole = refl }; counted = refl }

pub counts_more : (text left rest hash : List ℕ) (count : ℕ) → HasCounted text count left → count < 63 → IsHash hash → left ≡ line (base64_text hash) ++ rest → IsUtf8 rest → HasCounted text (count + 1) rest
counts_more text left rest hash count has room is e utf8 = record {
  done = has.done ++ hash ∷ [];
  read = reads_more text left (base64_text hash) rest hash has.done has.read (omega (arith, has.counted)) is e refl utf8;
  counted = omega (arith, length-append has.done (hash ∷ []), has.counted);
}

-- an empty line follows, and the note
pub proof_of : (text left note : List ℕ) (count : ℕ) → HasCounted text count left → left ≡ 10 ∷ note → IsUtf8 note → HasProof text count note
proof_of text left note count has e utf8 = (has.done, record { few = has.read.few; hashes = has.read.each; utf8 = utf8; spelled = sym has.read.whole ∙ ap (λ (t : List ℕ). hash_lines has.done ++ t) e }, has.counted)

-- ---- the hashes of a text that is known to be a proof's

more_of : (left note rest hash : List ℕ) (done proof more : List (List ℕ)) → IsHash hash → left ≡ line (base64_text hash) ++ rest → proof ≡ done ++ more → left ≡ hash_lines more ++ 10 ∷ note → length done < length proof
more_of left note rest hash done proof [] is e joined after =
    absurd (text_of_hash hash is (one_line (base64_text hash) [] rest note (base64_plain hash is.bytes) (λ k d lt. absurd (omega arith)) (sym e ∙ after)).0)
more_of left note rest hash done proof (m ∷ more) is e joined after = omega (arith, ap (λ (hs : List (List ℕ)). length hs) joined, length-append done (m ∷ more))

continued : (text left note : List ℕ) (done proof : List (List ℕ)) → HasRead text done left → IsProofText text proof note → Continue left note (63 - length done) done proof
continued text left note done proof read is = let few = read.few in continue text left note done proof (63 - length done) read (omega arith) is

-- a hash that follows is one of them
pub more_left : (text left note rest hash : List ℕ) (done proof : List (List ℕ)) → HasRead text done left → IsProofText text proof note → IsHash hash → left ≡ line (base64_text hash) ++ rest → length done < length proof
more_left text left note rest hash done proof read proves is e = let c = continued text left note done proof read proves in more_of left note rest hash done proof c.more is e c.joined c.rest

-- if none follows, all were read
all_of : (left note : List ℕ) (done proof more : List (List ℕ)) → HasNoHashLine left → All IsHash more → proof ≡ done ++ more → left ≡ hash_lines more ++ 10 ∷ note → done ≡ proof
all_of left note done proof [] none each joined after = sym (joined ∙ append-nil done)
all_of left note done proof (m ∷ more) none each joined after =
    absurd (none m (hash_lines more ++ 10 ∷ note) (All-head IsHash m more each) (after ∙ ap (λ (t : List ℕ). t ++ 10 ∷ note) (flat_map-cons hash_line m more) ∙ append_assoc (hash_line m) (hash_lines more) (10 ∷ note)))

pub all_read : (text left note : List ℕ) (done proof : List (List ℕ)) → HasRead text done left → IsProofText text proof note → HasNoHashLine left → done ≡ proof
all_read text left note done proof read proves none = let c = continued text left note done proof read proves in all_of left note done proof c.more none c.each c.joined c.rest

-- ---- a text that doesn't begin with the line of a hash

pub no_first_line : (text : List ℕ) → IsNoLine text → HasNoHashLine text
no_first_line text none = λ hash rest is e. none (base64_text hash) rest (base64_plain hash is.bytes) e

pub no_first_hash : (text words rest : List ℕ) → HasNoControl words → text ≡ line words ++ rest → IsNoHash words → HasNoHashLine text
no_first_hash text words rest plain e none = λ hash after is f.
    none hash is (one_line words (base64_text hash) rest after plain (base64_plain hash is.bytes) (sym e ∙ f)).0
