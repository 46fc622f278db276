-- The hashes of a proof's text, up to its empty line, read in one way.
use Rattle.std.proofs.Common.{◌≡◌, ◌≢◌, ℕ, ◌≤◌, List, [], ◌∷◌, ◌++◌, length, refl, sym, ap, ◌∙◌, append_assoc, append-nil, arith, All}
use Rattle.std.proofs.lemmas.List.Elements.{All-nil, All-head, All-tail, All-push}
use Rattle.std.proofs.lemmas.List.Concat.{flat_map-cons, flat_map-append}
use Rattle.base64.specs.Rfc4648.{encode_symbols}
use Rattle.tl_hash.specs.Bytes.{IsHash}
use Rattle.tl_text.specs.Text.{line, base64_text, HasNoControl}
use Rattle.tl_text.proofs.Lines.{one_line}
use Rattle.tl_text.proofs.PlainText.{base64_plain, base64_once}
use Rattle.tl_offline.specs.ProofText.{hash_lines}
use Rattle.tl_offline.specs.Inner.Cutting.{HasRead}

abbrev hash_line : List ℕ → List ℕ
hash_line hash = line (base64_text hash)

nothing_plain : HasNoControl []
nothing_plain = All-nil (λ (b : ℕ). 32 ≤ b)

-- no hash has an empty text
pub text_of_hash : (hash : List ℕ) → IsHash hash → base64_text hash ≢ []
unfolding encode_symbols
text_of_hash hash is e =
    let none : hash ≡ [] = base64_once hash [] is.bytes (λ i. omega arith) e in
    absurd (omega (arith, is.length, ap length none))

-- the line of one hash, and what follows it
pub first_hash : (h : List ℕ) (hs : List (List ℕ)) (rest : List ℕ) → hash_lines (h ∷ hs) ++ rest ≡ hash_line h ++ (hash_lines hs ++ rest)
first_hash h hs rest = ap (λ (t : List ℕ). t ++ rest) (flat_map-cons hash_line h hs) ∙ append_assoc (hash_line h) (hash_lines hs) rest

-- an empty line is no line of a hash
pub not_both : (h rest note : List ℕ) → IsHash h → 10 ∷ note ≢ hash_line h ++ rest
not_both h rest note is e = text_of_hash h is (sym (one_line [] (base64_text h) note rest nothing_plain (base64_plain h is.bytes) e).0)

-- what is left behind the first hashes of a text is the lines of the others, an empty line and the note
pub record GoesOn (done hashes : List (List ℕ)) (left note : List ℕ) : Type 0 where
  pub more : List (List ℕ)
  pub joined : hashes ≡ done ++ more
  pub each : All IsHash more
  pub rest : left ≡ hash_lines more ++ 10 ∷ note

pub goes_on : (done hashes : List (List ℕ)) (left note : List ℕ) → All IsHash done → All IsHash hashes
    → hash_lines done ++ left ≡ hash_lines hashes ++ 10 ∷ note → GoesOn done hashes left note
goes_on [] hashes left note d h e = record { more = hashes; joined = refl; each = h; rest = e }
goes_on (a ∷ done) [] left note d h e = absurd (not_both a (hash_lines done ++ left) note (All-head IsHash a done d) (sym e ∙ first_hash a done left))
goes_on (a ∷ done) (b ∷ hashes) left note d h e =
    let is_a = All-head IsHash a done d in
    let is_b = All-head IsHash b hashes h in
    let opened : hash_line a ++ (hash_lines done ++ left) ≡ hash_line b ++ (hash_lines hashes ++ 10 ∷ note) = sym (first_hash a done left) ∙ e ∙ first_hash b hashes (10 ∷ note) in
    let cut = one_line (base64_text a) (base64_text b) (hash_lines done ++ left) (hash_lines hashes ++ 10 ∷ note) (base64_plain a is_a.bytes) (base64_plain b is_b.bytes) opened in
    let same : b ≡ a = sym (base64_once a b is_a.bytes is_b.bytes cut.0) in
    let others = goes_on done hashes left note (All-tail IsHash a done d) (All-tail IsHash b hashes h) cut.1 in
    record {
      more = others.more;
      joined = ap (λ (x : List ℕ). x ∷ hashes) same ∙ ap (λ (xs : List (List ℕ)). a ∷ xs) others.joined;
      each = others.each;
      rest = others.rest;
    }

ends_here : (done hashes more : List (List ℕ)) (m n : List ℕ) → hashes ≡ done ++ more → All IsHash more → 10 ∷ m ≡ hash_lines more ++ 10 ∷ n → (done ≡ hashes) × (m ≡ n)
ends_here done hashes [] m n joined each e = (sym (joined ∙ append-nil done), cc)
ends_here done hashes (h ∷ more) m n joined each e =
    absurd (not_both h (hash_lines more ++ 10 ∷ n) m (All-head IsHash h more each) (e ∙ first_hash h more (10 ∷ n)))

-- hashes, an empty line and a note are read in one way
pub one_end : (xs ys : List (List ℕ)) (m n : List ℕ) → All IsHash xs → All IsHash ys → hash_lines xs ++ 10 ∷ m ≡ hash_lines ys ++ 10 ∷ n → (xs ≡ ys) × (m ≡ n)
one_end xs ys m n x y e = let on = goes_on xs ys (10 ∷ m) n x y e in ends_here xs ys on.more m n on.joined on.each on.rest

-- ---- reading one hash after the other

pub reads_none : (text : List ℕ) → HasRead text [] text
reads_none text = record { each = All-nil IsHash; whole = refl }

pub reads_more : (text left rest hash : List ℕ) (done : List (List ℕ)) → HasRead text done left → IsHash hash
    → left ≡ line (base64_text hash) ++ rest → HasRead text (done ++ hash ∷ []) rest
reads_more text left rest hash done read is e = record {
  each = All-push IsHash done hash read.each is;
  whole = read.whole ∙ ap (λ (t : List ℕ). hash_lines done ++ t) e ∙ sym (append_assoc (hash_lines done) (hash_line hash) rest)
      ∙ ap (λ (t : List ℕ). t ++ rest) (sym (flat_map-append hash_line done (hash ∷ []) ∙ ap (λ (t : List ℕ). hash_lines done ++ t) (flat_map-cons hash_line hash [] ∙ append-nil (hash_line hash))));
}
