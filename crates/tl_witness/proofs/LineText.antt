-- The words of a chain line: its line is they and a newline, and they are text without one.
use Rattle.std.proofs.Common.{◌≡◌, ◌≢◌, ℕ, List, [], ◌∷◌, ◌++◌, length, refl, sym, ap, ◌∙◌, append_assoc, arith, All}
use Rattle.std.specs.Prelude.{IsUtf8}
use Rattle.std.specs.Str.{IsAscii}
use Rattle.std.proofs.lemmas.Fmt.{IsAscii-decimal}
use Rattle.std.proofs.lemmas.List.Concat.{flat_map-cons}
use Rattle.std.proofs.lemmas.List.Elements.{All-append, All-cons, All-head, All-tail}
use Rattle.std.proofs.lemmas.Str.{IsUtf8-append, IsUtf8-from_ascii}
use Rattle.std.proofs.lemmas.Str.Ascii.{IsAscii-nil, IsAscii-cons}
use Rattle.base64.specs.Engines.{standard}
use Rattle.base64.proofs.EngineFacts.{IsAscii-encode_of}
use Rattle.tl_hash.specs.Bytes.{IsHash}
use Rattle.tl_text.specs.Text.{number_text, base64_text}
use Rattle.tl_witness.specs.ChainLine.{ChainLine, IsChainLine, chain_line, spaced_hashes}
use Rattle.tl_witness.specs.ChainFields.{IsWithout, HasNoLine, chain_words, field, hashes_before}
use Rattle.tl_witness.specs.Inner.ChainFields.{IsNoChainLine}
use Rattle.tl_witness.proofs.FieldTexts.{number_visible, base64_visible, without_newline, one_end}

-- hashes with spaces after them, and with spaces before them
spaces_moved : (hashes : List (List ℕ)) (origin : List ℕ) → spaced_hashes hashes ++ 32 ∷ origin ≡ 32 ∷ hashes_before hashes origin
spaces_moved [] origin = refl
spaces_moved (h ∷ hashes) origin =
    ap (λ (t : List ℕ). t ++ 32 ∷ origin) (flat_map-cons (λ (hash : List ℕ). 32 ∷ base64_text hash) h hashes)
    ∙ append_assoc (32 ∷ base64_text h) (spaced_hashes hashes) (32 ∷ origin)
    ∙ ap (λ (t : List ℕ). 32 ∷ base64_text h ++ t) (spaces_moved hashes origin)

-- a line is its words and a newline
pub line_of_words : (l : ChainLine) (after : List ℕ) → chain_line l ++ after ≡ chain_words l ++ 10 ∷ after
line_of_words l after =
    let n = number_text l.step.size in
    let r = base64_text l.step.root in
    let c = number_text (length l.step.proof) in
    let s = spaced_hashes l.step.proof in
    let hs = hashes_before l.step.proof l.origin in
    append_assoc (n ++ 32 ∷ r ++ 32 ∷ c ++ s ++ 32 ∷ l.origin) (10 ∷ []) after
    ∙ ap (λ (t : List ℕ). t ++ 10 ∷ after)
    (append_assoc (n ++ 32 ∷ r ++ 32 ∷ c) s (32 ∷ l.origin)
    ∙ ap (λ (t : List ℕ). (n ++ 32 ∷ r ++ 32 ∷ c) ++ t) (spaces_moved l.step.proof l.origin)
    ∙ append_assoc (n ++ 32 ∷ r) (32 ∷ c) (32 ∷ hs)
    ∙ append_assoc n (32 ∷ r) (32 ∷ c ++ 32 ∷ hs))

-- a line that is written part by part
behind_space : (old spaced new part : List ℕ) → spaced ≡ old ++ 32 ∷ [] → new ≡ spaced ++ part → new ≡ old ++ 32 ∷ part
behind_space old spaced new part first then = then ∙ (ap (λ (t : List ℕ). t ++ part) first ∙ append_assoc old (32 ∷ []) part)

pub line_written : (size root count hashes origin t0 t1 t2 t3 t4 t5 t6 t7 t8 t9 : List ℕ)
    → t0 ≡ [] → t1 ≡ t0 ++ size → t2 ≡ t1 ++ 32 ∷ [] → t3 ≡ t2 ++ root → t4 ≡ t3 ++ 32 ∷ [] → t5 ≡ t4 ++ count → t6 ≡ t5 ++ hashes → t7 ≡ t6 ++ 32 ∷ []
    → t8 ≡ t7 ++ origin → t9 ≡ t8 ++ 10 ∷ [] → t9 ≡ (size ++ 32 ∷ root ++ 32 ∷ count ++ hashes ++ 32 ∷ origin) ++ 10 ∷ []
line_written size root count hashes origin t0 t1 t2 t3 t4 t5 t6 t7 t8 t9 e0 e1 e2 e3 e4 e5 e6 e7 e8 e9 =
    rw (e9, behind_space t6 t7 t8 origin e7 e8, e6, behind_space t3 t4 t5 count e4 e5, behind_space t1 t2 t3 root e2 e3, e1, e0) refl

-- the words have no newline
abbrev IsOther : ℕ → Type 0
IsOther byte = byte ≢ 10

field_plain : (words rest : List ℕ) → IsWithout 10 words → IsWithout 10 rest → IsWithout 10 (field words rest)
field_plain words rest first others = All-append IsOther words (32 ∷ rest) first (All-cons IsOther 32 rest (λ e. absurd (omega arith)) others)

hash_plain : (hash : List ℕ) → IsHash hash → IsWithout 10 (base64_text hash)
hash_plain hash is = without_newline (base64_text hash) (base64_visible hash is.bytes)

hashes_plain : (hashes : List (List ℕ)) (rest : List ℕ) → All IsHash hashes → IsWithout 10 rest → IsWithout 10 (hashes_before hashes rest)
hashes_plain [] rest each plain = plain
hashes_plain (h ∷ hashes) rest each plain =
    field_plain (base64_text h) (hashes_before hashes rest) (hash_plain h (All-head IsHash h hashes each)) (hashes_plain hashes rest (All-tail IsHash h hashes each) plain)

pub words_plain : (l : ChainLine) → IsChainLine l → IsWithout 10 (chain_words l)
words_plain l is =
    let origin : IsWithout 10 l.origin = λ i d lt e. let plain = is.origin.plain i d lt in absurd (omega (arith, e, plain)) in
    field_plain _ _ (without_newline (number_text l.step.size) (number_visible l.step.size is.size))
    (field_plain _ _ (hash_plain l.step.root is.root)
    (field_plain _ _ (without_newline (number_text (length l.step.proof)) (number_visible (length l.step.proof) (omega (arith, is.few)))) (hashes_plain l.step.proof l.origin is.hashes origin)))

-- the words are text
field_utf8 : (words rest : List ℕ) → IsAscii words → IsUtf8 rest → IsUtf8 (field words rest)
field_utf8 words rest ascii utf8 =
    IsUtf8-append words (32 ∷ rest) (IsUtf8-from_ascii words ascii)
    (IsUtf8-append (32 ∷ []) rest (IsUtf8-from_ascii (32 ∷ []) (IsAscii-cons 32 [] (omega arith) IsAscii-nil)) utf8)

hashes_utf8 : (hashes : List (List ℕ)) (rest : List ℕ) → IsUtf8 rest → IsUtf8 (hashes_before hashes rest)
hashes_utf8 [] rest utf8 = utf8
hashes_utf8 (h ∷ hashes) rest utf8 = field_utf8 (base64_text h) (hashes_before hashes rest) (IsAscii-encode_of standard h) (hashes_utf8 hashes rest utf8)

pub words_utf8 : (l : ChainLine) → IsChainLine l → IsUtf8 (chain_words l)
words_utf8 l is =
    field_utf8 _ _ (IsAscii-decimal l.step.size (omega (arith, is.size)))
    (field_utf8 _ _ (IsAscii-encode_of standard l.step.root)
    (field_utf8 _ _ (IsAscii-decimal (length l.step.proof) (omega (arith, is.few))) (hashes_utf8 l.step.proof l.origin is.utf8)))

-- bytes in front of which is no line, or one of other words
pub no_text_line : (bytes : List ℕ) → HasNoLine bytes → (l : ChainLine) (after : List ℕ) → IsChainLine l → bytes ≢ chain_line l ++ after
no_text_line bytes none l after is e = none (chain_words l) after (words_plain l is) (words_utf8 l is) (e ∙ line_of_words l after)

pub no_such_words : (bytes words rest : List ℕ) → IsWithout 10 words → bytes ≡ words ++ 10 ∷ rest → IsNoChainLine words
    → (l : ChainLine) (after : List ℕ) → IsChainLine l → bytes ≢ chain_line l ++ after
no_such_words bytes words rest plain whole none l after is e =
    none l is (one_end 10 words (chain_words l) rest after plain (words_plain l is) (sym whole ∙ e ∙ line_of_words l after)).0
