-- The lines of a proof's text before its hashes, each read in one way.
use Rattle.std.proofs.Common.{◌≡◌, ◌≢◌, ℕ, ◌≤◌, List, [], ◌∷◌, ◌++◌, get_or, refl, sym, ap, subst, ◌∙◌, append_assoc, arith, Option, Some, None}
use Rattle.std.specs.Prelude.{codes, IfNone, IfSome}
use Rattle.std.proofs.lemmas.Fmt.{decimal_injective}
use Rattle.std.proofs.lemmas.List.{append_cancel_left}
use Rattle.std.proofs.lemmas.List.Elements.{All-nil, All-cons, All-append, All-head, All-tail}
use Rattle.base64.specs.GeneralPurpose.{IsBytes}
use Rattle.tl_text.specs.Text.{line, number_text, base64_text, HasNoControl, IsSize}
use Rattle.tl_text.proofs.Lines.{one_line}
use Rattle.tl_text.proofs.PlainText.{number_plain, base64_plain, base64_once}
use Rattle.tl_offline.specs.ProofText.{version_line, extra_line, index_line}
use Rattle.tl_offline.specs.ParseProof.{HasNoNewline, HasNoExtra}

abbrev IsPlain : ℕ → Type 0
IsPlain byte = 32 ≤ byte

abbrev IsOther : ℕ → Type 0
IsOther byte = byte ≢ 10

-- what has no control character has no newline
pub no_newline : (text : List ℕ) → HasNoControl text → HasNoNewline text
no_newline text plain = λ k d lt is. absurd (omega (arith, plain k d lt, is))

-- the first line of a text ends at its first newline
pub cut_line : (a b x y : List ℕ) → HasNoNewline a → HasNoNewline b → line a ++ x ≡ line b ++ y → (a ≡ b) × (x ≡ y)
cut_line [] [] x y pa pb e = (refl, cc)
cut_line [] (b ∷ bs) x y pa pb e =
    let head : b ≡ 10 = cc in
    absurd (All-head IsOther b bs pb head)
cut_line (a ∷ rest) [] x y pa pb e =
    let head : a ≡ 10 = cc in
    absurd (All-head IsOther a rest pa head)
cut_line (a ∷ rest) (b ∷ bs) x y pa pb e =
    let head : a ≡ b = cc in
    let tail : line rest ++ x ≡ line bs ++ y = cc in
    let others = cut_line rest bs x y (All-tail IsOther a rest pa) (All-tail IsOther b bs pb) tail in
    (ap (λ (c : ℕ). c ∷ rest) head ∙ ap (λ (cs : List ℕ). b ∷ cs) others.0, others.1)

-- what has no newline is no line and more
pub no_line : (text a b : List ℕ) → HasNoNewline text → text ≢ a ++ 10 ∷ b
no_line text [] b none e = All-head IsOther 10 b (subst HasNoNewline e none) refl
no_line text (x ∷ a) b none e = no_line (a ++ 10 ∷ b) a b (All-tail IsOther x (a ++ 10 ∷ b) (subst HasNoNewline e none)) refl

-- three, four and five parts, grouped from the right
pub three : (a b c : List ℕ) → a ++ b ++ c ≡ a ++ (b ++ c)
three a b c = append_assoc a b c

pub four : (a b c d : List ℕ) → a ++ b ++ c ++ d ≡ a ++ (b ++ (c ++ d))
four a b c d = append_assoc (a ++ b) c d ∙ append_assoc a b (c ++ d)

pub five : (a b c d f : List ℕ) → a ++ b ++ c ++ d ++ f ≡ a ++ (b ++ (c ++ (d ++ f)))
five a b c d f = append_assoc (a ++ b ++ c) d f ∙ four a b c (d ++ f)

-- ---- the extra data

abbrev pub extra_words : List ℕ → List ℕ
extra_words extra = codes "extra " ++ base64_text extra

pub extra_plain : (extra : List ℕ) → IsBytes extra → HasNoControl (extra_words extra)
extra_plain extra fits =
    All-append IsPlain (codes "extra ") (base64_text extra)
    (All-cons IsPlain 101 (120 ∷ 116 ∷ 114 ∷ 97 ∷ 32 ∷ []) (omega arith)
    (All-cons IsPlain 120 (116 ∷ 114 ∷ 97 ∷ 32 ∷ []) (omega arith)
    (All-cons IsPlain 116 (114 ∷ 97 ∷ 32 ∷ []) (omega arith)
    (All-cons IsPlain 114 (97 ∷ 32 ∷ []) (omega arith)
    (All-cons IsPlain 97 (32 ∷ []) (omega arith)
    (All-cons IsPlain 32 [] (omega arith) (All-nil IsPlain)))))))
    (base64_plain extra fits)

-- extra data, or none, are read in one way
pub one_extra : (x y : Option (List ℕ)) (a b : List ℕ) → IfSome x IsBytes → IfSome y IsBytes → IfNone x (HasNoExtra a) → IfNone y (HasNoExtra b)
    → extra_line x ++ a ≡ extra_line y ++ b → (x ≡ y) × (a ≡ b)
one_extra None None a b fx fy nx ny e = (refl, e)
one_extra None (Some y) a b fx fy nx ny e = absurd (nx (line (base64_text y) ++ b) e)
one_extra (Some x) None a b fx fy nx ny e = absurd (ny (line (base64_text x) ++ a) (sym e))
one_extra (Some x) (Some y) a b fx fy nx ny e =
    let cut = one_line (extra_words x) (extra_words y) a b (extra_plain x fx) (extra_plain y fy) e in
    (ap Some (base64_once x y fx fy (append_cancel_left (codes "extra ") (base64_text x) (base64_text y) cut.0)), cut.1)

-- what holds anyhow holds if there are none
pub anyhow : {P : Type 0} (x : Option (List ℕ)) → P → IfNone x P
anyhow None p = p
anyhow (Some x) p = tt

-- ---- the index

abbrev pub index_words : ℕ → List ℕ
index_words n = codes "index " ++ number_text n

pub index_plain : (n : ℕ) → IsSize n → HasNoControl (index_words n)
index_plain n small =
    All-append IsPlain (codes "index ") (number_text n)
    (All-cons IsPlain 105 (110 ∷ 100 ∷ 101 ∷ 120 ∷ 32 ∷ []) (omega arith)
    (All-cons IsPlain 110 (100 ∷ 101 ∷ 120 ∷ 32 ∷ []) (omega arith)
    (All-cons IsPlain 100 (101 ∷ 120 ∷ 32 ∷ []) (omega arith)
    (All-cons IsPlain 101 (120 ∷ 32 ∷ []) (omega arith)
    (All-cons IsPlain 120 (32 ∷ []) (omega arith)
    (All-cons IsPlain 32 [] (omega arith) (All-nil IsPlain)))))))
    (number_plain n (omega arith))

-- an index isn't extra data
pub index_is_no_extra : (n : ℕ) (a : List ℕ) → HasNoExtra (index_line n ++ a)
index_is_no_extra n a = λ rest e.
    let head : 105 ≡ 101 = ap (λ (t : List ℕ). get_or t 0 0) e in
    absurd (omega (arith, head))

pub one_index : (m n : ℕ) (a b : List ℕ) → IsSize m → IsSize n → index_line m ++ a ≡ index_line n ++ b → (m ≡ n) × (a ≡ b)
one_index m n a b fm fn e =
    let cut = one_line (index_words m) (index_words n) a b (index_plain m fm) (index_plain n fn) e in
    let same : number_text m ≡ number_text n = append_cancel_left (codes "index ") (number_text m) (number_text n) cut.0 in
    (decimal_injective m n (omega arith) (omega arith) same, cut.1)

-- ---- all lines before the hashes

pub one_front : (x y : Option (List ℕ)) (m n : ℕ) (a b : List ℕ) → IfSome x IsBytes → IfSome y IsBytes → IsSize m → IsSize n
    → version_line ++ (extra_line x ++ (index_line m ++ a)) ≡ version_line ++ (extra_line y ++ (index_line n ++ b)) → (x ≡ y) × (m ≡ n) × (a ≡ b)
one_front x y m n a b fx fy fm fn e =
    let rest = append_cancel_left version_line (extra_line x ++ (index_line m ++ a)) (extra_line y ++ (index_line n ++ b)) e in
    let extra = one_extra x y (index_line m ++ a) (index_line n ++ b) fx fy (anyhow x (index_is_no_extra m a)) (anyhow y (index_is_no_extra n b)) rest in
    let index = one_index m n a b fm fn extra.1 in
    (extra.0, index.0, index.1)
