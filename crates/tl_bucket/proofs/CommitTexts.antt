-- The front of a commit, line by line.
use Rattle.std.proofs.Common.{◌≡◌, ℕ, suc, ◌+◌, ◌-◌, ◌<◌, ◌≤◌, Bool, [], ◌∷◌, ◌++◌, length, get_or, take, drop, true, false, sym, ap, ◌∙◌, cond, append_assoc, arith, Bor, Some, None}
use Rattle.std.specs.Prelude.{◌≢◌, nat_lt, position, IsUtf8, MatchOption, Option}
use Rattle.std.specs.List.{position_or_len}
use Rattle.std.specs.Cmp.Lexicographic.{pointwise}
use Rattle.std.proofs.Math.Dec.{eqb}
use Rattle.std.proofs.Math.ListN.{get_or-append}
use Rattle.std.proofs.Math.Seq.{get_or-append_seam, drop-cons}
use Rattle.std.proofs.lemmas.Bool.{le-ltb, ltb-false, lt-ltb}
use Rattle.std.proofs.lemmas.Bool.Decides.{Decides-eqb}
use Rattle.std.proofs.lemmas.List.{append_cancel_left, length-append, length-take-le, get_or-take, take-append-drop, take_rest}
use Rattle.std.proofs.lemmas.List.Quantifiers.{position-Some}
use Rattle.std.proofs.lemmas.List.Sums.{position_or_len_is}
use Rattle.std.proofs.lemmas.Slice.Eq.{strip_prefix_is}
use Rattle.std.proofs.lemmas.Fmt.{IsAscii-decimal}
use Rattle.std.proofs.lemmas.Str.{IsUtf8-from_ascii}
use Rattle.tl_hash.specs.Bytes.{Bytes}
use Rattle.tl_text.specs.Text.{line, number_text, HasNoControl, IsSize}
use Rattle.tl_text.specs.Pieces.{IsNoLine}
use Rattle.tl_text.proofs.Lines.{one_line}
use Rattle.tl_text.proofs.PlainText.{number_plain}
use Rattle.tl_bucket.specs.Commits.{commit_front}

-- ---- a line

abbrev pub is_control : ℕ → Bool
is_control byte = nat_lt byte 32

-- the first control character of a text that begins with a line is the line's end
at_line_end : (words rest : Bytes) → HasNoControl words → position_or_len is_control (words ++ 10 ∷ rest) ≡ length words
at_line_end words rest plain =
    position_or_len_is is_control (words ++ 10 ∷ rest) (length words) 0 (omega (arith, length-append words (10 ∷ rest)))
    (λ k lt. le-ltb (get_or (words ++ 10 ∷ rest) k 0) 32 (let here : 32 ≤ get_or words k 0 = plain k 0 lt in omega (arith, get_or-append words (10 ∷ rest) 0 k lt)))
    (λ lt. lt-ltb (get_or (words ++ 10 ∷ rest) (length words) 0) 32 (omega (arith, get_or-append_seam words 10 rest 0)))

first_at : (bytes words rest : Bytes) → HasNoControl words → bytes ≡ line words ++ rest → position is_control bytes ≡ Some (length words)
first_at bytes words rest plain e =
    let whole : bytes ≡ words ++ 10 ∷ rest = e ∙ append_assoc words (10 ∷ []) rest in
    let size = length (words ++ 10 ∷ rest) in
    ap (position is_control) whole
    ∙ ap (λ (n : ℕ). cond (nat_lt n size) (Some n) None) (at_line_end words rest plain)
    ∙ ap (λ (b : Bool). cond b (Some (length words)) None) (lt-ltb (length words) size (omega (arith, length-append words (10 ∷ rest))))

pub no_control : (bytes : Bytes) → position is_control bytes ≡ None → IsNoLine bytes
no_control bytes none = λ words rest plain e.
    let bad : None ≡ Some (length words) = sym none ∙ first_at bytes words rest plain e in
    absurd cc

pub no_newline : (bytes : Bytes) (end : ℕ) → position is_control bytes ≡ Some end → get_or bytes end 0 ≢ 10 → IsNoLine bytes
no_newline bytes end found other = λ words rest plain e.
    let both : Some end ≡ Some (length words) = sym found ∙ first_at bytes words rest plain e in
    let same : end ≡ length words = cc in
    let whole : bytes ≡ words ++ 10 ∷ rest = e ∙ append_assoc words (10 ∷ []) rest in
    other (ap (λ (n : ℕ). get_or bytes n 0) same ∙ ap (λ (t : Bytes). get_or t (length words) 0) whole ∙ get_or-append_seam words 10 rest 0)

-- the bytes are cut at their first control character, which is a newline
pub cut_there : (bytes : Bytes) (end : ℕ) → position is_control bytes ≡ Some end → get_or bytes end 0 ≡ 10
    → HasNoControl (take end bytes) × (bytes ≡ line (take end bytes) ++ take (length bytes - (end + 1)) (drop (end + 1) bytes))
cut_there bytes end found newline =
    let first = position-Some is_control bytes end 0 found in
    let size = length-take-le end bytes (omega (arith, first.0)) in
    let next : suc end ≡ end + 1 = omega arith in
    let seam : drop end bytes ≡ 10 ∷ drop (end + 1) bytes =
    drop-cons bytes end 0 first.0 ∙ ap (λ (n : ℕ). get_or bytes end 0 ∷ drop n bytes) next ∙ ap (λ (b : ℕ). b ∷ drop (end + 1) bytes) newline in (
      λ k d lt.
          let less : k < end = omega (arith, lt, size) in
          let before = position-Some is_control bytes end d found in
          let here : 32 ≤ get_or bytes k d = ltb-false (get_or bytes k d) 32 (before.2 k less) in
          omega (arith, here, get_or-take end bytes k d less),
      sym (take-append-drop end bytes)
          ∙ ap (λ (t : Bytes). take end bytes ++ t) (seam ∙ ap (λ (t : Bytes). 10 ∷ t) (sym (take_rest bytes (end + 1))))
          ∙ sym (append_assoc (take end bytes) (10 ∷ []) (take (length bytes - (end + 1)) (drop (end + 1) bytes))),
    )

-- ---- a number

pub number_utf8 : (n : ℕ) → IsSize n → IsUtf8 (number_text n)
number_utf8 n small = IsUtf8-from_ascii (number_text n) (IsAscii-decimal n (omega arith))

-- ---- the front

-- the first line, with its newline
abbrev pub title : Bytes
title = 116 ∷ 108 ∷ 111 ∷ 103 ∷ 32 ∷ 99 ∷ 111 ∷ 109 ∷ 109 ∷ 105 ∷ 116 ∷ 10 ∷ []

-- the rest of bytes from which a prefix was stripped
pub stripped : (whole word : Bytes) (r : Option (Bor Bytes))
    → MatchOption r (pointwise eqb (take (length word) whole) word ≡ false) (λ x. (pointwise eqb (take (length word) whole) word ≡ true) × (x.now ≡ drop (length word) whole) × (length x.now + length word ≡ length whole))
    → MatchOption r ((rest : Bytes) → whole ≢ word ++ rest) (λ x. whole ≡ word ++ x.now)
stripped whole word r cut = strip_prefix_is Decides-eqb whole word r cut

-- the front of a commit, line by line
lines : (start : ℕ) (token rest : Bytes) → commit_front start token ++ rest ≡ title ++ (line (number_text start) ++ (line token ++ (10 ∷ rest)))
lines start token rest = simp append_assoc

-- what follows the first line
pub behind_title : (bytes r : Bytes) (start : ℕ) (token rest : Bytes) → bytes ≡ title ++ r → bytes ≡ commit_front start token ++ rest → r ≡ line (number_text start) ++ (line token ++ (10 ∷ rest))
behind_title bytes r start token rest is e = append_cancel_left title r (line (number_text start) ++ (line token ++ (10 ∷ rest))) (sym is ∙ e ∙ lines start token rest)

-- the line cut off behind the title is the number, and the token follows it
pub behind_number : (bytes r words s : Bytes) (start : ℕ) (token rest : Bytes) → bytes ≡ title ++ r → r ≡ line words ++ s → HasNoControl words → IsSize start → bytes ≡ commit_front start token ++ rest
    → (words ≡ number_text start) × (s ≡ line token ++ (10 ∷ rest))
behind_number bytes r words s start token rest is cut plain small e =
    one_line words (number_text start) s (line token ++ (10 ∷ rest)) plain (number_plain start (omega arith)) (sym cut ∙ behind_title bytes r start token rest is e)

-- lines that were cut off one by one make up the front
pub joined : (bytes r words s token t rest : Bytes) (start : ℕ) → bytes ≡ title ++ r → r ≡ line words ++ s → words ≡ number_text start → s ≡ line token ++ t → t ≡ 10 ∷ rest → bytes ≡ commit_front start token ++ rest
joined bytes r words s token t rest start first second number third last =
    first
    ∙ ap (λ (x : Bytes). title ++ x)
    (second ∙ ap (λ (w : Bytes). line w ++ s) number
    ∙ ap (λ (x : Bytes). line (number_text start) ++ x) (third ∙ ap (λ (x : Bytes). line token ++ x) last))
    ∙ sym (lines start token rest)

-- bytes have at most one front
pub one_front : (start other : ℕ) (token mark x y : Bytes) → IsSize start → IsSize other → HasNoControl token → HasNoControl mark → commit_front start token ++ x ≡ commit_front other mark ++ y
    → (number_text start ≡ number_text other) × (token ≡ mark) × (x ≡ y)
one_front start other token mark x y small_start small_other plain_token plain_mark e =
    let numbers : line (number_text start) ++ (line token ++ (10 ∷ x)) ≡ line (number_text other) ++ (line mark ++ (10 ∷ y)) =
    behind_title (commit_front start token ++ x) (line (number_text start) ++ (line token ++ (10 ∷ x))) other mark y (lines start token x) e in
    let first = one_line (number_text start) (number_text other) (line token ++ (10 ∷ x)) (line mark ++ (10 ∷ y)) (number_plain start (omega arith)) (number_plain other (omega arith)) numbers in
    let second = one_line token mark (10 ∷ x) (10 ∷ y) plain_token plain_mark first.1 in
    (first.0, second.0, ap (drop 1) second.1)
