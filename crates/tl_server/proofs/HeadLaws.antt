-- What a parser's refusal means for an input of which a part was read.
use Rattle.std.proofs.Common.{◌≡◌, ◌≢◌, ℕ, ◌≤◌, ◌<◌, ◌+◌, ◌-◌, List, [], ◌++◌, length, length-append, take, drop, arith, sym, ◌∙◌, ap, subst, append-nil, append_assoc, true, Bool, refl, inl, inr}
use Rattle.std.proofs.lemmas.List.{take-append-le, take-append-drop}
use Rattle.std.proofs.Math.Seq.{take-append_seam, take-append-add}
use Rattle.httparse.specs.Grammar.{HasNoRequest, MayBecomeRequest, ReadsRequest, print_request}
use Rattle.httparse.specs.Spans.{RequestOverflows}
use Rattle.tl_server.specs.Inner.Deciding.{HasNoHead, IsWithoutHead}
use Rattle.tl_device.specs.Reading.{MayBe}

-- an error of the parser, with room for 64 fields: no head within the limits, whatever follows
refused : (buf more : List ℕ) → RequestOverflows 64 buf → HasNoHead (buf ++ more)
refused buf more over head rest is =
    let many = over more head rest is.reads in
    let few = is.few in
    absurd (omega arith)

-- the input has ended, and no part of it is a head
ended : (input : List ℕ) → HasNoRequest input → HasNoHead input
ended input none head rest is = none head rest is.reads

-- a beginning that is long enough has the whole first part
whole_part : (xs ys zs ws : List ℕ) → xs ++ ys ≡ zs ++ ws → length zs ≤ length xs → xs ≡ zs ++ drop (length zs) xs
whole_part xs ys zs ws same long =
    let front : take (length zs) xs ≡ zs =
    sym (take-append-le (length zs) xs ys long) ∙ (ap (λ (l : List ℕ). take (length zs) l) same ∙ take-append_seam zs ws) in
    sym (take-append-drop (length zs) xs) ∙ ap (λ (l : List ℕ). l ++ drop (length zs) xs) front

-- 8192 bytes have come without a head: none within the limits, whatever follows
too_long : (buf more : List ℕ) → HasNoRequest buf → 8192 ≤ length buf → HasNoHead (buf ++ more)
too_long buf more none full head rest is =
    let short = is.short in
    let part = whole_part buf more (print_request head) rest is.reads.1 (omega arith) in
    none head (drop (length (print_request head)) buf) (is.reads.0, part)

not_empty : (xs ys : List ℕ) → 0 < length xs → xs ++ ys ≢ []
not_empty xs ys some same =
    let none : length xs + length ys ≡ 0 = sym (length-append xs ys) ∙ ap (λ (l : List ℕ). length l) same in
    absurd (omega arith)

-- no byte is no head
pub no_request : HasNoRequest []
unfolding print_request
no_request head rest is =
    let same : 0 ≡ length (print_request head ++ rest) = ap (λ (l : List ℕ). length l) is.1 in
    let some : 0 < length head.method = is.0.method.0 in
    absurd (grind (arith, length-append, same, some))

-- what overflows does so whatever follows
over_more : (buf more : List ℕ) → RequestOverflows 64 buf → RequestOverflows 64 (buf ++ more)
over_more buf more over rest head after reads =
    over (more ++ rest) head after (subst (λ (l : List ℕ). ReadsRequest l head after) (append_assoc buf more rest) reads)

-- the first 8,192 bytes of an input, of which the buffer's bytes are the first
first_bytes : (buf more : List ℕ) → length buf ≤ 8192 → take 8192 (buf ++ more) ≡ buf ++ take (8192 - length buf) more
first_bytes buf more short =
    let all : length buf + (8192 - length buf) ≡ 8192 = omega (arith, short) in
    ap (λ (n : ℕ). take n (buf ++ more)) (sym all) ∙ take-append-add buf more (8192 - length buf)

pub refused_input : (buf : List ℕ) (was : Bool) → 0 < length buf → length buf ≤ 8192 → RequestOverflows 64 buf
    → (input : List ℕ) → MayBe buf was input → IsWithoutHead input 400
refused_input buf was some short over input may =
    subst (λ (l : List ℕ). IsWithoutHead l 400) (sym may.joined) (record {
      some = not_empty buf may.more some;
      none = refused buf may.more over;
      status_is = inl (
        refl,
        inr (subst (λ (l : List ℕ). RequestOverflows 64 l) (sym (first_bytes buf may.more short))
            (over_more buf (take (8192 - length buf) may.more) over)),
      );
    })

pub ended_input : (buf : List ℕ) → 0 < length buf → length buf < 8192 → HasNoRequest buf
    → (input : List ℕ) → MayBe buf true input → IsWithoutHead input 400
ended_input buf some short none input may =
    let same : input ≡ buf = may.joined ∙ (ap (λ (l : List ℕ). buf ++ l) (may.none refl) ∙ append-nil buf) in
    let full : buf ≢ [] = λ e. absurd (not_empty buf [] some (append-nil buf ∙ e)) in
    subst (λ (l : List ℕ). IsWithoutHead l 400) (sym same)
    (record { some = full; none = ended buf none; status_is = inl (refl, inl short) })

pub long_input : (buf : List ℕ) (was : Bool) → length buf ≡ 8192 → HasNoRequest buf → MayBecomeRequest buf
    → (input : List ℕ) → MayBe buf was input → IsWithoutHead input 431
long_input buf was full none goes_on input may =
    let long : 8192 ≤ length (buf ++ may.more) = omega (arith, full, length-append buf may.more) in
    let front : take 8192 (buf ++ may.more) ≡ buf = ap (λ (n : ℕ). take n (buf ++ may.more)) (sym full) ∙ take-append_seam buf may.more in
    subst (λ (l : List ℕ). IsWithoutHead l 431) (sym may.joined) (record {
      some = not_empty buf may.more (omega (arith, full));
      none = too_long buf may.more none (omega (arith, full));
      status_is = inr (refl, long, subst (λ (l : List ℕ). MayBecomeRequest l) (sym front) goes_on);
    })
