-- What a parser's refusal means for an input of which a part was read.
use Rattle.std.proofs.Common.{◌≡◌, ◌+◌, ◌≤◌, ℕ, List, [], ◌∷◌, ◌++◌, All, length, length-append, slice_range, take, drop, arith, sym, ◌∙◌, ap, subst, append-nil, append_assoc, true, Bool, refl}
use Rattle.std.proofs.lemmas.List.{take-append-le, take-append-drop}
use Rattle.std.proofs.lemmas.List.Elements.{All-head, All-tail}
use Rattle.std.proofs.Math.Seq.{take-append_seam}
use Rattle.std.specs.List.{flat_map}
use Rattle.httparse.specs.Grammar.{HasNoResponse, ReadsResponse, ResponseHead, print_response, status_code}
use Rattle.httparse.specs.Spans.{ResponseOverflows}
use Rattle.httparse.proofs.GrammarLemmas.{response_unique}
use Rattle.tl_device.specs.Reading.{MayBe}
use Rattle.tl_http.specs.Response.{Begins, Begun, IsInterim, IsInterimStatus}
use Rattle.tl_http.specs.Inner.Heads.{HasNoHead, Passed}

-- ---- the first head after those that were passed

-- the input goes on with a head that is within the limits, after `past` bytes of interim heads
pub record Next (input : List ℕ) (past most : ℕ) : Type 0 where
  pub head : ResponseHead
  pub rest : List ℕ
  pub reads : ReadsResponse input head rest
  pub few : length head.fields ≤ 64
  pub short : past + length (print_response head) ≤ most

-- a text begins with at most one head
heads_same : (x y : ResponseHead) (xs ys : List ℕ) → IsInterim x → ReadsResponse (print_response y ++ ys) y ys → print_response x ++ xs ≡ print_response y ++ ys
    → (x ≡ y) × (xs ≡ ys)
heads_same x y xs ys is reads same =
    response_unique (print_response y ++ ys) x y xs ys (is.valid, sym same) reads

next : (xs ys : List ResponseHead) (tail after : List ℕ) (head : ResponseHead) (rest : List ℕ) → All IsInterim xs → All IsInterim ys
    → flat_map print_response xs ++ tail ≡ flat_map print_response ys ++ after → ReadsResponse after head rest → ¬ (IsInterimStatus (status_code head)) → length head.fields ≤ 64
    → Next tail (length (flat_map print_response xs)) (length (flat_map print_response ys) + length (print_response head))
next [] [] tail after head rest first then same reads final few =
    record { head = head; rest = rest; reads = subst (λ (l : List ℕ). ReadsResponse l head rest) (sym same) reads; few = few; short = omega arith }
next [] (y ∷ ys) tail after head rest first then same reads final few =
    let is : IsInterim y = All-head IsInterim y ys then in
    let many = is.few in
    record {
      head = y;
      rest = flat_map print_response ys ++ after;
      reads = (is.valid, same ∙ append_assoc (print_response y) (flat_map print_response ys) after);
      few = many;
      short = omega (arith, length-append (print_response y) (flat_map print_response ys));
    }
next (x ∷ xs) [] tail after head rest first then same reads final few =
    let is : IsInterim x = All-head IsInterim x xs first in
    let texts : print_response x ++ (flat_map print_response xs ++ tail) ≡ print_response head ++ rest =
    sym (append_assoc (print_response x) (flat_map print_response xs) tail) ∙ (same ∙ reads.1) in
    let one = heads_same x head (flat_map print_response xs ++ tail) rest is (reads.0, refl) texts in
    absurd (final (subst (λ (h : ResponseHead). IsInterimStatus (status_code h)) one.0 is.status))
next (x ∷ xs) (y ∷ ys) tail after head rest first then same reads final few =
    let a : IsInterim x = All-head IsInterim x xs first in
    let b : IsInterim y = All-head IsInterim y ys then in
    let texts : print_response x ++ (flat_map print_response xs ++ tail) ≡ print_response y ++ (flat_map print_response ys ++ after) =
    sym (append_assoc (print_response x) (flat_map print_response xs) tail) ∙ (same ∙ append_assoc (print_response y) (flat_map print_response ys) after) in
    let one = heads_same x y (flat_map print_response xs ++ tail) (flat_map print_response ys ++ after) a (b.valid, refl) texts in
    let below = next xs ys tail after head rest (All-tail IsInterim x xs first) (All-tail IsInterim y ys then) one.1 reads final few in
    let long : length (print_response x) ≡ length (print_response y) = ap (λ (h : ResponseHead). length (print_response h)) one.0 in
    let short = below.short in
    record {
      head = below.head;
      rest = below.rest;
      reads = below.reads;
      few = below.few;
      short = omega (
        arith,
        short,
        long,
        length-append (print_response x) (flat_map print_response xs),
        length-append (print_response y) (flat_map print_response ys),
      );
    }

-- an input that begins with a head goes on with one after those that were passed
next_read : (buf : List ℕ) (start len : ℕ) (more input : List ℕ) (passed : Passed buf start len) → input ≡ take len buf ++ more → (b : Begun) → Begins input b
    → Next (slice_range buf start len ++ more) (length (flat_map print_response passed.heads)) 8192
next_read buf start len more input passed joined b is =
    let xs : List ℕ = flat_map print_response passed.heads in
    let part : List ℕ = slice_range buf start len in
    let same : xs ++ (part ++ more) ≡ flat_map print_response is.interim ++ is.after =
    sym (append_assoc xs part more) ∙ (ap (λ (l : List ℕ). l ++ more) (sym passed.joined) ∙ (sym joined ∙ is.joined)) in
    let one = next passed.heads is.interim (part ++ more) is.after b.head b.rest passed.interim is.passed same is.reads is.final is.few in
    let short = one.short in
    let whole = is.short in
    record { head = one.head; rest = one.rest; reads = one.reads; few = one.few; short = omega (arith, short, whole) }

-- ---- what was read

-- an error of the parser, with room for 64 fields: no head within the limits, whatever follows
pub refused_input : (buf : List ℕ) (start len : ℕ) (was : Bool) → Passed buf start len → ResponseOverflows 64 (slice_range buf start len)
    → (input : List ℕ) → MayBe (take len buf) was input → HasNoHead input
refused_input buf start len was passed over input may = λ b is.
    let one = next_read buf start len may.more input passed may.joined b is in
    let many = over may.more one.head one.rest one.reads in
    let few = one.few in
    absurd (omega (arith, many, few))

-- the input has ended, and what follows those that were passed is no head
pub ended_input : (buf : List ℕ) (start len : ℕ) → Passed buf start len → HasNoResponse (slice_range buf start len)
    → (input : List ℕ) → MayBe (take len buf) true input → HasNoHead input
ended_input buf start len passed none input may = λ b is.
    let part : List ℕ = slice_range buf start len in
    let one = next_read buf start len may.more input passed may.joined b is in
    let all : part ++ may.more ≡ part = ap (λ (l : List ℕ). part ++ l) (may.none refl) ∙ append-nil part in
    none one.head one.rest (subst (λ (l : List ℕ). ReadsResponse l one.head one.rest) all one.reads)

-- a beginning that is long enough has the whole first part
whole_part : (xs ys zs ws : List ℕ) → xs ++ ys ≡ zs ++ ws → length zs ≤ length xs → xs ≡ zs ++ drop (length zs) xs
whole_part xs ys zs ws same long =
    let front : take (length zs) xs ≡ zs =
    sym (take-append-le (length zs) xs ys long) ∙ (ap (λ (l : List ℕ). take (length zs) l) same ∙ take-append_seam zs ws) in
    sym (take-append-drop (length zs) xs) ∙ ap (λ (l : List ℕ). l ++ drop (length zs) xs) front

-- 8,192 bytes have come without a head: none within the limits, whatever follows
pub long_input : (buf : List ℕ) (start len : ℕ) (was : Bool) → 8192 ≤ length (take len buf) → Passed buf start len → HasNoResponse (slice_range buf start len)
    → (input : List ℕ) → MayBe (take len buf) was input → HasNoHead input
long_input buf start len was full passed none input may = λ b is.
    let part : List ℕ = slice_range buf start len in
    let past : List ℕ = flat_map print_response passed.heads in
    let one = next_read buf start len may.more input passed may.joined b is in
    let text : List ℕ = print_response one.head in
    let short = one.short in
    let sum : length (take len buf) ≡ length past + length part = ap (λ (l : List ℕ). length l) passed.joined ∙ length-append past part in
    let whole = whole_part part may.more text one.rest one.reads.1 (omega (arith, short, full, sum)) in
    none one.head (drop (length text) part) (one.reads.0, whole)
