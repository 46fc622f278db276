-- Whether a connection stays open, by the facts of the head that the bytes begin with.
use Rattle.std.proofs.Common.{◌≡◌, ℕ, ◌+◌, ◌-◌, ◌≤◌, ◌<◌, ◌==◌, ◌&&◌, ◌||◌, not, Bool, false, true≢false, IsTrue, [], length, length-append, Result, Ok, Err, refl, sym, ap, subst, ◌∙◌, arith}
use Rattle.std.proofs.lemmas.List.{nil_from_length}
use Rattle.http1.specs.declared.fields.KnownFields.{KnownFields}
use Rattle.http1.specs.Framing.{method_kind, request_framing}
use Rattle.http1.specs.declared.framing.Framing.{Framing}
use Rattle.http1.specs.declared.framing.Framing.TheVariants.{NoBody, Length, Chunked, UntilClose}
use Rattle.http1.specs.declared.framing.FramingError.{FramingError}
use Rattle.httparse.specs.Grammar.{RequestHead, print_request}
use Rattle.httparse.proofs.GrammarLemmas.{request_unique}
use Rattle.tl_hash.specs.Bytes.{Bytes}
use Rattle.tl_server.specs.Head.{HasHead}
use Rattle.tl_keepalive.specs.KeepAlive.{HasLength, Stays, WaitsForContinue, asks_to_stay, known, may_follow}
use Rattle.tl_keepalive.specs.Inner.Facts.{AreFacts}
use Rattle.tl_keepalive.specs.declared.facts.Facts.{Facts}

-- a request has one length at most
one_length : (r : Result Framing FramingError) (n m : ℕ) → HasLength r n → HasLength r m → n ≡ m
one_length (Ok NoBody) n m x y = x ∙ sym y
one_length (Ok (Length k)) n m x y = x ∙ sym y
one_length (Ok Chunked) n m x y = absurd x
one_length (Ok UntilClose) n m x y = absurd x
one_length (Err e) n m x y = absurd x

module _ (bytes : Bytes) (facts : Facts) (are : AreFacts bytes facts) where
  -- what the facts say of the length
  abbrev Sized : ℕ → Type 0
  Sized n = HasLength (request_framing facts.method facts.minor facts.fields) n

  same_head : (head : RequestHead) (rest : Bytes) → HasHead bytes head rest → (head ≡ are.head) × (rest ≡ are.rest)
  same_head head rest is = request_unique bytes head are.head rest are.rest is.reads are.begins.reads

  framing_is : request_framing facts.method facts.minor facts.fields ≡ request_framing (method_kind are.head.method) are.head.minor (known are.head)
  framing_is = rw (are.method, are.minor, are.fields) refl

  -- the length by the head is the length by the facts
  by_facts : (head : RequestHead) → head ≡ are.head → (n : ℕ) → HasLength (request_framing (method_kind head.method) head.minor (known head)) n → Sized n
  by_facts head same n sized =
      subst (λ (r : Result Framing FramingError). HasLength r n) (sym framing_is)
      (subst (λ (h : RequestHead). HasLength (request_framing (method_kind h.method) h.minor (known h)) n) same sized)

  asks_is : not facts.fields.close && ((facts.minor == 1) || facts.fields.keep_alive) ≡ asks_to_stay are.head
  asks_is = rw (are.minor, are.fields) refl

  pub unasked : not facts.fields.close && ((facts.minor == 1) || facts.fields.keep_alive) ≡ false → (status end : ℕ) → ¬ (Stays bytes status end)
  unasked none status end is =
      let asked = subst (λ (h : RequestHead). IsTrue (asks_to_stay h)) (same_head is.head is.rest is.begins).0 is.asked in
      true≢false (sym asked ∙ (sym asks_is ∙ none))

  pub unsized : ((n : ℕ) → ¬ (Sized n)) → (status end : ℕ) → ¬ (Stays bytes status end)
  unsized none status end is = none is.body (by_facts is.head (same_head is.head is.rest is.begins).0 is.body is.sized)

  whole_length : length bytes ≡ facts.len + length are.rest
  whole_length = ap (λ (l : Bytes). length l) are.begins.reads.1 ∙ (length-append (print_request are.head) are.rest ∙ ap (λ (n : ℕ). n + length are.rest) (sym are.len))

  pub within : facts.len ≤ length bytes
  within = let all = whole_length in omega (arith, all)

  pub cut : (body : ℕ) → Sized body → length bytes - facts.len < body → (status end : ℕ) → ¬ (Stays bytes status end)
  cut body sized short status end is =
      let heads = same_head is.head is.rest is.begins in
      let same = one_length (request_framing facts.method facts.minor facts.fields) is.body body (by_facts is.head heads.0 is.body is.sized) sized in
      let rests = ap (λ (l : Bytes). length l) heads.1 in
      let all = whole_length in
      let whole = is.whole in
      absurd (omega (arith, same, rests, all, whole, short))

  pub stays : (status body : ℕ) → IsTrue (may_follow status) → IsTrue (not facts.fields.close && ((facts.minor == 1) || facts.fields.keep_alive))
      → Sized body → body ≤ length bytes - facts.len → (facts.len + body ≤ length bytes) × Stays bytes status (facts.len + body)
  stays status body answered asked sized fits =
      let all = whole_length in (
        omega (arith, all, fits),
        record {
          head = are.head;
          rest = are.rest;
          body = body;
          begins = are.begins;
          asked = subst (λ (b : Bool). IsTrue b) asks_is asked;
          answered = answered;
          sized = subst (λ (r : Result Framing FramingError). HasLength r body) framing_is sized;
          whole = omega (arith, all, fits);
          end_is = ap (λ (n : ℕ). n + body) are.len;
        },
      )

  -- ---- 100

  pub waits : facts.len ≡ length bytes → facts.minor ≡ 1 → IsTrue facts.fields.expect_continue → WaitsForContinue bytes
  waits all minor expects =
      let whole = whole_length in
      let none : length are.rest ≡ 0 = omega (arith, whole, all) in
      record {
        head = are.head;
        begins = subst (λ (r : Bytes). HasHead bytes are.head r) (nil_from_length are.rest none) are.begins;
        version = sym are.minor ∙ minor;
        expects = subst (λ (k : KnownFields). IsTrue k.expect_continue) are.fields expects;
      }

  pub waited : WaitsForContinue bytes → (facts.len ≡ length bytes) × (facts.minor ≡ 1) × IsTrue facts.fields.expect_continue
  waited is =
      let heads = same_head is.head [] is.begins in
      let whole = whole_length in
      let none : 0 ≡ length are.rest = ap (λ (l : Bytes). length l) heads.1 in (
        omega (arith, whole, none),
        are.minor ∙ (ap (λ (h : RequestHead). h.minor) (sym heads.0) ∙ is.version),
        subst (λ (k : KnownFields). IsTrue k.expect_continue) (ap known heads.0 ∙ sym are.fields) is.expects,
      )
