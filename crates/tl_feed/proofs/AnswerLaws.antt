-- A question has one result for an input, unless an allocation fails.
use Rattle.std.proofs.Common.{◌≡◌, ◌⊎◌, ℕ, List, [], ◌∷◌, ◌++◌, Option, Ok, Err, ap, arith, codes, inl, inr, subst, sym, ◌∙◌}
use Rattle.std.proofs.lemmas.Fmt.{decimal_injective}
use Rattle.tl_text.specs.Text.{line, number_text}
use Rattle.tl_text.proofs.Lines.{one_line}
use Rattle.tl_text.proofs.PlainText.{number_plain}
use Rattle.tl_http.specs.Exchange.{Answers}
use Rattle.tl_http.specs.Persistence.{body_framing}
use Rattle.tl_http.specs.Post.{Replied, Replies, ReplyDecides}
use Rattle.tl_http.proofs.ResponseLaws.{one_reply}
use Rattle.tl_feed.specs.Answer.{At, AnswerDecides, Answered, IsSizeLine, LinesDecide, SizeDecides}
use Rattle.tl_feed.specs.Asking.{most_answer, wanted}
use Rattle.tl_feed.proofs.AskLemmas.{two_statuses}
use Rattle.tl_feed.specs.declared.fault.AskFault.TheVariants.{OutOfMemory}

-- two results are equal, or one is that an allocation failed
abbrev pub IsOneAnswer : Answered → Answered → Type 0
IsOneAnswer r q = (r ≡ q) ⊎ ((r ≡ Err OutOfMemory) ⊎ (q ≡ Err OutOfMemory))

-- a line writes one size
one_size_line : (bytes : List ℕ) (m n : ℕ) → IsSizeLine bytes m → IsSizeLine bytes n → m ≡ n
one_size_line bytes m n a b =
    let first = a.0 in
    let second = b.0 in
    let whole : line (number_text m) ++ [] ≡ line (number_text n) ++ [] = ap (λ (l : List ℕ). l ++ []) (sym a.1 ∙ b.1) in
    let same = one_line (number_text m) (number_text n) [] [] (number_plain m (omega (arith, first))) (number_plain n (omega (arith, second))) whole in
    decimal_injective m n (omega (arith, first)) (omega (arith, second)) same.0

one_lines : (body : List ℕ) (r q : Answered) → LinesDecide body r → LinesDecide body q → IsOneAnswer r q
one_lines body r q (inl a) (inl b) = inl (a.1 ∙ sym b.1)
one_lines body r q (inl a) (inr b) = absurd (a.0 b.0)
one_lines body r q (inr a) (inl b) = absurd (b.0 a.0)
one_lines body r q (inr (are, inl none)) (inr b) = inr (inl none)
one_lines body r q (inr (are, inr so)) (inr (is, inl none)) = inr (inr none)
one_lines body r q (inr (are, inr so)) (inr (is, inr same)) = inl (so ∙ sym same)

-- an answer that is a size
abbrev told : ℕ → Answered
told size = Ok (At size)

one_size : (kind : Option (List ℕ)) (body : List ℕ) (r q : Answered) → SizeDecides kind body r → SizeDecides kind body q → IsOneAnswer r q
one_size kind body r q (inl a) (inl b) = inl (a.1 ∙ sym b.1)
one_size kind body r q (inl a) (inr b) = absurd (a.0 b.0)
one_size kind body r q (inr a) (inl b) = absurd (b.0 a.0)
one_size kind body r q (inr (is, inl a)) (inr (are, inl b)) = inl (a.1 ∙ sym b.1)
one_size kind body r q (inr (is, inl a)) (inr (are, inr b)) = absurd (a.0 b.0 b.1)
one_size kind body r q (inr (is, inr a)) (inr (are, inl b)) = absurd (b.0 a.0 a.1)
one_size kind body r q (inr (is, inr a)) (inr (are, inr b)) = inl (a.2 ∙ (ap told (one_size_line body a.0 b.0 a.1 b.1) ∙ sym b.2))

one_decided : (reply : Replied) (r q : Answered) → AnswerDecides reply r → AnswerDecides reply q → IsOneAnswer r q
one_decided (Err fault) r q a b = inl (a ∙ sym b)
one_decided (Ok given) r q (inl a) (inl b) = one_lines given.body r q a.1 b.1
one_decided (Ok given) r q (inl a) (inr b) = let first = a.0 in let second = b.0 in absurd (omega (arith, first, second))
one_decided (Ok given) r q (inr a) (inl b) = let first = a.0 in let second = b.0 in absurd (omega (arith, first, second))
one_decided (Ok given) r q (inr a) (inr b) = one_size given.field given.body r q a.1 b.1

-- what the responses that are wanted are framed by is what their fields say
framed_so : (input : List ℕ) (x : Replied) → Answers wanted input x → Replies (200 ∷ 409 ∷ []) (codes "Content-Type") most_answer input x
framed_so input x (inl none) = inl none
framed_so input x (inr (b, begins, inl version)) = inr (b, begins, inl version)
framed_so input x (inr (b, begins, inr (version, inl status))) = inr (b, begins, inr (version, inl status))
framed_so input x (inr (b, begins, inr (version, inr (status, inl encoded)))) = inr (b, begins, inr (version, inr (status, inl encoded)))
framed_so input x (inr (b, begins, inr (version, inr (status, inr (plain, inl length))))) =
    inr (b, begins, inr (version, inr (status, inr (plain, inl length))))
framed_so input x (inr (b, begins, inr (version, inr (status, inr (plain, inr (framing, framed, decides)))))) =
    let as_framed : ReplyDecides (codes "Content-Type") most_answer b framing x =
    elim (two_statuses _ status) as (λ _. ReplyDecides (codes "Content-Type") most_answer b framing x) [
      | inl is ↦ subst (λ (n : ℕ). ReplyDecides (codes "Content-Type") most_answer b (body_framing n framing) x) is decides
      | inr is ↦ subst (λ (n : ℕ). ReplyDecides (codes "Content-Type") most_answer b (body_framing n framing) x) is decides
    ] in
    inr (b, begins, inr (version, inr (status, inr (plain, inr (framing, framed, as_framed)))))

-- an input has one answer, unless an allocation fails
pub one_answer : (input : List ℕ) (x y : Replied) (r q : Answered)
    → Answers wanted input x → AnswerDecides x r → Answers wanted input y → AnswerDecides y q → IsOneAnswer r q
one_answer input x y r q first a second b =
    elim (one_reply (200 ∷ 409 ∷ []) (codes "Content-Type") most_answer input x y (framed_so input x first) (framed_so input y second)) as (λ _. IsOneAnswer r q) [
      | inl same ↦ one_decided y r q (subst (λ (z : Replied). AnswerDecides z r) same a) b
      | inr (inl none) ↦ inr (inl (subst (λ (z : Replied). AnswerDecides z r) none a))
      | inr (inr none) ↦ inr (inr (subst (λ (z : Replied). AnswerDecides z q) none b))
    ]
