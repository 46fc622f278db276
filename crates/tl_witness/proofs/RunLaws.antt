-- Laws of runs.
use Rattle.std.proofs.Common.{◌≡◌, ℕ, zero, suc, ◌+◌, List, [], ◌∷◌, ◌++◌, Some, ◌⊎◌, inl, inr, refl, ap, sym, ◌∙◌, subst, append_assoc, append-nil, drop, slice_get, arith}
use Rattle.std.specs.Prelude.{slice_set}
use Rattle.std.proofs.lemmas.List.Elements.{All-head, All-tail, All-cons, All-nil}
use Rattle.tl_hash.specs.Bytes.{Digest}
use Rattle.tl_proof.specs.Acceptance.{Step, Linked}
use Rattle.tl_proof.specs.Laws.{MadeOfHashes}
use Rattle.tl_witness.specs.Chain.{TreeHead, head_after, first_head, last_head, Follows, IsLinked, IsChain}
use Rattle.tl_witness.specs.Witnessed.{Witnessed, with_step}
use Rattle.tl_witness.specs.Answers.{Answers}
use Rattle.tl_witness.specs.Decide.{Asked, Outcome, Refuses, Decides, Settles, KeepsStep}
use Rattle.tl_witness.specs.Book.{BookOutcome, DecidesBody, IsLawful, IsSigned, Signed, asked_of}
use Rattle.tl_witness.specs.Request.{Body, IsRequest}
use Rattle.tl_witness.specs.Inner.Laws.{BooksOnlyGrow, ChainsAreLinkedFromEachStep, ChainsOnlyGrow}
use Rattle.tl_witness.specs.Runs.{IsLaterChain, IsRun, IsBookRun, IsLater, IsLaterBook}
use Rattle.tl_witness.proofs.ChainLaws.{linked-none, linked-one, linked-after, chain-snoc}

-- an outcome leaves the origin as it was, or with one step more that follows its last head
abbrev pub Moves : (List ℕ → List ℕ) → Outcome → Type 0
Moves H out =
    (out.one_after ≡ out.one)
    ⊎ ((step : Step) × (out.one_after ≡ with_step out.one step) × Follows H (last_head (first_head H) out.one.chain) step × MadeOfHashes step)

kept : (H : Digest) (out : Outcome) (size : ℕ) (step : Step)
    → Follows H (last_head (first_head H) out.one.chain) step → MadeOfHashes step → KeepsStep out size step → Moves H out
kept H out size step follows made (inl same) = inl same.1.1
kept H out size step follows made (inr longer) = inr (step, longer.2, follows, made)

settled : (H : Digest) (out : Outcome) (asked : Asked)
    → Follows H (last_head (first_head H) out.one.chain) asked.step → MadeOfHashes asked.step → Settles out (last_head (first_head H) out.one.chain).size asked → Moves H out
settled H out asked follows made (inl refused) = inl refused.1.2.1
settled H out asked follows made (inr (inl failed)) = inl failed.1.3
settled H out asked follows made (inr (inr done)) = kept H out _ asked.step follows made done.1

-- every decision is such an outcome
pub moves : (H : Digest) (asked : Asked) (out : Outcome) → MadeOfHashes asked.step → Decides H asked out → Moves H out
moves H asked out made (inl closed) = inl closed.1.2.1
moves H asked out made (inr (opened, inl below)) = inl below.1.2.1
moves H asked out made (inr (opened, inr (above, inl other))) = inl other.1.2.1
moves H asked out made (inr (opened, inr (above, inr (same, inl fork)))) = inl fork.1.2.1
moves H asked out made (inr (opened, inr (above, inr (same, inr (one, inl wrong))))) = inl wrong.1.2.1
moves H asked out made (inr (opened, inr (above, inr (same, inr (one, inr right))))) = settled H out asked right.0 made right.1

-- and so is a refusal
pub moves_or_stays : (H : Digest) (asked : Asked) (out : Outcome) → MadeOfHashes asked.step → Decides H asked out ⊎ Refuses out 500 → Moves H out
moves_or_stays H asked out made (inl decided) = moves H asked out made decided
moves_or_stays H asked out made (inr refused) = inl refused.2.1

-- what a request asks is made of hashes
pub asked_made : (body note : List ℕ) (request : Body) (signed : Signed) (time : ℕ) → IsRequest body request → IsSigned note signed → MadeOfHashes (asked_of request signed time).step
asked_made body note request signed time reads is = (is.head.root.length, λ k d lt. (reads.lawful.hashes k d lt).length)

later-refl : (H : Digest) (chain : List Step) → IsChain H chain → IsLaterChain H chain chain
later-refl H chain is = (is, ([], sym (append-nil chain), linked-none H (last_head (first_head H) chain)))

pub later-trans : (H : Digest) (a b c : List Step) → IsLaterChain H a b → IsLaterChain H b c → IsLaterChain H a c
later-trans H a b c ab bc =
    let whole : c ≡ a ++ (ab.1.0 ++ bc.1.0) = bc.1.1 ∙ (ap (λ l. l ++ bc.1.0) ab.1.1 ∙ append_assoc a ab.1.0 bc.1.0) in (
      bc.0,
      (ab.1.0 ++ bc.1.0, whole, linked-after H (first_head H) a (ab.1.0 ++ bc.1.0) (subst (IsLinked H (first_head H)) whole bc.0.linked)),
    )

abbrev chain_of : Witnessed → List Step
chain_of one = one.chain

pub stepped : (H : Digest) (out : Outcome) → IsChain H out.one.chain → Moves H out → IsLaterChain H out.one.chain out.one_after.chain
stepped H out is (inl same) = rw (ap chain_of same) (later-refl H out.one.chain is)
stepped H out is (inr grown) =
    rw (ap chain_of grown.1) (
      chain-snoc H out.one.chain grown.0 is grown.2 grown.3,
      (grown.0 ∷ [], refl, linked-one H (last_head (first_head H) out.one.chain) grown.0 grown.2),
    )

pub chains_only_grow : ChainsOnlyGrow
chains_only_grow H one last outs is run = go outs one last is run
  where
    go : (outs : List Outcome) (one last : Witnessed) → IsChain H one.chain → IsRun H one outs last → IsLaterChain H one.chain last.chain
    go [] one last is run = rw (ap chain_of run) (later-refl H one.chain is)
    go (out ∷ outs) one last is run =
        let from = ap chain_of run.0 in
        let is' : IsChain H out.one.chain = rw from is in
        let first = stepped H out is' (moves_or_stays H run.1.0 out run.1.1 run.1.2) in
        let rest = go outs out.one_after last first.0 run.2 in
        rw (← from) (later-trans H out.one.chain out.one_after.chain last.chain first rest)

-- ---- whole books

-- only the chain differs
same_trust : (H : Digest) (out : Outcome) → IsChain H out.one.chain → Moves H out → IsLater H out.one out.one_after
same_trust H out is (inl same) = record {
  origin = ap (λ (o : Witnessed). o.origin) same;
  verifiers = ap (λ (o : Witnessed). o.verifiers) same;
  cosigner = ap (λ (o : Witnessed). o.cosigner) same;
  chain = stepped H out is (inl same);
}
same_trust H out is (inr grown) = record {
  origin = ap (λ (o : Witnessed). o.origin) grown.1;
  verifiers = ap (λ (o : Witnessed). o.verifiers) grown.1;
  cosigner = ap (λ (o : Witnessed). o.cosigner) grown.1;
  chain = stepped H out is (inr grown);
}

one-refl : (H : Digest) (one : Witnessed) → IsChain H one.chain → IsLater H one one
one-refl H one is = record { origin = refl; verifiers = refl; cosigner = refl; chain = later-refl H one.chain is }

one-trans : (H : Digest) (a b c : Witnessed) → IsLater H a b → IsLater H b c → IsLater H a c
one-trans H a b c ab bc = record {
  origin = bc.origin ∙ ab.origin;
  verifiers = bc.verifiers ∙ ab.verifiers;
  cosigner = bc.cosigner ∙ ab.cosigner;
  chain = later-trans H a.chain b.chain c.chain ab.chain bc.chain;
}

abbrev HasChain : (List ℕ → List ℕ) → Witnessed → Type 0
HasChain H one = IsChain H one.chain

book-refl : (H : Digest) (book : List Witnessed) → IsLawful H book → IsLaterBook H book book
book-refl H [] lawful = refl
book-refl H (one ∷ book) lawful =
    (one, book, refl, one-refl H one (All-head (HasChain H) one book lawful), book-refl H book (All-tail (HasChain H) one book lawful))

pub book-trans : (H : Digest) (a b c : List Witnessed) → IsLaterBook H a b → IsLaterBook H b c → IsLaterBook H a c
book-trans H [] b c ab bc = subst (λ (x : List Witnessed). IsLaterBook H x c) ab bc
book-trans H (one ∷ a) b c ab bc =
    let cd = subst (λ (x : List Witnessed). IsLaterBook H x c) ab.2 bc in
    (cd.0, cd.1, cd.2, one-trans H one ab.0 cd.0 ab.3 cd.3, book-trans H a ab.1 cd.1 ab.4 cd.4)

-- a later book is lawful
pub later_lawful : (H : Digest) (book later : List Witnessed) → IsLaterBook H book later → IsLawful H later
later_lawful H [] later is = subst (IsLawful H) (sym is) (All-nil (HasChain H))
later_lawful H (one ∷ book) later is =
    subst (IsLawful H) (sym is.2) (All-cons (HasChain H) is.0 is.1 is.3.chain.0 (later_lawful H book is.1 is.4))

-- one position has a later origin, and the others are as they were
set_later : (H : Digest) (book : List Witnessed) (at : ℕ) (one after : Witnessed) → IsLawful H book → slice_get book at ≡ Some one
    → IsLater H one after → IsLaterBook H book (slice_set book at after)
set_later H [] at one after lawful there is = absurd cc
set_later H (first ∷ book) zero one after lawful there is =
    let same : first ≡ one = cc in
    (after, book, refl, subst (λ (o : Witnessed). IsLater H o after) (sym same) is, book-refl H book (All-tail (HasChain H) first book lawful))
set_later H (first ∷ book) (suc at) one after lawful there is = (
  first,
  slice_set book at after,
  refl,
  one-refl H first (All-head (HasChain H) first book lawful),
  set_later H book at one after (All-tail (HasChain H) first book lawful) there is,
)

pub place_lawful : (H : Digest) (book : List Witnessed) (at : ℕ) (one : Witnessed) → IsLawful H book → slice_get book at ≡ Some one → IsChain H one.chain
place_lawful H [] at one lawful there = absurd cc
place_lawful H (first ∷ book) zero one lawful there =
    let same : first ≡ one = cc in subst (HasChain H) same (All-head (HasChain H) first book lawful)
place_lawful H (first ∷ book) (suc at) one lawful there = place_lawful H book at one (All-tail (HasChain H) first book lawful) there

-- one request leaves a later book
decided : (H : Digest) (body : List ℕ) (time : ℕ) (out : BookOutcome) → IsLawful H out.book → DecidesBody H body time out → IsLaterBook H out.book out.book_after
decided H body time out lawful (inl none) = rw none.1.3 (book-refl H out.book lawful)
decided H body time out lawful (inr (request, is, inl none)) = rw none.1.3 (book-refl H out.book lawful)
decided H body time out lawful (inr (request, is, inr (signed, reads, inl none))) = rw none.1.3 (book-refl H out.book lawful)
decided H body time out lawful (inr (request, is, inr (signed, reads, inr (placed, of, changed)))) =
    let chain = place_lawful H out.book placed.place placed.one lawful of.0 in
    let one : Outcome = record { status = out.status; body = out.body; saved = out.saved; saved_after = out.saved_after; one = placed.one; one_after = changed.0 } in
    rw changed.1 (set_later H out.book placed.place placed.one changed.0 lawful of.0 (same_trust H one chain (moves H (asked_of request signed time) one (asked_made body request.note request signed time is reads) changed.2)))

pub answered : (H : Digest) (body : List ℕ) (time : ℕ) (out : BookOutcome) → IsLawful H out.book → Answers H body time out → IsLaterBook H out.book out.book_after
answered H body time out lawful (inl is) = decided H body time out lawful is
answered H body time out lawful (inr refused) = rw refused.1.3 (book-refl H out.book lawful)

pub books_only_grow : BooksOnlyGrow
books_only_grow H book last outs lawful run = go outs book last lawful run
  where
    go : (outs : List BookOutcome) (book last : List Witnessed) → IsLawful H book → IsBookRun H book outs last → IsLaterBook H book last
    go [] book last lawful run = subst (IsLaterBook H book) (sym run) (book-refl H book lawful)
    go (out ∷ outs) book last lawful run =
        let lawful' = subst (IsLawful H) (sym run.0) lawful in
        let first = answered H run.1.0 run.1.1 out lawful' run.1.2 in
        let rest = go outs out.book_after last (later_lawful H out.book out.book_after first) run.2 in
        subst (λ (b : List Witnessed). IsLaterBook H b last) run.0 (book-trans H out.book out.book_after last first rest)

-- ---- from each step

linked_from : (H : Digest) (old : TreeHead) (chain : List Step) (place : ℕ) (step : Step) → IsLinked H old chain → slice_get chain place ≡ Some step
    → Linked H step.size step.root (drop (place + 1) chain)
unfolding Linked
linked_from H old [] place step is there = absurd cc
linked_from H old (first ∷ chain) zero step is there =
    let same : first ≡ step = cc in subst (λ (s : Step). Linked H s.size s.root chain) same is.1
linked_from H old (first ∷ chain) (suc place) step is there =
    let next : suc (place + 1) ≡ suc place + 1 = omega arith in
    subst (λ (n : ℕ). Linked H step.size step.root (drop n (first ∷ chain))) next (linked_from H (head_after first) chain place step is.1 there)

pub chains_are_linked : ChainsAreLinkedFromEachStep
chains_are_linked H chain is = (is.linked, λ place step there. linked_from H (first_head H) chain place step is.linked there)
