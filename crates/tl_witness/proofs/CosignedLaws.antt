-- Of two cosigned checkpoints of one origin, each list of the earlier one is a prefix of each list of the later one,
-- or two strings collide.
use Rattle.std.proofs.Common.{◌≡◌, ℕ, zero, suc, List, [], ◌∷◌, ◌++◌, Some, ◌⊎◌, inl, inr, refl, ap, sym, ◌∙◌, subst, slice_get, arith, length, All}
use Rattle.std.specs.Prelude.{slice_set}
use Rattle.std.proofs.lemmas.List.Elements.{All-tail}
use Rattle.tl_hash.specs.Bytes.{Digest}
use Rattle.tl_hash.specs.Tree.{tree_hash}
use Rattle.tl_checkpoint.specs.Checkpoint.{Head}
use Rattle.tl_proof.specs.Collisions.{IsPrefix, Exhibits, audit_inputs}
use Rattle.tl_proof.specs.Acceptance.{Step, EndsWith}
use Rattle.tl_proof.specs.Laws.{MadeOfHashes}
use Rattle.tl_proof.specs.Inner.Laws.{LinksExtendOrCollide}
use Rattle.tl_witness.specs.Answers.{Answers}
use Rattle.tl_witness.specs.Book.{BookOutcome, DecidesBody, IsLawful, IsPlacedIn, asked_of}
use Rattle.tl_witness.specs.Chain.{TreeHead, head_after, first_head, last_head, IsLinked}
use Rattle.tl_witness.specs.Cosigned.{IsCosigned, origins_of}
use Rattle.tl_witness.specs.Inner.Laws.{CosignedExtendOrCollide}
use Rattle.tl_witness.specs.Decide.{Asked, Outcome, Decides, Settles}
use Rattle.tl_witness.specs.Open.{HasTwice, IsAmong}
use Rattle.tl_witness.specs.Runs.{IsBookRun, IsLater, IsLaterBook}
use Rattle.tl_witness.specs.Witnessed.{Witnessed}
use Rattle.tl_witness.proofs.BookLaws.{at_one}
use Rattle.tl_witness.proofs.ChainLaws.{last_head-snoc}
use Rattle.tl_witness.proofs.OneRequest.{one_body_note, one_signed_head}
use Rattle.tl_witness.proofs.RunLaws.{Moves, answered, asked_made, book-trans, books_only_grow, later_lawful, moves, place_lawful}

-- after a cosignature the origin's last head is the one that was asked for
settled_leads : (H : Digest) (out : Outcome) (asked : Asked) → out.status ≡ 200
    → (asked.step.size ≡ (last_head (first_head H) out.one.chain).size → asked.step.root ≡ (last_head (first_head H) out.one.chain).root)
    → Settles out (last_head (first_head H) out.one.chain).size asked → last_head (first_head H) out.one_after.chain ≡ head_after asked.step
settled_leads H out asked is root (inl refused) = absurd (let e : 500 ≡ 200 = sym refused.1.0 ∙ is in omega arith)
settled_leads H out asked is root (inr (inl failed)) = absurd (let e : 500 ≡ 200 = sym failed.1.0 ∙ is in omega arith)
settled_leads H out asked is root (inr (inr (attests, inl same))) =
    ap (λ (o : Witnessed). last_head (first_head H) o.chain) same.1.1
    ∙ (ap (λ (n : ℕ). record { size = n; root = (last_head (first_head H) out.one.chain).root }) (sym same.0)
    ∙ ap (λ (r : List ℕ). record { size = asked.step.size; root = r }) (sym (root same.0)))
settled_leads H out asked is root (inr (inr (attests, inr longer))) =
    ap (λ (o : Witnessed). last_head (first_head H) o.chain) longer.2 ∙ last_head-snoc (first_head H) out.one.chain asked.step

leads : (H : Digest) (asked : Asked) (out : Outcome) → Decides H asked out → out.status ≡ 200
    → last_head (first_head H) out.one_after.chain ≡ head_after asked.step
leads H asked out (inl closed) is = absurd (let e : 403 ≡ 200 = sym closed.1.0 ∙ is in omega arith)
leads H asked out (inr (opened, inl below)) is = absurd (let e : 400 ≡ 200 = sym below.1.0 ∙ is in omega arith)
leads H asked out (inr (opened, inr (above, inl other))) is = absurd (let e : 409 ≡ 200 = sym other.1.0 ∙ is in omega arith)
leads H asked out (inr (opened, inr (above, inr (same, inl fork)))) is = absurd (let e : 409 ≡ 200 = sym fork.1.0 ∙ is in omega arith)
leads H asked out (inr (opened, inr (above, inr (same, inr (one, inl wrong))))) is = absurd (let e : 422 ≡ 200 = sym wrong.1.0 ∙ is in omega arith)
leads H asked out (inr (opened, inr (above, inr (same, inr (one, inr right))))) is = settled_leads H out asked is one right.1

-- the links of the origin of a checkpoint, which lead to it
record LeadsTo (H : Digest) (book : List Witnessed) (checkpoint : Head) : Type 0 where
  place : ℕ
  one : Witnessed
  is : IsPlacedIn book checkpoint.origin (record { place = place; one = one })
  head : last_head (first_head H) one.chain ≡ record { size = checkpoint.size; root = checkpoint.root }

set_there : (book : List Witnessed) (at : ℕ) (one after : Witnessed) → slice_get book at ≡ Some one → slice_get (slice_set book at after) at ≡ Some after
set_there [] at one after there = absurd cc
set_there (b ∷ book) zero one after there = refl
set_there (b ∷ book) (suc at) one after there = set_there book at one after there

decided_leads : (H : Digest) (checkpoint : Head) (out : BookOutcome) (is : IsCosigned H checkpoint out) → IsLawful H out.book
    → DecidesBody H is.body is.time out → LeadsTo H out.book_after checkpoint
decided_leads H checkpoint out is lawful (inl none) = absurd (none.0 is.request is.reads)
decided_leads H checkpoint out is lawful (inr (request, reads, inl none)) = absurd (let e : 400 ≡ 200 = sym none.1.0 ∙ is.status in omega arith)
decided_leads H checkpoint out is lawful (inr (request, reads, inr (signed, note, inl none))) = absurd (let e : 404 ≡ 200 = sym none.1.0 ∙ is.status in omega arith)
decided_leads H checkpoint out is lawful (inr (request, reads, inr (signed, note, inr (placed, there, changed)))) =
    let same : signed.head ≡ checkpoint = one_signed_head request.note is.request.note signed is.signed (one_body_note is.body request is.request reads is.reads) note is.note ∙ is.is in
    let one : Outcome = at_one out placed.one changed.0 in
    let asked : Asked = asked_of request signed is.time in
    let made = asked_made is.body request.note request signed is.time reads note in
    let chain = place_lawful H out.book placed.place placed.one lawful there.0 in
    let kept : changed.0.origin ≡ placed.one.origin = origin_kept one (moves H asked one made changed.2) in
    record {
      place = placed.place;
      one = changed.0;
      is = (
        subst (λ (b : List Witnessed). slice_get b placed.place ≡ Some changed.0) (sym changed.1) (set_there out.book placed.place placed.one changed.0 there.0),
        kept ∙ there.1 ∙ ap (λ (h : Head). h.origin) same,
      );
      head = leads H asked one changed.2 is.status ∙ ap (λ (h : Head). record { size = h.size; root = h.root }) same;
    }
  where
    origin_kept : (out : Outcome) → Moves H out → out.one_after.origin ≡ out.one.origin
    origin_kept out (inl same) = ap (λ (o : Witnessed). o.origin) same
    origin_kept out (inr grown) = ap (λ (o : Witnessed). o.origin) grown.1

cosigned_leads : (H : Digest) (checkpoint : Head) (out : BookOutcome) → IsCosigned H checkpoint out → IsLawful H out.book → LeadsTo H out.book_after checkpoint
cosigned_leads H checkpoint out is lawful = go is.answered
  where
    go : Answers H is.body is.time out → LeadsTo H out.book_after checkpoint
    go (inl decided) = decided_leads H checkpoint out is lawful decided
    go (inr refused) = absurd (let e : 500 ≡ 200 = sym refused.1.0 ∙ is.status in omega arith)

-- ---- runs in parts

record Comes (H : Digest) (book : List Witnessed) (outs : List BookOutcome) (last : List Witnessed) : Type 0 where
  mid : List Witnessed
  later : IsLaterBook H book mid
  run : IsBookRun H mid outs last

comes : (H : Digest) (book last : List Witnessed) (before outs : List BookOutcome) → IsLawful H book → IsBookRun H book (before ++ outs) last → Comes H book outs last
comes H book last before outs lawful run =
    let first = cut before book run in
    record { mid = first.0; later = books_only_grow H book first.0 before lawful first.1; run = first.2 }
  where
    cut : (before : List BookOutcome) (book : List Witnessed) → IsBookRun H book (before ++ outs) last → (mid : List Witnessed) × IsBookRun H book before mid × IsBookRun H mid outs last
    cut [] book run = (book, refl, run)
    cut (out ∷ before) book run =
        let rest = cut before out.book_after run.2 in
        (rest.0, (run.0, run.1, rest.1), rest.2)

later_origins : (H : Digest) (book later : List Witnessed) → IsLaterBook H book later → origins_of later ≡ origins_of book
later_origins H [] later is = ap origins_of is
later_origins H (one ∷ book) later is =
    ap origins_of is.2 ∙ ap (λ (o : List ℕ). o ∷ origins_of is.1) is.3.origin ∙ ap (λ (os : List (List ℕ)). one.origin ∷ os) (later_origins H book is.1 is.4)

later_there : (H : Digest) (book later : List Witnessed) (at : ℕ) (one : Witnessed) → IsLaterBook H book later → slice_get book at ≡ Some one
    → (after : Witnessed) × (slice_get later at ≡ Some after) × IsLater H one after
later_there H [] later at one is there = absurd cc
later_there H (first ∷ book) later zero one is there =
    let same : first ≡ one = cc in
    (is.0, ap (λ (b : List Witnessed). slice_get b 0) is.2, subst (λ (o : Witnessed). IsLater H o is.0) same is.3)
later_there H (first ∷ book) later (suc at) one is there =
    let found = later_there H book is.1 at one is.4 there in
    (found.0, ap (λ (b : List Witnessed). slice_get b (suc at)) is.2 ∙ found.1, found.2)

among_origin : (book : List Witnessed) (i : ℕ) (one : Witnessed) (origin : List ℕ) → slice_get book i ≡ Some one → one.origin ≡ origin → IsAmong origin (origins_of book)
among_origin [] i one origin there same = absurd cc
among_origin (b ∷ book) zero one origin there same = let is : b ≡ one = cc in inl (ap (λ (o : Witnessed). o.origin) is ∙ same)
among_origin (b ∷ book) (suc i) one origin there same = inr (among_origin book i one origin there same)

-- an origin that is there once is at one position
once_at : (book : List Witnessed) (i j : ℕ) (one other : Witnessed) → ¬ (HasTwice (origins_of book)) → slice_get book i ≡ Some one → slice_get book j ≡ Some other
    → one.origin ≡ other.origin → i ≡ j
once_at [] i j one other once here there same = absurd cc
once_at (b ∷ book) zero zero one other once here there same = refl
once_at (b ∷ book) zero (suc j) one other once here there same =
    let is : b ≡ one = cc in absurd (once (inl (among_origin book j other b.origin there (sym (ap (λ (o : Witnessed). o.origin) is ∙ same)))))
once_at (b ∷ book) (suc i) zero one other once here there same =
    let is : b ≡ other = cc in absurd (once (inl (among_origin book i one b.origin here (same ∙ sym (ap (λ (o : Witnessed). o.origin) is)))))
once_at (b ∷ book) (suc i) (suc j) one other once here there same = ap suc (once_at book i j one other (λ twice. once (inr twice)) here there same)

-- ---- links and lists

last_head-append : (old : TreeHead) (steps more : List Step) → last_head old (steps ++ more) ≡ last_head (last_head old steps) more
last_head-append old [] more = refl
last_head-append old (s ∷ steps) more = last_head-append (head_after s) steps more

ends_at : (old : TreeHead) (steps : List Step) → EndsWith old.size old.root steps (last_head old steps).size (last_head old steps).root
unfolding EndsWith
ends_at old [] = (refl, refl)
ends_at old (s ∷ steps) = ends_at (head_after s) steps

all_rest : {A : Type 0} (P : A → Type 0) (xs ys : List A) → All P (xs ++ ys) → All P ys
all_rest P [] ys is = is
all_rest P (x ∷ xs) ys is = all_rest P xs ys (All-tail P x (xs ++ ys) is)

abbrev tree_head : ℕ → List ℕ → TreeHead
tree_head size root = record { size = size; root = root }

same_head : (m n : ℕ) (r s : List ℕ) → m ≡ n → r ≡ s → tree_head m r ≡ tree_head n s
same_head m n r s e f = ap (λ (k : ℕ). tree_head k r) e ∙ ap (λ (t : List ℕ). tree_head n t) f

abbrev head_of_list : (List ℕ → List ℕ) → List (List ℕ) → TreeHead
head_of_list H entries = tree_head (length entries) (tree_hash H entries)

-- links that lead from the head of one list to that of another
extends : LinksExtendOrCollide → (H : Digest) → ((message : List ℕ) → length (H message) ≡ 32) → (chain later links : List Step) (old new : List (List ℕ)) → later ≡ chain ++ links
    → All MadeOfHashes later → IsLinked H (last_head (first_head H) chain) links → last_head (first_head H) chain ≡ head_of_list H old → last_head (first_head H) later ≡ head_of_list H new
    → IsPrefix old new ⊎ ((x : List ℕ) × (y : List ℕ) × Exhibits H x y (audit_inputs H old new links))
extends law H lengths chain later links old new joined made linked from to =
    let each = all_rest MadeOfHashes chain links (subst (All MadeOfHashes) joined made) in
    let here : IsLinked H (head_of_list H old) links = subst (λ (h : TreeHead). IsLinked H h links) from linked in
    let leads_to : last_head (head_of_list H old) links ≡ head_of_list H new =
    ap (λ (h : TreeHead). last_head h links) (sym from)
    ∙ (sym (last_head-append (first_head H) chain links) ∙ (ap (last_head (first_head H)) (sym joined) ∙ to)) in
    let ends : EndsWith (length old) (tree_hash H old) links (length new) (tree_hash H new) =
    subst (λ (h : TreeHead). EndsWith (length old) (tree_hash H old) links h.size h.root) leads_to (ends_at (head_of_list H old) links) in
    law H lengths old new links each here ends

pub cosigned_extend : LinksExtendOrCollide → CosignedExtendOrCollide
cosigned_extend law H lengths first second earlier later twice old new is_old is_new =
    let start = comes H twice.book twice.last twice.before (first ∷ (twice.between ++ second ∷ twice.after)) twice.sound.lawful twice.run in
    let lawful : IsLawful H first.book = subst (IsLawful H) (sym start.run.0) (later_lawful H twice.book start.mid start.later) in
    let grown = answered H start.run.1.0 start.run.1.1 first lawful start.run.1.2 in
    let lawful_after = later_lawful H first.book first.book_after grown in
    let next = comes H first.book_after twice.last twice.between (second ∷ twice.after) lawful_after start.run.2 in
    let lawful_next : IsLawful H second.book = subst (IsLawful H) (sym next.run.0) (later_lawful H first.book_after next.mid next.later) in
    let grown_next = answered H next.run.1.0 next.run.1.1 second lawful_next next.run.1.2 in
    let whole = book-trans H first.book_after next.mid second.book_after next.later (subst (λ (b : List Witnessed). IsLaterBook H b second.book_after) next.run.0 grown_next) in
    let origins : origins_of second.book_after ≡ origins_of twice.book =
    later_origins H first.book_after second.book_after whole
    ∙ (later_origins H first.book first.book_after grown ∙ (ap origins_of start.run.0 ∙ later_origins H twice.book start.mid start.later)) in
    let a = cosigned_leads H earlier first twice.first_is lawful in
    let b = cosigned_leads H later second twice.second_is lawful_next in
    let found = later_there H first.book_after second.book_after a.place a.one whole a.is.0 in
    let once = subst (λ (os : List (List ℕ)). ¬ (HasTwice os)) (sym origins) twice.sound.once in
    let at = once_at second.book_after a.place b.place found.0 b.one once found.1 b.is.0 (found.2.origin ∙ (a.is.1 ∙ (twice.same_origin ∙ sym b.is.1))) in
    let two : Some found.0 ≡ Some b.one = sym found.1 ∙ (ap (λ (n : ℕ). slice_get second.book_after n) at ∙ b.is.0) in
    let same : found.0 ≡ b.one = cc in
    let from = a.head ∙ same_head earlier.size (length old) earlier.root (tree_hash H old) is_old.0 is_old.1 in
    let to = ap (λ (o : Witnessed). last_head (first_head H) o.chain) same ∙ (b.head ∙ same_head later.size (length new) later.root (tree_hash H new) is_new.0 is_new.1) in
    let links : List Step = found.2.chain.1.0 in (
      links,
      record { place = a.place; one = a.one; after = found.0; is = a.is; is_later = (found.1, found.2.origin ∙ a.is.1); grew = found.2.chain.1.1 },
      extends law H lengths a.one.chain found.0.chain links old new found.2.chain.1.1 found.2.chain.0.made found.2.chain.1.2 from to,
    )
