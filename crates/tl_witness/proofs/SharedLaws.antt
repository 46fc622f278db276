-- What a lock has had keeps what it began with.
use Rattle.std.proofs.Common.{◌≡◌, ◌≤◌, ◌-◌, ℕ, List, [], ◌∷◌, ◌++◌, inl, inr, refl, sym, ap, subst, ◌∙◌, map, take, drop, length, append_assoc, append-nil, arith, Ok, Err}
use Rattle.std.specs.Prelude.{Result, IfOk, OnErr}
use Rattle.std.proofs.lemmas.List.{map-append, take_rest, take_all, drop-map, take-map, length-drop, length-map}
use Rattle.tl_hash.specs.Bytes.{Digest}
use mathlib.Core.List.{IsPrefix}
use Rattle.tl_note.specs.Key.{Key, SigningKey}
use Rattle.tl_proof.specs.Acceptance.{Step}
use Rattle.tl_proof.specs.Laws.{MadeOfHashes}
use Rattle.tl_witness.specs.Book.{IsPlacedIn, Placed}
use Rattle.tl_witness.specs.Chain.{IsChain, IsLinked, first_head}
use Rattle.tl_witness.specs.Decide.{Asked, Outcome, Decides}
use Rattle.tl_witness.specs.declared.finding.Found.{Found}
use Rattle.tl_witness.specs.Inner.Finding.{IsFound, IsMalformed, IsOfOther}
use Rattle.tl_witness.specs.Inner.Offer.{asked_by}
use Rattle.tl_witness.specs.Runs.{IsLater, IsLaterBook, IsLaterChain}
use Rattle.tl_witness.specs.Saver.{Saved}
use Rattle.tl_witness.specs.Shared.{Answer, DecidesLater, DecidesShared, RefusesAnswer}
use Rattle.tl_witness.specs.Witnessed.{Witnessed}
use Rattle.tl_witness.proofs.ChainLaws.{linked-after}
use Rattle.tl_witness.proofs.RunLaws.{Moves, moves}

-- a chain that begins with another is a later one
pub later_chain : (H : Digest) (start now : List Step) → IsPrefix start now → IsChain H now → IsLaterChain H start now
later_chain H start now begins is =
    (is, (begins.0, sym begins.1, linked-after H (first_head H) start begins.0 (subst (IsLinked H (first_head H)) (sym begins.1) is.linked)))

-- the same origin, with a chain that begins with what it had
pub later_one : (H : Digest) (one : Witnessed) (now : List Step) → IsPrefix one.chain now → IsChain H now → IsLater H one (record one { chain = now })
later_one H one now begins is = record { origin = refl; verifiers = refl; cosigner = refl; chain = later_chain H one.chain now begins is }

-- the same of a chain that is known to be later
pub later_with : (H : Digest) (one : Witnessed) (now : List Step) → IsLaterChain H one.chain now → IsLater H one (record one { chain = now })
later_with H one now is = record { origin = refl; verifiers = refl; cosigner = refl; chain = is }

-- what was left as it was begins with itself
pub begins_same : {A : Type 0} (before now : List A) → before ≡ now → IsPrefix before now
begins_same before now same = ([], append-nil before ∙ same)

pub begins_longer : {A : Type 0} (start now more : List A) → IsPrefix start now → IsPrefix start (now ++ more)
begins_longer start now more p = (p.0 ++ more, sym (append_assoc start p.0 more) ∙ ap (λ (w : List _). w ++ more) p.1)

moved_begins : (H : Digest) (out : Outcome) (start : List Step) → IsPrefix start out.one.chain → Moves H out → IsPrefix start out.one_after.chain
moved_begins H out start p (inl same) = subst (λ (o : Witnessed). IsPrefix start o.chain) (sym same) p
moved_begins H out start p (inr grown) =
    subst (λ (o : Witnessed). IsPrefix start o.chain) (sym grown.1) (begins_longer start out.one.chain (grown.0 ∷ []) p)

-- a decision, and a failure, leave a chain that begins with what it began with
pub begins_still : {X Y : Type 0} (H : Digest) (asked : Asked) (result : Result X Y) (out : X → Outcome) (start old new : List Step) (S : Type 0) → IsPrefix start old
    → MadeOfHashes asked.step → IfOk result (λ x. Decides H asked (out x)) → OnErr result (S × (new ≡ old)) → ((x : X) → (out x).one.chain ≡ old)
    → ((x : X) → (out x).one_after.chain ≡ new) → IsPrefix start new
begins_still H asked (Ok x) out start old new S p made decided failed before after =
    subst (IsPrefix start) (after x) (moved_begins H (out x) start (subst (IsPrefix start) (sym (before x)) p) (moves H asked (out x) made decided))
begins_still H asked (Err y) out start old new S p made decided failed before after = subst (IsPrefix start) (sym failed.1) p

-- a decision is one of the chains that these are
pub decided_between : (H : Digest) (asked : Asked) (status : ℕ) (body : List ℕ) (saved saved_after : Saved) (origin : List ℕ) (verifiers : List Key) (cosigner : SigningKey) (before after old new : List Step)
    → before ≡ old → after ≡ new
    → Decides H asked (record { status = status; body = body; saved = saved; saved_after = saved_after; one = record { origin = origin; verifiers = verifiers; cosigner = cosigner; chain = old }; one_after = record { origin = origin; verifiers = verifiers; cosigner = cosigner; chain = new } })
    → Decides H asked (record { status = status; body = body; saved = saved; saved_after = saved_after; one = record { origin = origin; verifiers = verifiers; cosigner = cosigner; chain = before }; one_after = record { origin = origin; verifiers = verifiers; cosigner = cosigner; chain = after } })
decided_between H asked status body saved saved_after origin verifiers cosigner before after old new is_old is_new decided =
    subst (λ (b : List Step). Decides H asked (record { status = status; body = body; saved = saved; saved_after = saved_after; one = record { origin = origin; verifiers = verifiers; cosigner = cosigner; chain = b }; one_after = record { origin = origin; verifiers = verifiers; cosigner = cosigner; chain = after } })) (sym is_old)
    (subst (λ (a : List Step). Decides H asked (record { status = status; body = body; saved = saved; saved_after = saved_after; one = record { origin = origin; verifiers = verifiers; cosigner = cosigner; chain = old }; one_after = record { origin = origin; verifiers = verifiers; cosigner = cosigner; chain = a } })) (sym is_new) decided)

-- ---- parts of a list

pub part_all : {A B : Type 0} (f : A → B) (from most : ℕ) (xs : List A) → length xs - from ≤ most → map f (take (length xs - from) (drop from xs)) ≡ take most (drop from (map f xs))
part_all f from most xs enough =
    ap (map f) (take_rest xs from)
    ∙ (sym (drop-map f from xs) ∙ sym (take_all most (drop from (map f xs)) (omega (arith, length-drop from (map f xs), length-map xs f))))

pub part_most : {A B : Type 0} (f : A → B) (from most : ℕ) (xs : List A) → map f (take most (take (length xs - from) (drop from xs))) ≡ take most (drop from (map f xs))
part_most f from most xs =
    ap (λ (l : List _). map f (take most l)) (take_rest xs from)
    ∙ (sym (take-map f most (drop from xs)) ∙ ap (take most) (sym (drop-map f from xs)))

-- ---- what is answered

pub malformed : (H : Digest) (book : List Witnessed) (body : List ℕ) (time : ℕ) (answer : Answer) → IsMalformed body → RefusesAnswer answer 400 → DecidesShared H book body time answer
malformed H book body time answer (inl none) refused = inl (none.0, refused)
malformed H book body time answer (inr (request, reads, none)) refused = inr (request, reads, inl (none, refused))

pub of_other : (H : Digest) (book : List Witnessed) (body : List ℕ) (time : ℕ) (answer : Answer) (origins : List (List ℕ)) (other : IsOfOther body origins)
    → ((placed : Placed) → ¬ (IsPlacedIn book other.signed.head.origin placed)) → RefusesAnswer answer 404 → DecidesShared H book body time answer
of_other H book body time answer origins other nowhere refused = inr (other.request, other.reads, inr (other.signed, other.note, inl (nowhere, refused)))

pub at_place : {A : Type 0} (H : Digest) (book : List Witnessed) (body : List ℕ) (time : ℕ) (answer : Answer) (origins : List (List ℕ)) (found : Found A) (is : IsFound body origins found) (one : Witnessed)
    → IsPlacedIn book is.signed.head.origin (record { place = found.place; one = one }) → DecidesLater H one (asked_by found.offer time) answer → DecidesShared H book body time answer
at_place H book body time answer origins found is one place decided =
    inr (is.request, is.reads, inr (is.signed, is.note, inr (record { place = found.place; one = one }, place, subst (λ (a : Asked). DecidesLater H one a answer) (is.asks time) decided)))

-- one origin more, later
pub later_more : (H : Digest) (book later : List Witnessed) (one after : Witnessed) → IsLaterBook H book later → IsLater H one after → IsLaterBook H (book ++ one ∷ []) (later ++ after ∷ [])
later_more H [] later one after is more = (after, [], ap (λ (l : List Witnessed). l ++ after ∷ []) is, more, refl)
later_more H (first ∷ book) later one after is more =
    (is.0, is.1 ++ after ∷ [], ap (λ (l : List Witnessed). l ++ after ∷ []) is.2, is.3, later_more H book is.1 one after is.4 more)

-- the same of lists that show them
pub later_push : {E G : Type 0} (H : Digest) (f : E → Witnessed) (h : G → Witnessed) (done : List E) (entries : List G) (one : E) (after : G)
    → IsLaterBook H (map f done) (map h entries) → IsLater H (f one) (h after) → IsLaterBook H (map f (done ++ one ∷ [])) (map h (entries ++ after ∷ []))
later_push H f h done entries one after is more =
    subst (λ (b : List Witnessed). IsLaterBook H b (map h (entries ++ after ∷ []))) (sym (map-append f done (one ∷ [])))
    (subst (IsLaterBook H (map f done ++ f one ∷ [])) (sym (map-append h entries (after ∷ []))) (later_more H (map f done) (map h entries) (f one) (h after) is more))

pub later_all : (H : Digest) (done all later : List Witnessed) → done ≡ all → IsLaterBook H done later → IsLaterBook H all later
later_all H done all later same is = subst (λ (b : List Witnessed). IsLaterBook H b later) same is
