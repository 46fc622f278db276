-- What is decided of a body, by what it is.
use Rattle.std.proofs.Common.{◌≡◌, ◌<◌, ℕ, List, Some, ap, subst, ◌∙◌, map, length, slice_get, get_or, arith, inl, inr}
use Rattle.std.specs.Prelude.{slice_set}
use Rattle.std.proofs.lemmas.Option.{slice_get_within}
use Rattle.std.proofs.lemmas.List.{length-map}
use Rattle.std.proofs.Math.Seq.{map-set_same}
use Rattle.tl_hash.specs.Bytes.{Digest}
use Rattle.tl_witness.specs.declared.finding.Found.{Found}
use Rattle.tl_witness.specs.Answers.{AsksForMemory}
use Rattle.tl_witness.specs.Book.{BookOutcome, DecidesBody, IsPlacedIn, Placed, RefusesAll}
use Rattle.tl_witness.specs.Decide.{Asked, Outcome, Decides}
use Rattle.tl_witness.specs.Inner.Finding.{IsFound, IsMalformed, IsOfOther}
use Rattle.tl_witness.specs.Inner.Offer.{asked_by}
use Rattle.tl_witness.specs.Witnessed.{Witnessed}

pub malformed : (H : Digest) (body : List ℕ) (time : ℕ) (out : BookOutcome) → IsMalformed body → RefusesAll out 400 → DecidesBody H body time out
malformed H body time out (inl none) refused = inl (none.0, refused)
malformed H body time out (inr (request, reads, none)) refused = inr (request, reads, inl (none, refused))

pub of_other : (H : Digest) (body : List ℕ) (time : ℕ) (out : BookOutcome) (origins : List (List ℕ)) (other : IsOfOther body origins)
    → ((placed : Placed) → ¬ (IsPlacedIn out.book other.signed.head.origin placed)) → RefusesAll out 404 → DecidesBody H body time out
of_other H body time out origins other nowhere refused = inr (other.request, other.reads, inr (other.signed, other.note, inl (nowhere, refused)))

-- the outcome at one position
abbrev pub at_one : BookOutcome → Witnessed → Witnessed → Outcome
at_one out one after = record { status = out.status; body = out.body; saved = out.saved; saved_after = out.saved_after; one = one; one_after = after }

pub at_place : {A : Type 0} (H : Digest) (body : List ℕ) (time : ℕ) (out : BookOutcome) (origins : List (List ℕ)) (found : Found A) (is : IsFound body origins found) (one after : Witnessed)
    → IsPlacedIn out.book is.signed.head.origin (record { place = found.place; one = one }) → out.book_after ≡ slice_set out.book found.place after
    → Decides H (asked_by found.offer time) (at_one out one after) → DecidesBody H body time out
at_place H body time out origins found is one after place changed decided =
    let asked = subst (λ (a : Asked). Decides H a (at_one out one after)) (is.asks time) decided in
    inr (is.request, is.reads, inr (is.signed, is.note, inr (record { place = found.place; one = one }, place, (after, changed, asked))))

-- memory may be allocated for a body whose origin is known
pub found_asks : {A : Type 0} (body : List ℕ) (origins : List (List ℕ)) (found : Found A) → IsFound body origins found → AsksForMemory body
found_asks body origins found is = (is.request, is.reads)

-- a position at which something shows is within the list
pub shown_within : {A B : Type 0} (f : A → B) (xs : List A) (i : ℕ) (y : B) → slice_get (map f xs) i ≡ Some y → i < length xs
shown_within f xs i y there =
    let within = slice_get_within (map f xs) i y there in
    omega (arith, length-map xs f)

-- what is written back changes nothing that shows
pub same_shown : {A B C : Type 0} (f : A → B) (made : C → A) (xs : List A) (i : ℕ) (old new : C) → made old ≡ get_or xs i (made old) → new ≡ old
    → map f (slice_set xs i (made new)) ≡ map f xs
same_shown f made xs i old new read same = map-set_same f xs i (made new) (made old) (ap (λ c. f (made c)) same ∙ ap f read)
