-- From the body of a request to the position of its origin (C2SP tlog-witness, "add-checkpoint").
use Rattle.std.specs.Prelude.{◌≡◌, ◌≢◌, ℕ, List, Some, slice_get, Result, Ok, Err, ⊤}
use Rattle.tl_hash.specs.Bytes.{Bytes}
use Rattle.tl_proof.specs.Acceptance.{step_of}
use Rattle.tl_witness.specs.declared.finding.Found.{Found}
use Rattle.tl_witness.specs.declared.finding.Unfound.{Unfound}
use Rattle.tl_witness.specs.declared.finding.Unfound.TheVariants.{Malformed, Unknown, OutOfMemory}
use Rattle.tl_witness.specs.Answers.{AsksForMemory}
use Rattle.tl_witness.specs.Book.{Signed, IsSigned, asked_of}
use Rattle.tl_witness.specs.Cases.{UnlessSome}
use Rattle.tl_witness.specs.ChainLine.{IsChainLine}
use Rattle.tl_witness.specs.Inner.Offer.{asked_by}
use Rattle.tl_witness.specs.Request.{Body, IsRequest}

-- the body is a request whose note is a checkpoint of the origin at this position, and this is what it asks
pub record IsFound {A : Type 0} (body : Bytes) (origins : List Bytes) (found : Found A) : Type 0 where
  pub request : Body
  pub signed : Signed
  pub reads : IsRequest body request
  pub note : IsSigned request.note signed
  pub there : slice_get origins found.place ≡ Some signed.head.origin
  pub asks : (time : ℕ) → asked_by found.offer time ≡ asked_of request signed time
  pub line : IsChainLine (record { origin = signed.head.origin; step = step_of found.offer.link })

-- the body is no request, or its note is no checkpoint
abbrev pub IsMalformed : Bytes → Type 0
IsMalformed body = UnlessSome (IsRequest body) ⊤ (λ request. (signed : Signed) → ¬ (IsSigned request.note signed))

-- the body is a request whose note is a checkpoint of an origin that isn't among these
pub record IsOfOther (body : Bytes) (origins : List Bytes) : Type 0 where
  pub request : Body
  pub signed : Signed
  pub reads : IsRequest body request
  pub note : IsSigned request.note signed
  pub nowhere : (place : ℕ) → slice_get origins place ≢ Some signed.head.origin

-- what the search for the origin answers
abbrev pub FindsOrigin : {A : Type 0} → Bytes → List Bytes → Result (Found A) Unfound → Type 0
FindsOrigin body origins (Ok found) = IsFound body origins found
FindsOrigin body origins (Err Malformed) = IsMalformed body
FindsOrigin body origins (Err Unknown) = IsOfOther body origins
FindsOrigin body origins (Err OutOfMemory) = AsksForMemory body
