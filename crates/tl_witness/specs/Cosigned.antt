-- How two cosigned checkpoints of one origin are related. H is the digest function.
use Rattle.std.specs.Prelude.{◌≡◌, ℕ, List, ◌∷◌, ◌++◌, length, map}
use Rattle.tl_hash.specs.Bytes.{Bytes, Digest}
use Rattle.tl_hash.specs.Tree.{tree_hash}
use Rattle.tl_checkpoint.specs.Checkpoint.{Head}
use Rattle.tl_proof.specs.Acceptance.{Step}
use Rattle.tl_witness.specs.Answers.{Answers}
use Rattle.tl_witness.specs.Book.{BookOutcome, IsLawful, IsPlacedIn, IsSigned, Signed}
use Rattle.tl_witness.specs.Open.{HasTwice}
use Rattle.tl_witness.specs.Request.{Body, IsRequest}
use Rattle.tl_witness.specs.Runs.{IsBookRun}
use Rattle.tl_witness.specs.Witnessed.{Witnessed}

-- the origins of a book
abbrev pub origins_of : List Witnessed → List Bytes
origins_of book = map (λ one. one.origin) book

-- each origin's steps are a chain, and no origin is in the book twice
pub record IsSound (H : Digest) (book : List Witnessed) : Type 0 where
  pub lawful : IsLawful H book
  pub once : ¬ (HasTwice (origins_of book))

-- a request with this checkpoint was answered with 200
pub record IsCosigned (H : Digest) (checkpoint : Head) (out : BookOutcome) : Type 0 where
  pub body : Bytes
  pub time : ℕ
  pub request : Body
  pub signed : Signed
  pub reads : IsRequest body request
  pub note : IsSigned request.note signed
  pub is : signed.head ≡ checkpoint
  pub answered : Answers H body time out
  pub status : out.status ≡ 200

-- these entries have the checkpoint's size and root
abbrev pub IsHeadOf : Digest → List Bytes → Head → Type 0
IsHeadOf H entries checkpoint = (checkpoint.size ≡ length entries) × (checkpoint.root ≡ tree_hash H entries)

-- from one book to a later one, the origin's chain grew by these links
pub record GrewBy (book later : List Witnessed) (origin : Bytes) (links : List Step) : Type 0 where
  pub place : ℕ
  pub one : Witnessed
  pub after : Witnessed
  pub is : IsPlacedIn book origin (record { place = place; one = one })
  pub is_later : IsPlacedIn later origin (record { place = place; one = after })
  pub grew : after.chain ≡ one.chain ++ links

-- in a run of a book two requests, the first before the second, were answered with 200 for the same origin, whatever
-- came before, between and after
pub record CosignsTwice (H : Digest) (first second : BookOutcome) (earlier later : Head) : Type 0 where
  pub book : List Witnessed
  pub last : List Witnessed
  pub before : List BookOutcome
  pub between : List BookOutcome
  pub after : List BookOutcome
  pub sound : IsSound H book
  pub run : IsBookRun H book (before ++ first ∷ (between ++ second ∷ after)) last
  pub first_is : IsCosigned H earlier first
  pub second_is : IsCosigned H later second
  pub same_origin : earlier.origin ≡ later.origin
