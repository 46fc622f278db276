-- The laws under names that proofs use. H is the digest function.
use Rattle.std.specs.Prelude.{◌≡◌, ℕ, ◌+◌, ◌⊎◌, List, [], Some, slice_get, drop}
use Rattle.tl_hash.specs.Bytes.{Bytes, Digest}
use Rattle.tl_checkpoint.specs.Checkpoint.{Head}
use Rattle.tl_proof.specs.Laws.{HasHashLength}
use Rattle.tl_proof.specs.Collisions.{IsPrefix, Exhibits, audit_inputs}
use Rattle.tl_proof.specs.Acceptance.{Step, Linked}
use Rattle.tl_witness.specs.Book.{BookOutcome, IsLawful}
use Rattle.tl_witness.specs.Chain.{IsChain}
use Rattle.tl_witness.specs.ChainLine.{ChainLine, IsChainText, IsMalformedAt}
use Rattle.tl_witness.specs.Cosigned.{CosignsTwice, GrewBy, IsHeadOf, IsSound}
use Rattle.tl_witness.specs.Decide.{Outcome}
use Rattle.tl_witness.specs.Open.{SavedChain, Trusted, OpensBook}
use Rattle.tl_witness.specs.Runs.{IsBookRun, IsLaterBook, IsLaterChain, IsRun}
use Rattle.tl_witness.specs.Witnessed.{Witnessed}

-- over a run a chain stays a chain that begins with what it was, and the added steps lead from there to its end
abbrev pub ChainsOnlyGrow : Type 0
ChainsOnlyGrow =
    (H : Digest) (one last : Witnessed) (outs : List Outcome)
    → IsChain H one.chain → IsRun H one outs last → IsLaterChain H one.chain last.chain

-- over a run each origin keeps its position, verifiers and cosigner, and its chain only grows
abbrev pub BooksOnlyGrow : Type 0
BooksOnlyGrow =
    (H : Digest) (book last : List Witnessed) (outs : List BookOutcome)
    → IsLawful H book → IsBookRun H book outs last → IsLaterBook H book last

-- the steps after any one of a chain are linked from it, and all of them from size 0 and the hash of no bytes
abbrev pub ChainsAreLinkedFromEachStep : Type 0
ChainsAreLinkedFromEachStep =
    (H : Digest) (chain : List Step) → IsChain H chain
    → Linked H 0 (H []) chain
    × ((place : ℕ) (step : Step) → slice_get chain place ≡ Some step → Linked H step.size step.root (drop (place + 1) chain))

-- bytes are one list of lines, or have one first malformed line, but not both
pub record SavedLinksAreOne : Type 0 where
  pub lines : (bytes : Bytes) (xs ys : List ChainLine) → IsChainText bytes xs → IsChainText bytes ys → xs ≡ ys
  pub place : (bytes : Bytes) (j k : ℕ) → IsMalformedAt bytes j → IsMalformedAt bytes k → j ≡ k
  pub apart : (bytes : Bytes) (xs : List ChainLine) (place : ℕ) → IsChainText bytes xs → ¬ (IsMalformedAt bytes place)

-- every book that is opened is sound
abbrev pub OpenedBooksAreSound : Type 0
OpenedBooksAreSound =
    (H : Digest) (trusts : List Trusted) (chains : List SavedChain) (book : List Witnessed) → OpensBook H trusts chains book → IsSound H book

-- of two such checkpoints each list of the earlier one is a prefix of each list of the later one, or two of the byte
-- strings that are hashed for an audit over the links between have the same digest
abbrev pub CosignedExtendOrCollide : Type 0
CosignedExtendOrCollide =
    (H : Digest) → ((message : Bytes) → HasHashLength (H message))
    → (first second : BookOutcome) (earlier later : Head) → CosignsTwice H first second earlier later
    → (old new : List Bytes) → IsHeadOf H old earlier → IsHeadOf H new later
    → (links : List Step) × GrewBy first.book_after second.book_after earlier.origin links
    × (IsPrefix old new ⊎ ((x : Bytes) × (y : Bytes) × Exhibits H x y (audit_inputs H old new links)))
