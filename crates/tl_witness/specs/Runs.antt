-- Runs of a witness: any list of requests, with any faults. H is the digest function.
use Rattle.std.specs.Prelude.{◌≡◌, ℕ, ◌⊎◌, List, [], ◌∷◌, ◌++◌}
use Rattle.tl_hash.specs.Bytes.{Bytes, Digest}
use Rattle.tl_proof.specs.Acceptance.{Step}
use Rattle.tl_proof.specs.Laws.{MadeOfHashes}
use Rattle.tl_witness.specs.Chain.{first_head, last_head, IsLinked, IsChain}
use Rattle.tl_witness.specs.Witnessed.{Witnessed}
use Rattle.tl_witness.specs.Decide.{Asked, Outcome, Refuses, Decides}
use Rattle.tl_witness.specs.Answers.{Answers}
use Rattle.tl_witness.specs.Book.{BookOutcome}

-- the later chain begins with the chain, and the steps added are linked from its last tree head
abbrev pub IsLaterChain : Digest → List Step → List Step → Type 0
IsLaterChain H chain later =
    IsChain H later
    × ((more : List Step) × (later ≡ chain ++ more) × IsLinked H (last_head (first_head H) chain) more)

-- one request to an origin after another: each is decided by the cases of a request, or gets 500 and changes nothing
abbrev pub IsRun : Digest → Witnessed → List Outcome → Witnessed → Type 0
IsRun H one [] last = last ≡ one
IsRun H one (out ∷ outs) last =
    (out.one ≡ one)
    × ((asked : Asked) × MadeOfHashes asked.step × (Decides H asked out ⊎ Refuses out 500))
    × IsRun H out.one_after outs last

-- one request to the whole book after another
abbrev pub IsBookRun : Digest → List Witnessed → List BookOutcome → List Witnessed → Type 0
IsBookRun H book [] last = last ≡ book
IsBookRun H book (out ∷ outs) last =
    (out.book ≡ book)
    × ((body : Bytes) × (time : ℕ) × Answers H body time out)
    × IsBookRun H out.book_after outs last

-- the same origin later: its verifiers and cosigner are the same, and its chain has grown
pub record IsLater (H : Digest) (one later : Witnessed) : Type 0 where
  pub origin : later.origin ≡ one.origin
  pub verifiers : later.verifiers ≡ one.verifiers
  pub cosigner : later.cosigner ≡ one.cosigner
  pub chain : IsLaterChain H one.chain later.chain

-- each origin of the later book is that of the earlier one, later
abbrev pub IsLaterBook : Digest → List Witnessed → List Witnessed → Type 0
IsLaterBook H [] later = later ≡ []
IsLaterBook H (one ∷ book) later = (after : Witnessed) × (rest : List Witnessed) × (later ≡ after ∷ rest) × IsLater H one after × IsLaterBook H book rest
