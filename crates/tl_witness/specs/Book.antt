-- The whole book of a witness, and a request to it (C2SP tlog-witness, "add-checkpoint").
use Rattle.std.specs.Prelude.{◌≡◌, ℕ, List, [], Some, slice_get, slice_set, All, vec_items}
use Rattle.tl_hash.specs.Bytes.{Bytes, Digest}
use Rattle.tl_note.specs.Note.{Signature, Note}
use Rattle.tl_checkpoint.specs.Checkpoint.{Head, IsHead, checkpoint_text}
use Rattle.tl_witness.specs.declared.reply.Reply.{Reply}
use Rattle.tl_witness.specs.Cases.{UnlessSome}
use Rattle.tl_witness.specs.Chain.{IsChain}
use Rattle.tl_witness.specs.Request.{Body, IsRequest}
use Rattle.tl_witness.specs.Saver.{Saved}
use Rattle.tl_witness.specs.Witnessed.{Witnessed}
use Rattle.tl_witness.specs.Decide.{Asked, Outcome, Decides}

-- each origin's steps are a chain
abbrev pub IsLawful : Digest → List Witnessed → Type 0
IsLawful H book = All (λ one. IsChain H one.chain) book

-- a note whose text is a checkpoint: its text, its signature lines and the checkpoint
pub record Signed : Type 0 where
  pub text : Bytes
  pub lines : List Signature
  pub head : Head

-- the bytes are this note, and its text is this checkpoint
pub record IsSigned (bytes : Bytes) (signed : Signed) : Type 0 where
  pub note : Note bytes signed.text signed.lines
  pub head : IsHead signed.head
  pub spelled : signed.text ≡ checkpoint_text signed.head

-- the outcome of a request: the reply, and the saver and the book before and after
pub record BookOutcome : Type 0 where
  pub status : ℕ
  pub body : Bytes
  pub saved : Saved
  pub saved_after : Saved
  pub book : List Witnessed
  pub book_after : List Witnessed

-- the outcome of a request with this reply
abbrev pub book_outcome : {A : Type 0} → Reply A → Saved → Saved → List Witnessed → List Witnessed → BookOutcome
book_outcome reply saved saved_after book book_after = record {
  status = reply.status;
  body = vec_items reply.body;
  saved = saved;
  saved_after = saved_after;
  book = book;
  book_after = book_after;
}

-- the reply is this status with no body, and nothing changed
abbrev pub RefusesAll : BookOutcome → ℕ → Type 0
RefusesAll out status =
    (out.status ≡ status) × (out.body ≡ []) × (out.saved_after ≡ out.saved) × (out.book_after ≡ out.book)

-- an origin of a book, and its position there
pub record Placed : Type 0 where
  pub place : ℕ
  pub one : Witnessed

-- the book has this one at this position, and it is of this origin
abbrev pub IsPlacedIn : List Witnessed → Bytes → Placed → Type 0
IsPlacedIn book origin placed = (slice_get book placed.place ≡ Some placed.one) × (placed.one.origin ≡ origin)

-- what a request with this note asks at this time
abbrev pub asked_of : Body → Signed → ℕ → Asked
asked_of request signed time = record {
  old = request.old;
  step = record { size = signed.head.size; root = signed.head.root; proof = request.proof };
  text = signed.text;
  lines = signed.lines;
  time = time;
}

-- only the origin at this position may have changed, and this holds of the outcome for it
abbrev pub ChangesAt : BookOutcome → Placed → (Outcome → Type 0) → Type 0
ChangesAt out placed Decided =
    (after : Witnessed)
    × (out.book_after ≡ slice_set out.book placed.place after)
    × Decided (record {
      status = out.status;
      body = out.body;
      saved = out.saved;
      saved_after = out.saved_after;
      one = placed.one;
      one_after = after;
    })

-- the cases of a request, in order; the first that applies decides
abbrev pub DecidesBody : Digest → Bytes → ℕ → BookOutcome → Type 0
DecidesBody H body time out =
    UnlessSome (IsRequest body) (RefusesAll out 400) (λ request.
    UnlessSome (IsSigned request.note) (RefusesAll out 400) (λ signed.
    UnlessSome (IsPlacedIn out.book signed.head.origin) (RefusesAll out 404) (λ placed.
    ChangesAt out placed (Decides H (asked_of request signed time)))))
