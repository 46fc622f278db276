-- Why a log's checkpoints aren't trusted, step by step.
use Rattle.std.proofs.Common.{◌≡◌, inl, inr, subst, Option}
use Rattle.tl_hash.specs.Bytes.{Bytes}
use Rattle.tl_tile.specs.declared.resource.Resource.{Resource}
use Rattle.tl_tile.specs.declared.resource.Resource.TheVariants.{Checkpoint}
use Rattle.tl_fetch.specs.declared.fault.FetchFault.{FetchFault}
use Rattle.tl_fetch.specs.Fetching.{LacksLast}
use Rattle.tl_fetch.specs.Inner.Trusted.{RefusesText}
use Rattle.tl_fetch.specs.Opening.{RefusesCheckpoint, RefusesNote, RefusesState}
use Rattle.tl_fetch.specs.Trusting.{Policy}

-- no text came for the checkpoint
pub text_refused : (answers : Resource → Bytes → Type 0) (lacks : Resource → Type 0) (policy : Policy) (fault : FetchFault) → RefusesText answers lacks fault → RefusesCheckpoint answers lacks policy fault
text_refused answers lacks policy fault (inl lack) = inl lack
text_refused answers lacks policy fault (inr (inl memory)) = inr (inl memory)
text_refused answers lacks policy fault (inr (inr (bytes, given, none))) = inr (inr (bytes, given, inl none))

-- a text came that isn't trusted
pub note_refused : (answers : Resource → Bytes → Type 0) (lacks : Resource → Type 0) (policy : Policy) (fault : FetchFault) (note read : Bytes) → answers Checkpoint note → read ≡ note
    → RefusesNote policy read fault → RefusesCheckpoint answers lacks policy fault
note_refused answers lacks policy fault note read given same refused =
    inr (inr (note, given, inr (subst (λ (n : Bytes). RefusesNote policy n fault) same refused)))

-- the note of a state isn't the log's
pub last_refused : (fails : FetchFault → Type 0) (has : Option Bytes → Type 0) (policy : Policy) (fault : FetchFault) (last read : Option Bytes) → has last → read ≡ last
    → RefusesState policy read fault → LacksLast fails has policy fault
last_refused fails has policy fault last read had same refused =
    inr (last, had, subst (λ (l : Option Bytes). RefusesState policy l fault) same refused)
