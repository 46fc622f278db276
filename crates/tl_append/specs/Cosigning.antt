-- Appending batches to a log, each shown under the log's note with the lines of witnesses behind it (C2SP
-- tlog-cosignature, tlog-witness).
use Rattle.std.specs.Prelude.{◌≡◌, ℕ, ◌⊎◌, true, List, [], ◌∷◌, ◌++◌, Option, None, Some, Ok}
use Rattle.std.specs.List.{All, flat_map}
use Rattle.sha2.specs.Sha256.{sha256}
use Rattle.tl_hash.specs.Bytes.{Bytes}
use Rattle.tl_note.specs.Key.{Key}
use Rattle.tl_tile.specs.declared.resource.Resource.TheVariants as resource
use Rattle.tl_checkpoint.specs.Checkpoint as checkpoint
use Rattle.tl_client.specs.Trusted.{IsTrusted}
use Rattle.tl_policy.specs.Quorum.{IsMetBy}
use Rattle.tl_policy.specs.ReadPolicy.{ReadsPolicy}
use Rattle.tl_policy.specs.Terms.{Terms}
use Rattle.tl_log.specs.Histories.{Prefix}
use Rattle.tl_archive.specs.Complete.{KeptSafe}
use Rattle.tl_ledger.specs.Keeping.{IsKeeping, published}
use Rattle.tl_run.specs.Signing.{LogKey, checkpoint_note}
use Rattle.tl_append.specs.Appending.{Course, IsPutOrNot}
use Rattle.tl_append.specs.Running.{IsResting, Visit}

-- at least `need` of these witnesses must have cosigned what is shown; if it is 0, none has to. And those that
-- cosigned it must satisfy the quorum of the policy that this text is, if there is one
pub record Quorum : Type 0 where
  pub witnesses : List Key
  pub need : ℕ
  pub policy : Option Bytes

-- a batch of entries, and the lines of witnesses behind the note of the checkpoint of the log with it
pub record Turn : Type 0 where
  pub batch : List Bytes
  pub lines : Bytes

-- the entries of turns, one after another
abbrev pub entries_of : List Turn → List Bytes
entries_of turns = flat_map (λ t. t.batch) turns

-- the publication of a log under the note of its own checkpoint by the log's key, with these lines behind the note
abbrev pub shown : LogKey → List Bytes → Bytes → Prefix
shown key log lines = published log (checkpoint_note key log ++ lines)

-- the publications of a log to which these turns were appended one after another, each of the log with that turn
abbrev pub shown_after : LogKey → List Bytes → List Turn → List Prefix
shown_after key log [] = []
shown_after key log (t ∷ more) = shown key (log ++ t.batch) t.lines ∷ shown_after key (log ++ t.batch) more

-- the note opens under keys of the log, and at least `need` of the witnesses cosigned it
abbrev pub HasEnough : Quorum → Bytes → Type 0
HasEnough q note =
    (q.need ≡ 0)
    ⊎ ((keys : List Key) × (c : checkpoint.Head)
    × IsTrusted note (record { keys = keys; witnesses = q.witnesses; need = q.need }) c)

-- those that cosigned the note satisfy the policy that a text is, if there is one
abbrev pub MeetsPolicy : Option Bytes → Bytes → Type 0
MeetsPolicy None note = Unit {0}
MeetsPolicy (Some text) note = (policy : Terms) × ReadsPolicy text (Ok policy) × IsMetBy policy note true

-- both
abbrev pub HasQuorum : Quorum → Bytes → Type 0
HasQuorum q note = HasEnough q note × MeetsPolicy q.policy note

-- turns were appended and shown, and then these entries put behind the log, which aren't shown: whatever the ledger
-- kept before, it keeps with all these; whatever a crash leaves at any moment in between is complete for one of the
-- publications; and each new publication has its quorum
pub record ShowsThen (key : LogKey) (q : Quorum) (turns : List Turn) (rest : List Bytes) (c : Course) : Type 0 where
  pub kept : (history : List Prefix) (log : List Bytes) → IsKeeping sha256 history log c.before c.was
      → IsKeeping sha256 (history ++ shown_after key log turns) ((log ++ entries_of turns) ++ rest) c.after c.is
  pub safe : (history : List Prefix) (log : List Bytes) → IsKeeping sha256 history log c.before c.was
      → KeptSafe sha256 (history ++ shown_after key log turns) c.saw c.sees
  pub cosigned : (history : List Prefix) (log : List Bytes) → IsKeeping sha256 history log c.before c.was
      → All (λ p. HasQuorum q p.note) (shown_after key log turns)

-- a batch was appended and shown, with some lines
abbrev pub ShowsBatch : LogKey → Quorum → List Bytes → Course → Type 0
ShowsBatch key q batch c = (lines : Bytes) × ShowsThen key q (record { batch = batch; lines = lines } ∷ []) [] c

-- the checkpoint that is there at the end is that of the log with the batch, by the log's key, with lines that make
-- up its quorum
abbrev pub HasCosigned : LogKey → Quorum → List Bytes → Course → Type 0
HasCosigned key q batch c = (history : List Prefix) (log : List Bytes) → IsKeeping sha256 history log c.before c.was
    → (lines : Bytes) × (c.after.held resource.Checkpoint ≡ Some (checkpoint_note key (log ++ batch) ++ lines))
    × HasQuorum q (checkpoint_note key (log ++ batch) ++ lines)

-- a batch was shown, or put behind the log and not shown, or neither
pub record ShowsAtMost (key : LogKey) (q : Quorum) (batch : List Bytes) (c : Course) : Type 0 where
  pub turns : List Turn
  pub rest : List Bytes
  pub shows : ShowsThen key q turns rest c
  pub own : IsPutOrNot batch (entries_of turns ++ rest) c

-- turns were appended to the log and shown, and then these entries put: the shelf rests with all of them, whatever a
-- crash leaves at any moment in between is complete for one of the publications, and each new publication has its
-- quorum
pub record Shows (key : LogKey) (q : Quorum) (turns : List Turn) (rest : List Bytes) (v : Visit) (history : List Prefix) (log : List Bytes) : Type 0 where
  pub rests : IsResting sha256 (history ++ shown_after key log turns) ((log ++ entries_of turns) ++ rest) v.after
  pub safe : KeptSafe sha256 (history ++ shown_after key log turns) v.saw v.sees
  pub cosigned : All (λ p. HasQuorum q p.note) (shown_after key log turns)
