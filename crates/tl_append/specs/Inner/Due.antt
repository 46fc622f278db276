-- A publication that is due: its entries were put and its note signed, and the note isn't on the shelf yet.
use Rattle.std.specs.Prelude.{◌≡◌, Bool, ℕ, ⊤, false, List, [], ◌∷◌, ◌++◌, Option, Some, None, string_bytes}
use Rattle.std.specs.List.{All, flat_map}
use Rattle.sha2.specs.Sha256.{sha256}
use Rattle.tl_hash.specs.Bytes.{Bytes}
use Rattle.tl_device.specs.Device.{Passage, WroteWhole}
use Rattle.tl_tile.specs.declared.resource.Resource.TheVariants as resource
use Rattle.tl_log.specs.Histories.{Prefix}
use Rattle.tl_archive.specs.Shelves.{Held}
use Rattle.tl_archive.specs.Complete.{KeptSafe}
use Rattle.tl_ledger.specs.Standing.{Ledger, IsStanding}
use Rattle.tl_ledger.specs.Keeping.{IsKeeping, published}
use Rattle.tl_ledger.specs.Spent.{LacksSpent}
use Rattle.tl_run.specs.Signing.{LogKey, checkpoint_note}
use Rattle.tl_append.specs.Appending.{Course, WasThere, publication_line}
use Rattle.tl_append.specs.declared.due.Due.{Due}

-- the note, if there is one, is that of the checkpoint of the log at which the ledger stands, by the log's key
abbrev pub IsSigned : LogKey → Ledger → Option Due → Type 0
IsSigned key ledger None = ⊤
IsSigned key ledger (Some due) = (log : List Bytes) → IsStanding sha256 log ledger → string_bytes due.note ≡ checkpoint_note key log

-- the publication of a log that is due, if one is
abbrev pub due_of : LogKey → List Bytes → Option Due → List Prefix
due_of key log None = []
due_of key log (Some due) = published log (checkpoint_note key log) ∷ []

-- whatever the ledger kept before, it keeps with the publication that was due, and with these entries behind the log;
-- whatever a crash leaves at any moment in between is complete for one of the publications
pub record PublishesDue (key : LogKey) (due : Option Due) (put : List Bytes) (c : Course) : Type 0 where
  pub kept : (history : List Prefix) (log : List Bytes) → IsKeeping sha256 history log c.before c.was
      → IsKeeping sha256 (history ++ due_of key log due) (log ++ put) c.after c.is
  pub safe : (history : List Prefix) (log : List Bytes) → IsKeeping sha256 history log c.before c.was
      → KeptSafe sha256 (history ++ due_of key log due) c.saw c.sees

-- the writer took the line of the publication that was due
abbrev pub PrintsDue : LogKey → Option Due → Course → Passage → Type 0
PrintsDue key due c o = (history : List Prefix) (log : List Bytes) → IsKeeping sha256 history log c.before c.was
    → WroteWhole o (flat_map publication_line (due_of key log due))

-- if a publication was due, its size is marked
abbrev pub MarksDue : Option Due → ℕ → Option ℕ → Type 0
MarksDue None size mark = ⊤
MarksDue (Some due) size mark = mark ≡ Some size

-- if a publication was due, nothing is there that is spent since the publication before it
abbrev pub LacksDue : Option Due → ℕ → Held → Type 0
LacksDue None size held = ⊤
LacksDue (Some due) size held = LacksSpent due.from size held

-- the publication that was due was there, its checkpoint still is and its size is marked, and what it spent is gone
-- unless it is kept
pub record ShowsDue (key : LogKey) (keeps : Bool) (due : Option Due) (mark : Option ℕ) (c : Course) : Type 0 where
  pub seen : (history : List Prefix) (log : List Bytes) → IsKeeping sha256 history log c.before c.was
      → All (WasThere c.sees) (due_of key log due)
  pub there : (history : List Prefix) (log : List Bytes) → IsKeeping sha256 history log c.before c.was
      → All (λ p. c.after.held resource.Checkpoint ≡ Some p.note) (due_of key log due)
  pub marked : MarksDue due c.was.edge.size mark
  pub gone : keeps ≡ false → LacksDue due c.was.edge.size c.after.held
