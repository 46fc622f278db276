-- Appending entries to a log in batches, each of them published.
use Rattle.std.specs.Prelude.{◌≡◌, Bool, ℕ, ◌+◌, ◌<◌, ◌≤◌, ◌⊎◌, ⊤, false, Some, List, [], ◌∷◌, ◌++◌, Contains, length}
use Rattle.std.specs.List.{All, flat_map}
use Rattle.sha2.specs.Sha256.{sha256}
use Rattle.tl_hash.specs.Bytes.{Bytes}
use Rattle.tl_hash.specs.Tree.{tree_hash}
use Rattle.tl_text.specs.Text.{line, number_text, base64_text}
use Rattle.tl_device.specs.Device.{Passage, HasFailed, WroteWhole}
use Rattle.tl_lines.specs.Lines.{Told, Uncut, unread}
use Rattle.tl_lines.specs.Reading.{TellsOf, TellsAll, all_entries}
use Rattle.tl_tile.specs.declared.resource.Resource.TheVariants as resource
use Rattle.tl_log.specs.Histories.{Prefix}
use Rattle.tl_archive.specs.Shelves.{Kept}
use Rattle.tl_archive.specs.Complete.{IsFor, KeptSafe}
use Rattle.tl_ledger.specs.Standing.{Ledger}
use Rattle.tl_ledger.specs.Keeping.{IsKeeping, published}
use Rattle.tl_ledger.specs.Spent.{LacksSpent}
use Rattle.tl_run.specs.Signing.{LogKey, checkpoint_note}

-- the entries of batches, one after another
abbrev pub joined : List (List Bytes) → List Bytes
joined batches = flat_map (λ batch. batch) batches

-- the publications of a log to which these batches were appended one after another, each under a note of its own
-- checkpoint by the log's key
abbrev pub published_after : LogKey → List Bytes → List (List Bytes) → List Prefix
published_after key log [] = []
published_after key log (batch ∷ more) =
    published (log ++ batch) (checkpoint_note key (log ++ batch)) ∷ published_after key (log ++ batch) more

-- a shelf and the ledger of its log, before and after: what the shelf kept then, and what it kept after each call so
-- far
pub record Course : Type 0 where
  pub before : Kept
  pub after : Kept
  pub saw : List Kept
  pub sees : List Kept
  pub was : Ledger
  pub is : Ledger

-- the course of a shelf and a ledger
abbrev pub course : {S : Type 0} → (S → Kept) → (S → List Kept) → S → S → Ledger → Ledger → Course
course kept trace a b was is = record { before = kept a; after = kept b; saw = trace a; sees = trace b; was = was; is = is }

-- batches were appended: whatever the ledger kept before, it now keeps the same with the batches behind it, each
-- published, and whatever a crash leaves at any moment in between is complete for one of the publications
pub record Appends (key : LogKey) (batches : List (List Bytes)) (c : Course) : Type 0 where
  pub kept : (history : List Prefix) (log : List Bytes) → IsKeeping sha256 history log c.before c.was
      → IsKeeping sha256 (history ++ published_after key log batches) (log ++ joined batches) c.after c.is
  pub safe : (history : List Prefix) (log : List Bytes) → IsKeeping sha256 history log c.before c.was
      → KeptSafe sha256 (history ++ published_after key log batches) c.saw c.sees

-- batches were appended and published, and then these entries put behind the log and not published
pub record AppendsThen (key : LogKey) (batches : List (List Bytes)) (rest : List Bytes) (c : Course) : Type 0 where
  pub kept : (history : List Prefix) (log : List Bytes) → IsKeeping sha256 history log c.before c.was
      → IsKeeping sha256 (history ++ published_after key log batches) ((log ++ joined batches) ++ rest) c.after c.is
  pub safe : (history : List Prefix) (log : List Bytes) → IsKeeping sha256 history log c.before c.was
      → KeptSafe sha256 (history ++ published_after key log batches) c.saw c.sees

-- what was put of a batch, by the ledger's size: all of it, or nothing
abbrev pub IsPutOrNot : List Bytes → List Bytes → Course → Type 0
IsPutOrNot batch put c =
    ((put ≡ []) × (c.is.edge.size ≡ c.was.edge.size))
    ⊎ ((put ≡ batch) × (c.is.edge.size ≡ c.was.edge.size + length batch))

-- a batch was published, or put behind the log and not published, or neither
pub record AppendsAtMost (key : LogKey) (batch : List Bytes) (c : Course) : Type 0 where
  pub batches : List (List Bytes)
  pub rest : List Bytes
  pub appends : AppendsThen key batches rest c
  pub own : IsPutOrNot batch (joined batches ++ rest) c

-- the checkpoint that is there at the end is that of the log with the batch, under its note by the log's key
abbrev pub HasCheckpoint : LogKey → List Bytes → Course → Type 0
HasCheckpoint key batch c = (history : List Prefix) (log : List Bytes) → IsKeeping sha256 history log c.before c.was
    → c.after.held resource.Checkpoint ≡ Some (checkpoint_note key (log ++ batch))

-- after some call so far the checkpoint of this publication was there, with all that it needs
abbrev pub WasThere : List Kept → Prefix → Type 0
WasThere sees p = (kept : Kept) × Contains sees kept × IsFor sha256 p kept.held

-- the publication of each of these batches was there after some call so far, with all that it needs
abbrev pub WereThere : LogKey → List (List Bytes) → Course → Type 0
WereThere key batches c = (history : List Prefix) (log : List Bytes) → IsKeeping sha256 history log c.before c.was
    → All (WasThere c.sees) (published_after key log batches)

-- no partial tile or bundle is there that is spent since the last of these batches
abbrev pub LacksSpentByLast : List (List Bytes) → Course → Type 0
LacksSpentByLast batches c = (front : List (List Bytes)) × ((last : List Bytes) × (batches ≡ front ++ last ∷ []))
    × LacksSpent (c.was.edge.size + length (joined front)) c.is.edge.size c.after.held

-- the line of a size and a root
abbrev pub head_line : ℕ → Bytes → Bytes
head_line size root = line (number_text size ++ 32 ∷ base64_text root)

-- the line of a publication
abbrev pub publication_line : Prefix → Bytes
publication_line p = head_line (length p.entries) (tree_hash sha256 p.entries)

-- the writer took the lines of the publications in order, whatever the ledger kept before
pub record PrintsHeads (key : LogKey) (batches : List (List Bytes)) (c : Course) (o : Passage) : Type 0 where
  pub lines : (history : List Prefix) (log : List Bytes) → IsKeeping sha256 history log c.before c.was
      → WroteWhole o (flat_map publication_line (published_after key log batches))

-- batches of `size` entries, the last of which may have fewer
abbrev pub AreBatches : ℕ → List (List Bytes) → Type 0
AreBatches size [] = ⊤
AreBatches size (last ∷ []) = length last ≤ size
AreBatches size (batch ∷ next ∷ more) = (length batch ≡ size) × AreBatches size (next ∷ more)

-- all lines of an input were appended in batches, at least one; each publication was there, the last one still is,
-- and their sizes and roots were printed. Unless they are kept, no partial tiles are left that the last batch spent
pub record AppendsLines (key : LogKey) (size : ℕ) (keeps : Bool) (c : Course) (i o : Passage) : Type 0 where
  pub batches : List (List Bytes)
  pub sized : AreBatches size batches
  pub some : 0 < length batches
  pub last : Uncut
  pub appends : Appends key batches c
  pub lines : TellsAll unread last i (all_entries (joined batches))
  pub shown : WereThere key batches c
  pub there : HasCheckpoint key (joined batches) c
  pub spent : keeps ≡ false → LacksSpentByLast batches c
  pub heads : PrintsHeads key batches c o

-- these entries are the first of the lines of an input
abbrev pub AreFirst : Passage → List Bytes → Type 0
AreFirst i entries = (last : Uncut) × (more : List Told) × TellsOf unread last i (all_entries entries ++ more)

-- some lines were appended before a fault: the first of the input, unless a read of it failed. If a checkpoint wasn't
-- signed, the entries that were put for it aren't published
pub record AppendsSome (key : LogKey) (c : Course) (i : Passage) : Type 0 where
  pub batches : List (List Bytes)
  pub rest : List Bytes
  pub appends : AppendsThen key batches rest c
  pub lines : HasFailed i ⊎ AreFirst i (joined batches ++ rest)
