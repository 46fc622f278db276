-- What the operators of one log may send to their bucket, and all that may come of it.
use Rattle.std.specs.Prelude.{◌≡◌, ℕ, ◌-◌, ◌<◌, ◌≤◌, ⊤, List, [], ◌∷◌, ◌++◌, length, Option, Some, None, Contains, if◌then◌else◌}
use Rattle.tl_hash.specs.Bytes.{Bytes, Digest}
use Rattle.tl_text.specs.Text.{line, number_text, HasNoControl, IsSize}
use Rattle.tl_tile.specs.declared.resource.Resource.{Resource}
use Rattle.tl_tile.specs.declared.resource.Resource.TheVariants as resource
use Rattle.tl_tile.specs.Needed.{needed_resources}
use Rattle.tl_log.specs.Histories.{Prefix}
use Rattle.tl_archive.specs.Complete.{text_of, HasAll}
use Rattle.tl_bucket.specs.Bucket.{Store, no_objects, Committed, IsCommitted, Request, put_commit, put_resource, put_checkpoint, with_commit, with_resource, is_met}

-- the digest function, and the entity tag that the store gives a content (RFC 9110, "ETag"), of which nothing is
-- assumed
pub record Setting : Type 0 where
  pub digest : Digest
  pub tag : Bytes → Bytes

-- the store, all that any operator sent to it, and each publication whose checkpoint was there, in order
pub record World : Type 0 where
  pub store : Store
  pub sent : List Request
  pub shown : List Prefix

-- a store with nothing in it, to which nothing was sent
abbrev pub beginning : World
beginning = record { store = no_objects; sent = []; shown = [] }

-- ---- what may be sent

-- a committed log needs these bytes under the resource
pub record IsNeeded (setting : Setting) (store : Store) (r : Resource) (bytes : Bytes) : Type 0 where
  pub entries : List Bytes
  pub committed : IsCommitted store entries
  pub needed : Contains (needed_resources (length entries)) r
  pub bytes_of : bytes ≡ text_of setting.digest r entries

-- the second line of the note is this size in decimal (C2SP tlog-checkpoint)
pub record TellsSize (note : Bytes) (size : ℕ) : Type 0 where
  pub origin : Bytes
  pub rest : Bytes
  pub plain : HasNoControl origin
  pub bounded : IsSize size
  pub spelled : note ≡ line origin ++ line (number_text size) ++ rest

-- the publication is of a committed log, all that this log needs is there, and the note states its size
pub record IsWhole (setting : Setting) (store : Store) (q : Prefix) : Type 0 where
  pub committed : IsCommitted store q.entries
  pub all : HasAll setting.digest q.entries store.held
  pub note : TellsSize q.note (length q.entries)

-- the note is that of a publication that was shown
abbrev pub WasShown : List Prefix → Bytes → Type 0
WasShown shown note = (p : Prefix) × Contains shown p × (p.note ≡ note)

-- a checkpoint of this size may be the first, or take the place of one that was shown and states no larger size
abbrev pub MayReplace : List Prefix → ℕ → Option Bytes → Type 0
MayReplace shown size None = ⊤
MayReplace shown size (Some note) = WasShown shown note × ((told : ℕ) × TellsSize note told × (told ≤ size))

-- an operator may send a commit if those before it are there, a resource with the bytes that a committed log needs,
-- and the checkpoint of a log that is there whole. Each of these conditions stays true (`leave_to_send_stays`), so an
-- operator may act on what it read at any time before
abbrev pub MaySend : Setting → World → Request → Type 0
MaySend setting w (put_commit n batch) = (0 < n) × (front : List Bytes) × Committed w.store (n - 1) front
MaySend setting w (put_resource r bytes) = IsNeeded setting w.store r bytes
MaySend setting w (put_checkpoint wanted q) =
    IsWhole setting w.store q × MayReplace w.shown (length q.entries) wanted

-- ---- what comes of it

-- an operator sends a request; or the store does one
pub data Event : Type 0 where
  sends : Request → Event
  does : Request → Event

-- the event may happen: the store does what was sent, at any time later, any number of times, or never. So a request
-- or its answer may be lost, come late, or be repeated; and an operator that crashed and forgot everything starts as
-- any other
abbrev pub MayHappen : Setting → World → Event → Type 0
MayHappen setting w (sends request) = MaySend setting w request
MayHappen setting w (does request) = Contains w.sent request

-- the world once the store did a request; nothing is put if the condition of a put doesn't hold
abbrev pub once_done : (Bytes → Bytes) → World → Request → World
once_done tag w (put_commit n batch) = record w { store = with_commit n batch w.store }
once_done tag w (put_resource r bytes) = record w { store = with_resource r bytes w.store }
once_done tag w (put_checkpoint wanted q) =
    if is_met tag wanted (w.store.held resource.Checkpoint)
    then record w { store = with_resource resource.Checkpoint q.note w.store; shown = w.shown ++ q ∷ [] }
    else w

-- the world after an event
abbrev pub after : (Bytes → Bytes) → World → Event → World
after tag w (sends request) = record w { sent = w.sent ++ request ∷ [] }
after tag w (does request) = once_done tag w request

-- the world becomes the other one by these events
abbrev pub LeadsBy : Setting → List Event → World → World → Type 0
LeadsBy setting [] w end = w ≡ end
LeadsBy setting (e ∷ es) w end = MayHappen setting w e × LeadsBy setting es (after setting.tag w e) end

-- the world becomes the other one by some events: this is all that may come of it
abbrev pub Leads : Setting → World → World → Type 0
Leads setting w end = (events : List Event) × LeadsBy setting events w end
