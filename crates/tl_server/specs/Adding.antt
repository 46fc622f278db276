-- How a log that takes entries answers a request. POST /add submits an entry, and is answered with its index.
use Rattle.std.specs.Prelude.{◌≡◌, ◌≢◌, ◌⊎◌, ℕ, ◌<◌, ◌≤◌, ◌/◌, ◌%◌, List, [], Bool, Some, codes, decimal, slice_get}
use Rattle.tl_archive.specs.Shelves.{Held}
use Rattle.tl_archive.specs.declared.fault.ShelfFault.{ShelfFault}
use Rattle.tl_hash.specs.Bytes.{Bytes}
use Rattle.tl_http.specs.FieldValues.{fields_of}
use Rattle.tl_publisher.specs.Pasts.{Past}
use Rattle.tl_tile.specs.Bundle.{most_entry, bundle_text, AreEntries, IsBundle}
use Rattle.tl_tile.specs.Needed.{bundle_width}
use Rattle.tl_tile.specs.declared.resource.Resource.{Resource}
use Rattle.tl_tile.specs.declared.resource.Resource.TheVariants as resource
use Rattle.tl_witness.specs.Cases.{Unless, UnlessSome}
use Rattle.tl_server.specs.Answer.{Answer, bare, busy, not_allowed, plain_text, octets}
use Rattle.tl_server.specs.Exchange.{Begun}
use Rattle.tl_server.specs.Head.{IsSized, HasBody}
use Rattle.tl_server.specs.Log.{ResourceAnswers, LooksUp, ReadsShelf}
use Rattle.tl_server.specs.declared.adding.EntryStatus.{EntryStatus}
use Rattle.tl_server.specs.declared.adding.EntryStatus.TheVariants as entry_status

-- what a request leads to
pub data Course : Type 0 where
  -- it is answered like this
  Reply : Answer → Course
  -- it is answered with 500, because the entry isn't at the index that was reported
  Misplace : Course
  -- nothing is answered yet
  Postpone : Course

-- the answer to a GET of a bundle that is there
abbrev pub bundle_answer : Bytes → Answer
bundle_answer bytes = record { status = 200; allow = []; kind = octets; body = bytes }

-- the answer with an index
abbrev pub index_answer : ℕ → Answer
index_answer index = record { status = 200; allow = []; kind = plain_text; body = decimal index }

-- a bundle was given that has this entry at its index
pub record HasAt (Gives : Resource → Answer → Type 0) (index : ℕ) (entry : Bytes) : Type 0 where
  pub width : ℕ
  pub entries : List Bytes
  pub are : AreEntries width entries
  pub gave : Gives (resource.Entries (index / 256) width) (bundle_answer (bundle_text entries))
  pub there : slice_get entries (index % 256) ≡ Some entry

-- these bytes are a bundle of `width` entries, and at this place it has another entry or none
pub record HasOther (bytes : Bytes) (width place : ℕ) (entry : Bytes) : Type 0 where
  pub entries : List Bytes
  pub are : AreEntries width entries
  pub spelled : bytes ≡ bundle_text entries
  pub other : slice_get entries place ≢ Some entry

-- what was given doesn't have this entry: there is no bundle, the bytes aren't a bundle of `width` entries, or it has
-- another entry at the place
abbrev pub LacksEntry : ℕ → ℕ → Bytes → Answer → Type 0
LacksEntry width place entry a =
    (a ≡ bare 404)
    ⊎ ((bytes : Bytes) × (a ≡ bundle_answer bytes)
    × (¬ IsBundle bytes width ⊎ HasOther bytes width place entry))

-- looking for the bundle with this index and width gave this answer; `seen` is the width that was read last. One read
-- is enough on a board, which has the partial bundle of each publication
abbrev pub LooksOnce : (Resource → Answer → Type 0) → ℕ → ℕ → ℕ → Answer → Type 0
LooksOnce Gives bundle width seen a = (seen ≡ width) × Gives (resource.Entries bundle seen) a

-- one read, and one of the full bundle if that one isn't there; a shelf may have dropped a partial bundle for the
-- full one
abbrev pub LooksTwice : (Resource → Answer → Type 0) → ℕ → ℕ → ℕ → Answer → Type 0
LooksTwice Gives bundle width seen a =
    (LooksOnce Gives bundle width seen a × (a.status ≢ 404))
    ⊎ (Gives (resource.Entries bundle width) (bare 404) × LooksOnce Gives bundle 256 seen a)

-- the last cases of the table below: the log has `size` entries, and the entry is reported at this index
abbrev pub PlaceAnswers
    : Type 0 → (Resource → Answer → Type 0) → (ℕ → ℕ → ℕ → Answer → Type 0)
    → ℕ → ℕ → Bytes → Course → Type 0
PlaceAnswers Unseen Gives Looks index size entry c =
    Unless (index < size) (Unseen × (c ≡ Misplace))
    ((HasAt Gives index entry × (c ≡ Reply (index_answer index)))
    ⊎ ((seen : ℕ) × (a : Answer) × Looks (index / 256) (bundle_width size (index / 256)) seen a
    × (((a ≡ bare 500) × (c ≡ Reply (bare 500)))
    ⊎ (LacksEntry seen (index % 256) entry a × (c ≡ Misplace)))))

-- the cases of the table below for the reported status of an entry
abbrev pub StatusAnswers
    : Type 0 → (Resource → Answer → Type 0) → (ℕ → ℕ → ℕ → Answer → Type 0)
    → Bytes → EntryStatus → Course → Type 0
StatusAnswers Unseen Gives Looks entry entry_status.Later c = Unseen × (c ≡ Postpone)
StatusAnswers Unseen Gives Looks entry entry_status.Refused c = Unseen × (c ≡ Reply busy)
StatusAnswers Unseen Gives Looks entry entry_status.NoMemory c = Unseen × (c ≡ Reply (bare 500))
StatusAnswers Unseen Gives Looks entry (entry_status.At index size) c = PlaceAnswers Unseen Gives Looks index size entry c

-- what a request to a log that takes entries leads to, by the first case that applies:
--     any  the target isn't /add: answered as by a log that takes no entries
--     405  the method isn't POST
--     400  the fields don't say how long the body is
--     413  the body has more than 65,535 bytes
--     500  it has some, and an allocation for them failed
--     400  the input ends before the body does
--     --   its index isn't known yet: nothing is answered
--     503  the log takes nothing now, or hasn't published the entry in time
--     500  an allocation failed while the entry was submitted
--     500  its reported index isn't below the size reported with it: misplaced
--     200  it has an index, and a bundle was given that has the entry there
--     500  the bundle was looked for, and a GET of it is answered with 500
--     500  the bundle was looked for, and what was given doesn't have the entry: misplaced
-- Unasked says that no entry was submitted, Submits that one call reported this status of an entry, Unseen that no
-- resource was read, Gives how a GET of a resource is answered, Looks what looking for a bundle gave
abbrev pub OpenDecides
    : Type 0 → (Bytes → EntryStatus → Type 0)
    → Type 0 → (Resource → Answer → Type 0) → (ℕ → ℕ → ℕ → Answer → Type 0)
    → Begun → Course → Type 0
OpenDecides Unasked Submits Unseen Gives Looks b c =
    Unless (b.head.target ≡ codes "/add")
    (Unasked × ((a : Answer) × ResourceAnswers Unseen Gives b.head.method b.head.target a × (c ≡ Reply a)))
    (Unless (b.head.method ≡ codes "POST") (Unasked × Unseen × (c ≡ Reply (not_allowed (codes "POST"))))
    (UnlessSome (IsSized (fields_of b.head.fields)) (Unasked × Unseen × (c ≡ Reply (bare 400))) (λ n.
    Unless (n ≤ most_entry) (Unasked × Unseen × (c ≡ Reply (bare 413)))
    (((0 < n) × (Unasked × Unseen × (c ≡ Reply (bare 500))))
    ⊎ UnlessSome (HasBody b.rest n) (Unasked × Unseen × (c ≡ Reply (bare 400))) (λ entry.
    (entry_status : EntryStatus) × Submits entry entry_status × StatusAnswers Unseen Gives Looks entry entry_status c)))))

-- the same table for a log on the board
abbrev pub OpenLogDecides : Type 0 → Type 0 → (Bytes → EntryStatus → Type 0) → Past → Past → Begun → Course → Type 0
OpenLogDecides A Unasked Submits old new =
    OpenDecides Unasked Submits (new ≡ old) (LooksUp A old new) (LooksOnce (LooksUp A old new))

-- the same table for a log on a shelf
abbrev pub OpenShelfDecides
    : Type 0 → Type 0 → (Bytes → EntryStatus → Type 0)
    → Bool → Held → (Resource → ShelfFault → Type 0)
    → Begun → Course → Type 0
OpenShelfDecides A Unasked Submits is_honest held MayFail =
    OpenDecides Unasked Submits (Unit {0}) (ReadsShelf A is_honest held MayFail)
    (LooksTwice (ReadsShelf A is_honest held MayFail))
