-- The command `append`, which goes on from the log on a shelf.
use Rattle.std.specs.Prelude.{◌≡◌, ◌<◌, ◌⊎◌, ⊤, ℕ, ◌-◌, ◌^◌, Bool, true, false, max, length, Option, Some, None, List, [], ◌∷◌, ◌++◌, Contains, Result, Ok, Err, string_bytes}
use Rattle.std.specs.List.{All, flat_map}
use Rattle.sha2.specs.Sha256.{sha256}
use Rattle.tl_hash.specs.Bytes.{Bytes, Digest}
use Rattle.tl_hash.specs.declared.head.Head.{Head}
use Rattle.tl_device.specs.Device.{Passage, HasFailed, IsUnread, WroteWhole}
use Rattle.tl_note.specs.Key.{Key}
use Rattle.tl_key.specs.DemoKey.{demo_verifier_key}
use Rattle.tl_key.specs.NoteKey.{SeedKey, note_kind, public_of, verifier_key}
use Rattle.tl_lines.specs.Lines.{Uncut, unread}
use Rattle.tl_lines.specs.Reading.{TellsAll, all_entries}
use Rattle.tl_tile.specs.declared.resource.Resource.TheVariants as resource
use Rattle.tl_log.specs.Histories.{Prefix, Begins}
use Rattle.tl_archive.specs.Shelves.{Kept}
use Rattle.tl_archive.specs.Complete.{HasAll, IsSafe, KeptSafe}
use Rattle.tl_ledger.specs.Opening.{Found, FoundCollides, IsLogOf}
use Rattle.tl_run.specs.Signing.{LogKey, checkpoint_note, demo_log_key, seed_log_key}
use Rattle.tl_run.specs.Keys.{IsPrivateFile}
use Rattle.tl_run.specs.declared.keys.LogKey.{LogKey as GivenKey}
use Rattle.tl_run.specs.declared.keys.LogKey.TheVariants as given
use Rattle.tl_run.specs.declared.fault.RunFault.{RunFault}
use Rattle.tl_append.specs.Appending.{AreBatches, AreFirst, WasThere, joined, publication_line, published_after}
use Rattle.tl_append.specs.Proposing.{HasProposal}

-- a shelf at rest with the log of these entries, after these publications: each is of a prefix of them, nothing is
-- staged, whatever a crash leaves is complete for one of the publications, and all that a log of the entries needs is
-- there
pub record IsResting (H : Digest) (history : List Prefix) (entries : List Bytes) (kept : Kept) : Type 0 where
  pub begins : (p : Prefix) → Contains history p → Begins p.entries entries
  pub rests : kept.staged ≡ []
  pub safe : IsSafe H history kept
  pub whole : HasAll H entries kept.held

-- a shelf before and after: what it kept then, and what it kept after each call so far
pub record Visit : Type 0 where
  pub before : Kept
  pub after : Kept
  pub saw : List Kept
  pub sees : List Kept

-- the visit of a shelf
abbrev pub visit : {S : Type 0} → (S → Kept) → (S → List Kept) → S → S → Visit
visit kept trace a b = record { before = kept a; after = kept b; saw = trace a; sees = trace b }

-- batches were appended to the log and published, and then these entries put: the shelf rests with all of them, and
-- whatever a crash leaves at any moment in between is complete for one of the publications
pub record Grows (key : LogKey) (batches : List (List Bytes)) (rest : List Bytes) (v : Visit) (history : List Prefix) (log : List Bytes) : Type 0 where
  pub rests : IsResting sha256 (history ++ published_after key log batches) ((log ++ joined batches) ++ rest) v.after
  pub safe : KeptSafe sha256 (history ++ published_after key log batches) v.saw v.sees

-- this comes of each log at rest on the shelf with the size and the root that were found, or inputs collide
abbrev pub OfFound : Found → Kept → (List Prefix → List Bytes → Type 0) → Type 0
OfFound found before Comes =
    (history : List Prefix) (log : List Bytes) → IsLogOf sha256 found.head log → IsResting sha256 history log before
    → FoundCollides sha256 found log ⊎ Comes history log

-- the writer took the lines of the publications in order
abbrev pub WroteHeads : LogKey → List (List Bytes) → Passage → List Prefix → List Bytes → Type 0
WroteHeads key batches o history log = WroteWhole o (flat_map publication_line (published_after key log batches))

-- each publication was there after some call, with all that it needs
abbrev pub HadAll : LogKey → List (List Bytes) → Visit → List Prefix → List Bytes → Type 0
HadAll key batches v history log = All (WasThere v.sees) (published_after key log batches)

-- the checkpoint that is there is that of the log with all batches
abbrev pub HasLast : LogKey → List (List Bytes) → Visit → List Prefix → List Bytes → Type 0
HasLast key batches v history log =
    v.after.held resource.Checkpoint ≡ Some (checkpoint_note key (log ++ joined batches))

-- the size of the log whose checkpoint is there is marked
abbrev pub MarksLast : LogKey → Found → Visit → Option ℕ → Type 0
MarksLast key found v mark = OfFound found v.before (λ history log. (all : List Bytes)
    × (v.after.held resource.Checkpoint ≡ Some (checkpoint_note key all)) × (mark ≡ Some (length all)))

-- the key of a log of this name that its options name: the demonstration key of the name and a secret, or the private
-- key of that name in a file
abbrev pub IsLogKey : GivenKey → Bytes → LogKey → Type 0
IsLogKey (given.Secret secret) name key = key ≡ demo_log_key (record { name = name; secret = string_bytes secret })
IsLogKey (given.File path) name key =
    (bytes : Bytes) × (k : SeedKey) × IsPrivateFile note_kind bytes k × (k.name ≡ name) × (key ≡ seed_log_key k)

-- both keys of a log of this name that its options name, the one that signs and the one that opens what that signed:
-- they are of one secret, or of one private key
abbrev pub AreLogKeys : GivenKey → Bytes → LogKey → Key → Type 0
AreLogKeys (given.Secret secret) name signer opener =
    (signer ≡ demo_log_key (record { name = name; secret = string_bytes secret }))
    × (opener ≡ demo_verifier_key (record { name = name; secret = string_bytes secret }))
AreLogKeys (given.File path) name signer opener =
    (bytes : Bytes) × (k : SeedKey) × IsPrivateFile note_kind bytes k × (k.name ≡ name)
    × (signer ≡ seed_log_key k) × (opener ≡ verifier_key (public_of k))

-- a log of this size has all entries of a proposal that may be kept, which opens under the log's own key
abbrev pub HasOwnProposal : GivenKey → Bytes → (Option Bytes → Type 0) → ℕ → Type 0
HasOwnProposal given name MayHave size =
    (signer : LogKey) × (opener : Key) × AreLogKeys given name signer opener × HasProposal MayHave (opener ∷ []) size

-- the size of a batch: as many entries as the options say, at least one
abbrev pub batch_size : Option ℕ → ℕ
batch_size None = 2 ^ 64 - 1
batch_size (Some count) = max count 1

-- all lines of the input were appended in batches, at least one; each publication was there, the last one still is,
-- and their sizes and roots were printed
pub record GoesOnWhole (key : LogKey) (size : ℕ) (found : Found) (v : Visit) (i o : Passage) : Type 0 where
  pub batches : List (List Bytes)
  pub sized : AreBatches size batches
  pub some : 0 < length batches
  pub last : Uncut
  pub grows : OfFound found v.before (Grows key batches [] v)
  pub lines : TellsAll unread last i (all_entries (joined batches))
  pub shown : OfFound found v.before (HadAll key batches v)
  pub there : OfFound found v.before (HasLast key batches v)
  pub heads : OfFound found v.before (WroteHeads key batches o)

-- some lines were appended before a fault: the first of the input, unless a read of it failed
pub record GoesOnPart (key : LogKey) (found : Found) (v : Visit) (i : Passage) : Type 0 where
  pub batches : List (List Bytes)
  pub rest : List Bytes
  pub grows : OfFound found v.before (Grows key batches rest v)
  pub lines : HasFailed i ⊎ AreFirst i (joined batches ++ rest)

-- nothing was written, and nothing was read of the input
pub record Stays (v : Visit) (i : Passage) : Type 0 where
  pub kept : v.after ≡ v.before
  pub trace : v.sees ≡ v.saw
  pub unread : IsUnread i

-- a log of this size may go on, if it has to have `start` entries or any number
abbrev pub IsStart : Option ℕ → ℕ → Type 0
IsStart None size = ⊤
IsStart (Some start) size = size ≡ start

-- a new log begins if that is asked, and none was found; else one was found, and it goes on
abbrev pub BeginsAsAsked : Bool → Option Head → Type 0
BeginsAsAsked true found = found ≡ None
BeginsAsAsked false found = (head : Head) × (found ≡ Some head)

-- how a log of this name goes on, under the key that its options name, in batches of this size
abbrev pub GoesOn : GivenKey → Bytes → ℕ → Found → Visit → Passage → Passage → Result (Unit {0}) RunFault → Type 0
GoesOn key name size found v i o (Ok done) = (own : LogKey) × IsLogKey key name own × GoesOnWhole own size found v i o
GoesOn key name size found v i o (Err fault) =
    Stays v i ⊎ ((own : LogKey) × IsLogKey key name own × GoesOnPart own found v i)
