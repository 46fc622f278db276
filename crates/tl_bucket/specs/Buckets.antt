-- A bucket as a shelf: what its calls made of what it had.
use Rattle.std.specs.Prelude.{◌≡◌, ℕ, Bool, List, [], ◌∷◌, ◌++◌, Option, Some, None}
use Rattle.tl_archive.specs.Shelves.{Held, Item, Kept}
use Rattle.tl_folder.specs.Events.{Event}
use Rattle.tl_folder.specs.Folders.{Reached, after_calls, after_each, at_first}
use Rattle.tl_hash.specs.Bytes.{Bytes}
use Rattle.tl_s3.specs.Objects.{Place}
use Rattle.tl_s3.specs.declared.object.Condition.{Condition}
use Rattle.tl_s3.specs.declared.object.Condition.TheVariants as condition
use Rattle.tl_tile.specs.declared.resource.Resource.{Resource}
use Rattle.tl_tile.specs.declared.resource.Resource.TheVariants as resource
use Rattle.tl_bucket.specs.Answered.{IsBare, WasThereWith}
use Rattle.tl_bucket.specs.Claims.{Adds, Claims, CommitsEntries}
use Rattle.tl_bucket.specs.Shelved.{WereThere, content_at}

-- a checkpoint that is there: its note, and the entity tag that came with it
pub record Shown : Type 0 where
  pub note : Bytes
  pub etag : Bytes

-- the objects of a log: their bucket; the tiles and bundles that wait, and the note that does; the claims for them;
-- and the checkpoint that is there, if any
pub record Objects : Type 0 where
  pub at : Place
  pub waiting : List Item
  pub note : Option Bytes
  pub claims : Claims
  pub shown : Option Shown

-- nothing waits yet
abbrev pub no_objects : Place → Claims → Option Shown → Objects
no_objects at claims shown = record { at = at; waiting = []; note = None; claims = claims; shown = shown }

-- a bucket as a shelf: its objects; whether the checkpoint is read anew each time; the address by which it was
-- opened; the outcomes of its calls so far, how many of them failed, and how many entries it marked as published last
pub record Bucketed : Type 0 where
  pub objects : Objects
  pub reads_anew : Bool
  pub place : Bytes
  pub events : List Event
  pub failures : ℕ
  pub published : Option ℕ

-- what a bucket keeps, given what it had at first and its calls
abbrev pub bucket_kept : Held → Reached → Bucketed → Kept
bucket_kept held reached b = after_calls reached 0 b.events (at_first held)

-- what a bucket keeps after each call so far
abbrev pub bucket_trace : Held → Reached → Bucketed → List Kept
bucket_trace held reached b = after_each reached 0 b.events (at_first held)

-- the condition under which a checkpoint is put: that the one that is there has the entity tag of this one, or that
-- none is there
abbrev pub IsReplacing : Option Shown → Condition → Type 0
IsReplacing None c = c ≡ condition.Absent
IsReplacing (Some shown) c = (value : _) × (c ≡ condition.Matches value) × (value.now ≡ shown.etag)

-- a checkpoint was put if one was to be, and this is the one that is there then
abbrev pub NoteWasThere : Place → Option Shown → Option Bytes → Option Shown → Type 0
NoteWasThere p before None after = after ≡ before
NoteWasThere p before (Some note) after =
    (c : Condition) × IsReplacing before c × ((etag : Bytes) × WasThereWith p (content_at (resource.Checkpoint, note)) c (Some etag)
    × ((tag : Bytes) × IsBare etag tag × (after ≡ Some (record { note = note; etag = tag }))))

-- all that waited was put: the entries that the bundles add are committed, if there are any, the tiles and bundles
-- were there, and the checkpoint was put in the place of the one that was known. Nothing waits any more
pub record SettlesObjects (before after : Objects) : Type 0 where
  pub committed : CommitsEntries before.at before.claims after.claims
  pub tiles : WereThere before.at before.waiting
  pub checkpoint : NoteWasThere before.at before.shown before.note after.shown
  pub at : after.at ≡ before.at
  pub waiting : after.waiting ≡ []
  pub note : after.note ≡ None

-- the bytes of a resource now wait too, and the entries that a bundle adds are claimed
abbrev pub KeepsBytes : Resource → Bytes → Objects → Objects → Type 0
KeepsBytes resource.Checkpoint bytes before after = after ≡ record before { note = Some bytes }
KeepsBytes (resource.Tile t) bytes before after =
    after ≡ record before { waiting = before.waiting ++ (resource.Tile t, bytes) ∷ [] }
KeepsBytes (resource.Entries index width) bytes before after = (claims : Claims) × Adds index width bytes before.claims claims
    × (after ≡ record before { waiting = before.waiting ++ (resource.Entries index width, bytes) ∷ []; claims = claims })
