-- Resources that wait to be put, and the checkpoint that is there.
use Rattle.std.specs.Prelude.{string_bytes, vec_items}
use Rattle.tl_archive.specs.Shelves.{Item}
use Rattle.tl_s3.specs.Objects.{Place}
use Rattle.tl_s3.specs.declared.object.Condition.TheVariants.{Always}
use Rattle.tl_bucket.specs.Answered.{WasThere}
use Rattle.tl_bucket.specs.Buckets as seen
use Rattle.tl_bucket.specs.Shelved.{content_at}
use Rattle.tl_bucket.specs.declared.noting.Shown.{Shown}
use Rattle.tl_bucket.specs.declared.staged.Staged.{Staged}

-- a resource that waits, and its bytes
abbrev pub item_of : Staged → Item
item_of s = (s.resource, vec_items s.bytes)

-- the resource was there as its object
abbrev pub IsThere : Place → Staged → Type 0
IsThere p s = WasThere p (content_at (item_of s)) Always

-- a checkpoint that is there, as a value
abbrev pub shown_of : Shown → seen.Shown
shown_of s = record { note = vec_items s.note; etag = string_bytes s.etag }
