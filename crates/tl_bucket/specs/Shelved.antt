-- The objects of a log in a bucket (C2SP tlog-tiles, "Merkle Tree", "Log Entries" and "Checkpoints").
use Rattle.std.specs.Prelude.{ℕ, List, [], ◌++◌, Contains, codes}
use Rattle.tl_archive.specs.Shelves.{Item}
use Rattle.tl_folder.specs.Places.{place_of}
use Rattle.tl_hash.specs.Bytes.{Bytes}
use Rattle.tl_s3.specs.Objects.{Content, Place}
use Rattle.tl_s3.specs.declared.object.Condition.TheVariants.{Always}
use Rattle.tl_text.specs.Text.{number_text}
use Rattle.tl_tile.specs.declared.resource.Resource.{Resource}
use Rattle.tl_tile.specs.declared.resource.Resource.TheVariants as resource
use Rattle.tl_bucket.specs.Answered.{WasThere}

-- the media type of a resource
abbrev pub media_of : Resource → Bytes
media_of (resource.Tile t) = codes "application/octet-stream"
media_of (resource.Entries index width) = codes "application/octet-stream"
media_of resource.Checkpoint = codes "text/plain; charset=utf-8"

-- the caching of objects that don't change, and of those that do (RFC 9111, section 5.2; RFC 8246)
abbrev pub lasting : Bytes
lasting = codes "public, max-age=31536000, immutable"

abbrev pub fleeting : Bytes
fleeting = codes "no-store"

-- the caching of a resource
abbrev pub caching_of : Resource → Bytes
caching_of (resource.Tile t) = lasting
caching_of (resource.Entries index width) = lasting
caching_of resource.Checkpoint = fleeting

-- the object of a resource with these bytes
abbrev pub content_at : Item → Content
content_at item =
    record {
      path = place_of [] item.0;
      content_type = media_of item.0;
      cache_control = caching_of item.0;
      body = item.1;
    }

-- the path of a commit
abbrev pub commit_path : ℕ → Bytes
commit_path n = codes "/commit/" ++ number_text n

-- the object of a commit with this number and these bytes
abbrev pub commit_at : ℕ → Bytes → Content
commit_at n bytes =
    record {
      path = commit_path n;
      content_type = codes "application/octet-stream";
      cache_control = lasting;
      body = bytes;
    }

-- each of the items was there as the object of its resource
abbrev pub WereThere : Place → List Item → Type 0
WereThere p items = (item : Item) → Contains items item → WasThere p (content_at item) Always
