-- A folder or a host as the source of a log's resources.
use Rattle.std.specs.Prelude.{◌≤◌, length}
use Rattle.tl_hash.specs.Bytes.{Bytes}
use Rattle.tl_tile.specs.declared.resource.Resource.{Resource}
use Rattle.tl_source.specs.declared.any.AnySource.{AnySource}
use Rattle.tl_source.specs.declared.any.AnySource.TheVariants as source
use Rattle.tl_source.specs.declared.url.Url.{Url}
use Rattle.tl_source.specs.Asking.{MayGive}
use Rattle.tl_folder.specs.Limits.{most_bytes}

-- a folder with this path, or the host of an address
pub data Origin : Type 0 where
  Folder : Bytes → Origin
  Host : Url → Origin

-- where a source takes its resources from
abbrev pub origin_of : {H F D L : Type 0} → AnySource H F D L → Origin
origin_of (source.Folder folder) = Folder folder
origin_of (source.Http url) = Host url

-- the bytes that it may answer for a resource: a folder any that aren't too many, and a host those that one request
-- for the resource may give
abbrev pub any_answers : Origin → Resource → Bytes → Type 0
any_answers (Folder folder) r text = length text ≤ most_bytes r
any_answers (Host url) r text = MayGive url.authority.now url.prefix.now r text
