-- How far the log in a bucket goes, as an operator finds out when it starts.
use Rattle.std.specs.Prelude.{◌≡◌, ◌⊎◌, ℕ, ◌+◌, [], Bool, not, ◌||◌, nat_lt, Option, Some, None, is_some, length}
use Rattle.tl_hash.specs.Bytes.{Bytes}
use Rattle.tl_s3.specs.Objects.{Content, Place}
use Rattle.tl_s3.specs.declared.object.Condition.TheVariants as condition
use Rattle.tl_s3.specs.declared.object.PutAnswer.TheVariants.{Refused}
use Rattle.tl_folder.specs.Places.{place_of}
use Rattle.tl_tile.specs.declared.resource.Resource.TheVariants as resource
use Rattle.tl_bucket.specs.Answered.{IsBare, WasMissing, WasPut, WasRead, WasReadWith}
use Rattle.tl_bucket.specs.Buckets.{Shown}
use Rattle.tl_bucket.specs.Claims.{Claims, no_claims}
use Rattle.tl_bucket.specs.Commits.{Commit, IsCommit}
use Rattle.tl_bucket.specs.Shelved.{commit_path}

-- the commit with this number was there; and the commit with this number wasn't
abbrev pub HasCommit : Place → ℕ → Type 0
HasCommit p n = (bytes : Bytes) × WasRead p (commit_path n) bytes

abbrev pub LacksCommit : Place → ℕ → Type 0
LacksCommit p n = WasMissing p (commit_path n)

-- the commit with this number was there, or it is 0, and the next one wasn't
pub record IsLastFound (p : Place) (n : ℕ) : Type 0 where
  pub there : (n ≡ 0) ⊎ HasCommit p n
  pub none : LacksCommit p (n + 1)

-- the commit with this number was there, and it was this one
abbrev pub WasReadAs : Place → ℕ → Commit → Type 0
WasReadAs p n c = (bytes : Bytes) × WasRead p (commit_path n) bytes × IsCommit bytes c

-- the store refused a put on condition that nothing is there (If-None-Match: *), and one on condition that something
-- else is there (If-Match)
pub record RefusesPuts (p : Place) : Type 0 where
  pub where_one_is : (content : Content) × WasPut p content condition.Absent Refused
  pub where_another_is : (content : Content) × (etag : _) × WasPut p content (condition.Matches etag) Refused

-- all commits up to the one with this number append `size` entries, as the last of them says
abbrev pub EndsAt : Place → ℕ → ℕ → Type 0
EndsAt p n size = ((n ≡ 0) × (size ≡ 0)) ⊎ ((c : Commit) × WasReadAs p n c × (size ≡ c.start + length c.entries))

-- the next commit, with this token, comes after the last one that was found
pub record IsAtEnd (p : Place) (token : Bytes) (claims : Claims) : Type 0 where
  pub last : ℕ
  pub size : ℕ
  pub found : IsLastFound p last
  pub ends : EndsAt p last size
  pub next : claims ≡ no_claims (last + 1) size token None

-- one answer gave the checkpoint's note and its entity tag, which is as If-Match takes it; or there was none
abbrev pub KnowsShown : Place → Option Shown → Type 0
KnowsShown p None = WasMissing p (place_of [] resource.Checkpoint)
KnowsShown p (Some shown) =
    (etag : Bytes) × WasReadWith p (place_of [] resource.Checkpoint) shown.note (Some etag) × IsBare etag shown.etag

-- whether a log is there: a commit that appends to it, or its checkpoint
abbrev pub has_log : Claims → Option Shown → Bool
has_log claims shown = nat_lt 1 claims.number || is_some shown

-- a log is there if and only if a new one isn't to begin
abbrev pub BeginsThere : Bool → Claims → Option Shown → Type 0
BeginsThere new claims shown = has_log claims shown ≡ not new
