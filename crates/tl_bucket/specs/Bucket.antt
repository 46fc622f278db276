-- A bucket, which is the store of objects that the operators of one log share, and what a put does to it (C2SP
-- tlog-tiles; for the conditions of a put RFC 9110, "If-Match" and "If-None-Match").
use Rattle.std.specs.Prelude.{◌≡◌, ℕ, zero, suc, Bool, true, false, List, [], ◌++◌, Option, Some, None, ◌==◌, bytes_eq, if◌then◌else◌}
use Rattle.tl_hash.specs.Bytes.{Bytes}
use Rattle.tl_tile.specs.declared.resource.Resource.{Resource}
use Rattle.tl_log.specs.Histories.{Prefix}
use Rattle.tl_log.specs.Resources.{same_resource}
use Rattle.tl_archive.specs.Shelves.{Held}

-- the objects that are there: under `commit/N`, for N from 1, the entries that the commit appends; and the log's
-- resources
pub record Store : Type 0 where
  pub commits : ℕ → Option (List Bytes)
  pub held : Held

-- a store with nothing in it
abbrev pub no_objects : Store
no_objects = record { commits = λ n. None; held = λ r. None }

-- the first n commits are there, and the log after them has these entries: what they append, in order
abbrev pub Committed : Store → ℕ → List Bytes → Type 0
Committed store zero entries = entries ≡ []
Committed store (suc n) entries = (front batch : List Bytes) × Committed store n front
    × (store.commits (suc n) ≡ Some batch) × (front ++ batch ≡ entries)

-- the log after some commits, or before the first, has these entries
abbrev pub IsCommitted : Store → List Bytes → Type 0
IsCommitted store entries = (n : ℕ) × Committed store n entries

-- a put of the entries that a commit appends, if nothing is under its number (If-None-Match: *); of a tile or bundle,
-- whatever is there; or of a publication's checkpoint, if none is there (If-None-Match: *) or, with a note, if the
-- one that is there has the entity tag of that note (If-Match)
pub data Request : Type 0 where
  put_commit : ℕ → List Bytes → Request
  put_resource : Resource → Bytes → Request
  put_checkpoint : Option Bytes → Prefix → Request

-- the object that is there after a put that is done only if nothing is there
abbrev pub put_new : {X : Type 0} → X → Option X → Option X
put_new new None = Some new
put_new new (Some old) = Some old

-- the store after a put of a commit
abbrev pub with_commit : ℕ → List Bytes → Store → Store
with_commit n batch store =
    record store { commits = λ m. if m == n then put_new batch (store.commits m) else store.commits m }

-- the store after a put of a resource
abbrev pub with_resource : Resource → Bytes → Store → Store
with_resource r bytes store =
    record store { held = λ s. if same_resource s r then Some bytes else store.held s }

-- whether the condition of a checkpoint's put holds, as far as entity tags distinguish notes
abbrev pub is_met : (Bytes → Bytes) → Option Bytes → Option Bytes → Bool
is_met tag None None = true
is_met tag (Some wanted) (Some note) = bytes_eq (tag wanted) (tag note)
is_met tag _ _ = false
