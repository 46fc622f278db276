-- The steps of finding an entry at the index that was reported.
use Rattle.std.specs.Prelude.{◌≡◌, ◌⊎◌, ℕ, ◌%◌, List, Option, Some, None, slice_get, vec_items}
use Rattle.tl_hash.specs.Bytes.{Bytes}
use Rattle.tl_tile.specs.declared.resource.Resource.{Resource}
use Rattle.tl_tile.specs.declared.resource.Resource.TheVariants as resource
use Rattle.tl_tile.specs.Bundle.{bundle_text, AreEntries, IsBundle}
use Rattle.tl_server.specs.Adding.{Course, Reply, Misplace, HasOther, bundle_answer, index_answer}
use Rattle.tl_server.specs.Answer.{Answer, bare}
use Rattle.tl_server.specs.declared.look.Looked.{Looked}
use Rattle.tl_server.specs.declared.look.Looked.TheVariants as looked

-- the bytes are a bundle of `width` entries, and this is what it has at the place
pub record Finds (bytes : Bytes) (width place : ℕ) (found : Option Bytes) : Type 0 where
  pub entries : List Bytes
  pub are : AreEntries width entries
  pub spelled : bytes ≡ bundle_text entries
  pub there : slice_get entries place ≡ found

-- the bytes are a bundle of `width` entries, with this one at the place
abbrev pub HasEntry : Bytes → ℕ → ℕ → Bytes → Type 0
HasEntry bytes width place entry = Finds bytes width place (Some entry)

-- the bytes aren't a bundle of `width` entries, or it has nothing at the place
abbrev pub FindsNone : Bytes → ℕ → ℕ → Type 0
FindsNone bytes width place = ¬ IsBundle bytes width ⊎ Finds bytes width place None

-- the bytes aren't a bundle of `width` entries, or it has another entry or none at the place
abbrev pub LacksIt : Bytes → ℕ → ℕ → Bytes → Type 0
LacksIt bytes width place entry = ¬ IsBundle bytes width ⊎ HasOther bytes width place entry

-- reading the bundle with this index and width gave this answer
abbrev pub ReadsBundle : (Resource → Answer → Type 0) → ℕ → ℕ → Answer → Type 0
ReadsBundle Gives bundle width a = Gives (resource.Entries bundle width) a

-- the result of looking for a bundle; Looks says what it may give, by the width that was read last
abbrev pub IsLooked : {A : Type 0} → (ℕ → Answer → Type 0) → Looked A → Type 0
IsLooked Looks looked.Failed = (seen : ℕ) × Looks seen (bare 500)
IsLooked Looks looked.Nothing = (seen : ℕ) × Looks seen (bare 404)
IsLooked Looks (looked.Bytes bytes seen) = Looks seen (bundle_answer (vec_items bytes))

-- what an entry that was reported to have this index leads to
abbrev pub LookedCourse : {A : Type 0} → ℕ → Bytes → Looked A → Course → Type 0
LookedCourse index entry looked.Failed c = c ≡ Reply (bare 500)
LookedCourse index entry looked.Nothing c = c ≡ Misplace
LookedCourse index entry (looked.Bytes bytes seen) c =
    (HasEntry (vec_items bytes) seen (index % 256) entry × (c ≡ Reply (index_answer index)))
    ⊎ (LacksIt (vec_items bytes) seen (index % 256) entry × (c ≡ Misplace))
