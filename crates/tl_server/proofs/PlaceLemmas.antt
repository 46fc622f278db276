-- From looking for a bundle to what the reported entry leads to.
use Rattle.std.proofs.Common.{◌≡◌, ℕ, ◌<◌, ◌/◌, List, refl, sym, subst, inl, inr, vec_items}
use Rattle.tl_tile.specs.Needed.{bundle_width}
use Rattle.tl_tile.specs.declared.resource.Resource.{Resource}
use Rattle.tl_tile.specs.declared.resource.Resource.TheVariants as resource
use Rattle.tl_server.specs.Adding.{Course, PlaceAnswers, LooksOnce, LooksTwice, bundle_answer}
use Rattle.tl_server.specs.Answer.{Answer, bare}
use Rattle.tl_server.specs.Inner.Places.{IsLooked, LookedCourse, ReadsBundle}
use Rattle.tl_server.specs.declared.look.Looked.{Looked}
use Rattle.tl_server.specs.declared.look.Looked.TheVariants as looked

-- what looking for a bundle finds is what a GET of it gives
abbrev pub GivesWhatLooksFind : (Resource → Answer → Type 0) → (ℕ → ℕ → ℕ → Answer → Type 0) → Type 0
GivesWhatLooksFind Gives Looks = (bundle width seen : ℕ) (a : Answer) → Looks bundle width seen a → Gives (resource.Entries bundle seen) a

once_gives : (Gives : Resource → Answer → Type 0) → GivesWhatLooksFind Gives (LooksOnce Gives)
once_gives Gives bundle width seen a looks = looks.1

twice_gives : (Gives : Resource → Answer → Type 0) → GivesWhatLooksFind Gives (LooksTwice Gives)
twice_gives Gives bundle width seen a (inl looks) = looks.0.1
twice_gives Gives bundle width seen a (inr looks) = looks.1.1

-- the bundle that looking on a shelf found was read
pub read_of_looked : {A : Type 0} (Gives : Resource → Answer → Type 0) (bundle width : ℕ) (found : Looked A) → IsLooked (LooksTwice Gives bundle width) found → IsLooked (ReadsBundle Gives bundle) found
read_of_looked Gives bundle width looked.Failed looks = (looks.0, twice_gives Gives bundle width looks.0 (bare 500) looks.1)
read_of_looked Gives bundle width looked.Nothing looks = (looks.0, twice_gives Gives bundle width looks.0 (bare 404) looks.1)
read_of_looked Gives bundle width (looked.Bytes bytes seen) looks = twice_gives Gives bundle width seen (bundle_answer (vec_items bytes)) looks

-- what was found is equal to this
pub looked_as : {A : Type 0} (index : ℕ) (entry : List ℕ) (found other : Looked A) (c : Course) → found ≡ other → LookedCourse index entry other c → LookedCourse index entry found c
looked_as index entry found other c same is = subst (λ (x : Looked _). LookedCourse index entry x c) (sym same) is

-- what looking for the bundle gave decides as the table does
looked_places : {A : Type 0} (Unseen : Type 0) (Gives : Resource → Answer → Type 0) (Looks : ℕ → ℕ → ℕ → Answer → Type 0) (index size : ℕ) (entry : List ℕ) (found : Looked A) (c : Course)
    → GivesWhatLooksFind Gives Looks → index < size → IsLooked (Looks (index / 256) (bundle_width size (index / 256))) found → LookedCourse index entry found c
    → PlaceAnswers Unseen Gives Looks index size entry c
looked_places Unseen Gives Looks index size entry looked.Failed c gives less looks is = inr (less, inr (looks.0, bare 500, looks.1, inl (refl, is)))
looked_places Unseen Gives Looks index size entry looked.Nothing c gives less looks is = inr (less, inr (looks.0, bare 404, looks.1, inr (inl refl, is)))
looked_places Unseen Gives Looks index size entry (looked.Bytes bytes seen) c gives less looks (inl (has, is)) =
    inr (
      less,
      inl (
        record {
          width = seen;
          entries = has.entries;
          are = has.are;
          gave = subst (λ (l : List ℕ). Gives (resource.Entries (index / 256) seen) (bundle_answer l)) has.spelled
              (gives (index / 256) (bundle_width size (index / 256)) seen (bundle_answer (vec_items bytes)) looks);
          there = has.there;
        },
        is,
      ),
    )
looked_places Unseen Gives Looks index size entry (looked.Bytes bytes seen) c gives less looks (inr (lacks, is)) =
    inr (less, inr (seen, bundle_answer (vec_items bytes), looks, inr (inr (vec_items bytes, refl, lacks), is)))

-- what looking for the bundle on the board gave decides as the table does
pub looked_on_board : {A : Type 0} (Unseen : Type 0) (Gives : Resource → Answer → Type 0) (index size width : ℕ) (entry : List ℕ) (found : Looked A) (c : Course)
    → width ≡ bundle_width size (index / 256) → index < size → IsLooked (LooksOnce Gives (index / 256) width) found → LookedCourse index entry found c
    → PlaceAnswers Unseen Gives (LooksOnce Gives) index size entry c
looked_on_board Unseen Gives index size width entry found c same less looks is =
    looked_places Unseen Gives (LooksOnce Gives) index size entry found c (once_gives Gives) less (subst (λ (w : ℕ). IsLooked (LooksOnce Gives (index / 256) w) found) same looks) is

-- what looking for the bundle on a shelf gave decides as the table does
pub looked_on_shelf : {A : Type 0} (Unseen : Type 0) (Gives : Resource → Answer → Type 0) (index size width : ℕ) (entry : List ℕ) (found : Looked A) (c : Course)
    → width ≡ bundle_width size (index / 256) → index < size → IsLooked (LooksTwice Gives (index / 256) width) found → LookedCourse index entry found c
    → PlaceAnswers Unseen Gives (LooksTwice Gives) index size entry c
looked_on_shelf Unseen Gives index size width entry found c same less looks is =
    looked_places Unseen Gives (LooksTwice Gives) index size entry found c (twice_gives Gives) less (subst (λ (w : ℕ). IsLooked (LooksTwice Gives (index / 256) w) found) same looks) is
