-- What the removal of partial tiles and bundles leaves of the files of resources.
use Rattle.std.proofs.Common.{◌≡◌, ◌≢◌, ℕ, ◌+◌, ◌^◌, ◌<◌, ◌≤◌, true, false, inl, inr, ◌⊎◌, List, [], ◌∷◌, ◌++◌, length, take, drop, get_or, None, refl, sym, ap, subst, ◌∙◌, arith, append_assoc}
use Rattle.std.specs.Prelude.{Bool, Option, ◌||◌, ◌==◌, codes, decimal, if◌then◌else◌}
use Rattle.std.specs.Str.{bytes_eq}
use Rattle.std.proofs.lemmas.Bool.{cases_lt}
use Rattle.std.proofs.lemmas.List.{append-nil, append_cancel_left, length-append, take-append-drop}
use Rattle.std.proofs.lemmas.Slice.Eq.{bytes_eq-Decides}
use Rattle.std.proofs.Math.Seq.{take-append_seam}
use Rattle.tl_tile.specs.declared.resource.Resource.{Resource}
use Rattle.tl_tile.specs.declared.resource.Resource.TheVariants as resource
use Rattle.tl_tile.specs.Path.{IsResource, path_text, index_text, width_text, piece_text}
use Rattle.tl_tile.specs.Inner.ReadPath.{leading_number, with_digit}
use Rattle.tl_tile.proofs.PathLemmas.{full_width, part_width, number_place}
use Rattle.tl_archive.specs.Partials.{IsFull, IsPartialOf}
use Rattle.tl_archive.specs.Shelves.{Held}
use Rattle.tl_archive.proofs.Lists.{none_has, cons_cases}
use Rattle.tl_folder.specs.Step.{Path, Bytes, Step}
use Rattle.tl_folder.specs.Step as step
use Rattle.tl_folder.specs.FileCalls.{Call}
use Rattle.tl_folder.specs.Posix.{File, At, Disk, MayStay, MayBe, is_within, maybe_gone, moved_in, after, after_failed, Becomes}
use Rattle.tl_folder.specs.Places.{place_of, partials_path, removed_path}
use Rattle.tl_folder.specs.Removing.{HasMoved, removing, AreFirst}
use Rattle.tl_folder.specs.Folders.{is_partial_of, without}
use Rattle.tl_folder.specs.OnDisk.{Reflects, ReflectsSome}
use Rattle.tl_folder.proofs.Above.{or_true}
use Rattle.tl_folder.proofs.Disks.{LeavesOldOr, chain, away_other, away_failed_other, remove_other, becomes_parts}
use Rattle.tl_folder.proofs.Ends.{false_of}
use Rattle.tl_folder.proofs.Marks.{Leaves, AllLeave}
use Rattle.tl_folder.proofs.Partials.{partial_is, is_partial, is_gone}
use Rattle.tl_folder.proofs.Puts.{no}
use Rattle.tl_folder.proofs.Settles.{first_or}

-- ---- what is in a folder

within_front : (folder path : Path) → is_within folder path ≡ true → (rest : Path) × (path ≡ folder ++ rest)
within_front folder path is =
    elim (first_or (bytes_eq path folder) (bytes_eq (take (length folder + 1) path) (folder ++ 47 ∷ [])) is) as (λ _. (rest : Path) × (path ≡ folder ++ rest)) [
      | inl same ↦ ([], (bytes_eq-Decides path folder).0 same ∙ sym (append-nil folder))
      | inr below ↦
          let front : take (length folder + 1) path ≡ folder ++ 47 ∷ [] = (bytes_eq-Decides (take (length folder + 1) path) (folder ++ 47 ∷ [])).0 below in
          let rest : Path = drop (length folder + 1) path in
          (47 ∷ rest, sym (take-append-drop (length folder + 1) path) ∙ ap (λ (x : Path). x ++ rest) front ∙ append_assoc folder (47 ∷ []) rest)
    ]

not_within : (folder path : Path) → ((rest : Path) → path ≢ folder ++ rest) → is_within folder path ≡ false
not_within folder path apart = false_of (is_within folder path) (λ is. let it = within_front folder path is in apart it.0 it.1)

below_within : (folder rest : Path) → is_within folder (folder ++ 47 ∷ rest) ≡ true
below_within folder rest =
    let path : Path = folder ++ 47 ∷ rest in
    let front : Path = folder ++ 47 ∷ [] in
    let begins : take (length folder + 1) path ≡ front =
    ap (λ (x : Path). take (length folder + 1) x) (sym (append_assoc folder (47 ∷ []) rest))
    ∙ ap (λ (n : ℕ). take n (front ++ rest)) (sym (length-append folder (47 ∷ []))) ∙ take-append_seam front rest in
    ap (λ (b : Bool). bytes_eq path folder || b) ((bytes_eq-Decides (take (length folder + 1) path) front).1 begins) ∙ or_true (bytes_eq path folder)

-- ---- no resource is in the folder to which partial ones are moved

-- the path of a resource begins with another letter
no_removed : (r : Resource) (rest : Path) → path_text r ≢ codes "removed" ++ rest
no_removed (resource.Tile t) rest same = let it : 116 ≡ 114 = ap (λ (x : Path). get_or x 0 0) same in absurd (omega (arith, it))
no_removed (resource.Entries index width) rest same = let it : 116 ≡ 114 = ap (λ (x : Path). get_or x 0 0) same in absurd (omega (arith, it))
no_removed resource.Checkpoint rest same = let it : 99 ≡ 114 = ap (λ (x : Path). get_or x 0 0) same in absurd (omega (arith, it))

pub never_removed : (root : Path) (r : Resource) → is_within (removed_path root) (place_of root r) ≡ false
never_removed root r =
    not_within (removed_path root) (place_of root r)
    (λ rest same. no_removed r rest (append_cancel_left (root ++ 47 ∷ []) (path_text r) (codes "removed" ++ rest) (same ∙ append_assoc (root ++ 47 ∷ []) (codes "removed") rest)))

-- ---- what is in the folder of partial ones

-- what follows a dot is no part of a number
same_number : (n : ℕ) (text a b : Path) → leading_number n (text ++ 46 ∷ a) ≡ leading_number n (text ++ 46 ∷ b)
same_number n [] a b = refl
same_number n (c ∷ text) a b = ap (λ (x : ℕ). if c == 46 then n else x) (same_number (with_digit n c) text a b)

number_dotted : (index : ℕ) (rest : Path) → index < 2 ^ 56 → leading_number 0 (index_text index ++ 46 ∷ rest) ≡ index
number_dotted index rest small =
    same_number 0 (index_text index) rest (codes "p/" ++ decimal 1)
    ∙ ap (λ (x : Path). leading_number 0 (index_text index ++ x)) (sym (part_width 1 (omega arith))) ∙ number_place index 1 small

piece_front : (i j v w : ℕ) (rest : Path) → i < 2 ^ 56 → j < 2 ^ 56 → v ≤ 256 → w ≡ 256 → piece_text i v ≡ piece_text j w ++ 46 ∷ rest → (i ≡ j) × (v < 256)
piece_front i j v w rest small_i small_j narrow full e =
    let joined : piece_text i v ≡ index_text j ++ 46 ∷ rest =
    e ∙ append_assoc (index_text j) (width_text w) (46 ∷ rest) ∙ ap (λ (x : Path). index_text j ++ (x ++ 46 ∷ rest)) (full_width w full) in
    let index : i ≡ j = sym (number_place i v small_i) ∙ ap (leading_number 0) joined ∙ number_dotted j rest small_j in
    let width : width_text v ≡ 46 ∷ rest = append_cancel_left (index_text j) (width_text v) (46 ∷ rest) (ap (λ (k : ℕ). piece_text k v) (sym index) ∙ joined) in (
      index,
      elim (cases_lt v 256) as (λ _. v < 256) [
        | inl few ↦ few
        | inr more ↦ absurd (omega (arith, ap length (sym (full_width v (omega (arith, more, narrow))) ∙ width)))
      ],
    )

text_front : (full s : Resource) (rest : Path) → IsFull full → IsResource s → path_text s ≡ path_text full ++ 46 ∷ rest → IsPartialOf full s
text_front (resource.Tile f) (resource.Tile t) rest full is e =
    let level : 48 + t.level ≡ 48 + f.level = ap (λ (x : Path). get_or x 5 0) e in
    let piece = piece_front t.index f.index t.width f.width rest is.index full.0.index is.narrow full.1 (ap (drop 7) e) in
    (omega (arith, level), piece.0, piece.1)
text_front (resource.Tile f) (resource.Entries index width) rest full is e = let it : 101 ≡ 48 + f.level = ap (λ (x : Path). get_or x 5 0) e in absurd (omega (arith, it, full.0.level))
text_front (resource.Tile f) resource.Checkpoint rest full is e = let it : 99 ≡ 116 = ap (λ (x : Path). get_or x 0 0) e in absurd (omega (arith, it))
text_front (resource.Entries own width) (resource.Tile t) rest full is e = let it : 48 + t.level ≡ 101 = ap (λ (x : Path). get_or x 5 0) e in absurd (omega (arith, it, is.level))
text_front (resource.Entries own wide) (resource.Entries index width) rest full is e = piece_front index own width wide rest is.0 full.0 is.2 full.1 (ap (drop 13) e)
text_front (resource.Entries own width) resource.Checkpoint rest full is e = let it : 99 ≡ 116 = ap (λ (x : Path). get_or x 0 0) e in absurd (omega (arith, it))
text_front resource.Checkpoint s rest full is e = absurd full

-- a resource whose file is in the folder of the partial ones is one of them
others_elsewhere : (root : Path) (full s : Resource) → IsFull full → IsResource s → (IsPartialOf full s → ⊥) → is_within (partials_path root full) (place_of root s) ≡ false
others_elsewhere root full s is_full is other =
    not_within (partials_path root full) (place_of root s)
    (λ rest same. other (text_front full s (112 ∷ rest) is_full is (append_cancel_left (root ++ 47 ∷ []) (path_text s) (path_text full ++ 46 ∷ 112 ∷ rest)
    (same ∙ append_assoc (place_of root full) (codes ".p") rest ∙ append_assoc (root ++ 47 ∷ []) (path_text full) (46 ∷ 112 ∷ rest)))))

piece_below : (i j v w : ℕ) → i ≡ j → w ≡ 256 → v < 256 → piece_text i v ≡ piece_text j w ++ (codes ".p" ++ 47 ∷ decimal v)
piece_below i j v w index full few =
    let below : Path = codes ".p" ++ 47 ∷ decimal v in
    ap (λ (k : ℕ). piece_text k v) index ∙ ap (λ (x : Path). index_text j ++ x) (part_width v few)
    ∙ ap (λ (x : Path). index_text j ++ (x ++ below)) (sym (full_width w full)) ∙ sym (append_assoc (index_text j) (width_text w) below)

text_below : (full s : Resource) → IsFull full → IsPartialOf full s → (rest : Path) × (path_text s ≡ path_text full ++ (codes ".p" ++ 47 ∷ rest))
text_below (resource.Tile f) (resource.Tile t) full part = (
  decimal t.width,
  ap (λ (l : ℕ). codes "tile/" ++ (48 + l) ∷ 47 ∷ piece_text t.index t.width) part.0
      ∙ ap (λ (x : Path). codes "tile/" ++ (48 + f.level) ∷ 47 ∷ x) (piece_below t.index f.index t.width f.width part.1 full.1 part.2),
)
text_below (resource.Tile f) (resource.Entries index width) full part = absurd part
text_below (resource.Tile f) resource.Checkpoint full part = absurd part
text_below (resource.Entries own wide) (resource.Tile t) full part = absurd part
text_below (resource.Entries own wide) (resource.Entries index width) full part =
    (decimal width, ap (λ (x : Path). codes "tile/entries/" ++ x) (piece_below index own width wide part.0 full.1 part.1))
text_below (resource.Entries own wide) resource.Checkpoint full part = absurd part
text_below resource.Checkpoint s full part = absurd part

-- each partial one is in their folder
part_within : (root : Path) (full s : Resource) → IsFull full → IsPartialOf full s → is_within (partials_path root full) (place_of root s) ≡ true
part_within root full s is_full part =
    let text = text_below full s is_full part in
    let below : Path = 47 ∷ text.0 in
    let at : place_of root s ≡ partials_path root full ++ below =
    ap (λ (x : Path). root ++ 47 ∷ [] ++ x) text.1 ∙ sym (append_assoc (root ++ 47 ∷ []) (path_text full) (codes ".p" ++ below)) ∙ sym (append_assoc (place_of root full) (codes ".p") below) in
    ap (λ (x : Path). is_within (partials_path root full) x) at ∙ below_within (partials_path root full) text.0

-- ---- what is in neither folder stays

remove_leaves : (folder q : Path) → is_within folder q ≡ false → Leaves (step.RemoveFolder folder) q
remove_leaves folder q apart rest disk = (remove_other folder q disk apart, remove_other folder q disk apart)

away_leaves : (from to q : Path) → is_within from q ≡ false → is_within to q ≡ false → Leaves (step.MoveAway from to) q
away_leaves from to q not_from not_to rest disk = (away_other from to q disk not_from not_to, away_failed_other from to q rest disk not_from not_to)

first_leave : (steps : List Step) (calls : List Call) (disk now : Disk) (q : Path) → AllLeave steps q → AreFirst steps calls → Becomes disk calls now → now q ≡ disk q
first_leave steps [] disk now q leave are becomes = ap (λ (x : Disk). x q) becomes
first_leave [] (call ∷ more) disk now q leave are becomes = absurd are
first_leave (s ∷ steps) ((asked, true) ∷ more) disk now q leave are becomes =
    first_leave steps more (after asked disk) now q leave.1 are.1 becomes ∙ subst (λ (x : Step). after x disk q ≡ disk q) (sym are.0) (leave.0 [] disk).0
first_leave (s ∷ steps) ((asked, false) ∷ more) disk now q leave are (inl not_done) = first_leave steps more disk now q leave.1 are.1 not_done
first_leave (s ∷ steps) ((asked, false) ∷ more) disk now q leave are (inr (rest, in_part)) =
    first_leave steps more (after_failed asked rest disk) now q leave.1 are.1 in_part ∙ subst (λ (x : Step). after_failed x rest disk q ≡ disk q) (sym are.0) (leave.0 rest disk).1

pub removal_spares : (disk now : Disk) (root : Path) (full s : Resource) (calls : List Call) → IsFull full → IsResource s → (IsPartialOf full s → ⊥)
    → AreFirst (removing (partials_path root full) (removed_path root)) calls → Becomes disk calls now → now (place_of root s) ≡ disk (place_of root s)
removal_spares disk now root full s calls is_full is other are becomes =
    let q : Path = place_of root s in
    let left : Leaves (step.RemoveFolder (removed_path root)) q = remove_leaves (removed_path root) q (never_removed root s) in
    first_leave (removing (partials_path root full) (removed_path root)) calls disk now q
    (left, (away_leaves (partials_path root full) (removed_path root) q (others_elsewhere root full s is_full is other) (never_removed root s), (left, tt))) are becomes

-- ---- what is in the folder of partial ones is gone

second_of : {A : Type 0} (b c : Bool) (x y z : A) → b ≡ false → c ≡ true → (if b then x else (if c then y else z)) ≡ y
second_of b c x y z first second = ap (λ (v : Bool). if v then x else (if c then y else z)) first ∙ ap (λ (v : Bool). if v then y else z) second

-- nothing is there, and a crash brings nothing back
abbrev gone : At
gone = record { there = None; older = [] }

away_own : (from to q : Path) (disk : Disk) → is_within from q ≡ true → is_within to q ≡ false → after (step.MoveAway from to) disk q ≡ gone
away_own from to q disk in_from not_to = second_of (is_within to q) (is_within from q) moved_in gone (disk q) not_to in_from

away_failed_own : (from to q : Path) (rest : Bytes) (disk : Disk) → is_within from q ≡ true → is_within to q ≡ false → after_failed (step.MoveAway from to) rest disk q ≡ maybe_gone (disk q)
away_failed_own from to q rest disk in_from not_to = second_of (is_within to q) (is_within from q) moved_in (maybe_gone (disk q)) (disk q) not_to in_from

gone_leaves : (left : Option Bytes) → MayBe gone left → left ≡ None
gone_leaves left (inl stays) = stays
gone_leaves left (inr (file, has, stays)) = absurd (none_has file has)

pub removed_stays_away : (disk now : Disk) (root : Path) (full s : Resource) (before more : List Call) (left : Option Bytes) → IsFull full → IsPartialOf full s
    → AreFirst (step.RemoveFolder (removed_path root) ∷ []) more
    → Becomes disk (before ++ (step.MoveAway (partials_path root full) (removed_path root), true) ∷ more) now → MayBe (now (place_of root s)) left → left ≡ None
removed_stays_away disk now root full s before more left is_full part are becomes may =
    let q : Path = place_of root s in
    let from : Path = partials_path root full in
    let to : Path = removed_path root in
    let it = becomes_parts before ((step.MoveAway from to, true) ∷ more) disk now becomes in
    let at : now q ≡ gone =
    first_leave (step.RemoveFolder to ∷ []) more (after (step.MoveAway from to) it.0) now q (remove_leaves to q (never_removed root s), tt) are it.2
    ∙ away_own from to q it.0 (part_within root full s is_full part) (never_removed root s) in
    gone_leaves left (subst (λ (x : At). MayBe x left) at may)

-- ---- at each moment

-- nothing is left
abbrev Nothing : Option Bytes → Type 0
Nothing left = left ≡ None

-- whatever the outcome of the step, a crash leaves at the path what it might have left before, or nothing
abbrev Takes : Step → Path → Type 0
Takes s q = (rest : Bytes) (disk : Disk) → LeavesOldOr Nothing (disk q) (after s disk q) × LeavesOldOr Nothing (disk q) (after_failed s rest disk q)

abbrev AllTake : List Step → Path → Type 0
AllTake [] q = Unit {0}
AllTake (s ∷ more) q = Takes s q × AllTake more q

first_take : (steps : List Step) (calls : List Call) (disk now : Disk) (q : Path) → AllTake steps q → AreFirst steps calls → Becomes disk calls now → LeavesOldOr Nothing (disk q) (now q)
first_take steps [] disk now q take are becomes = λ left may. inl (subst (λ (x : Disk). MayBe (x q) left) becomes may)
first_take [] (call ∷ more) disk now q take are becomes = absurd are
first_take (s ∷ steps) ((asked, true) ∷ more) disk now q take are becomes =
    chain Nothing (disk q) (after asked disk q) (now q) (subst (λ (x : Step). LeavesOldOr Nothing (disk q) (after x disk q)) (sym are.0) (take.0 [] disk).0)
    (first_take steps more (after asked disk) now q take.1 are.1 becomes)
first_take (s ∷ steps) ((asked, false) ∷ more) disk now q take are (inl not_done) = first_take steps more disk now q take.1 are.1 not_done
first_take (s ∷ steps) ((asked, false) ∷ more) disk now q take are (inr (rest, in_part)) =
    chain Nothing (disk q) (after_failed asked rest disk q) (now q) (subst (λ (x : Step). LeavesOldOr Nothing (disk q) (after_failed x rest disk q)) (sym are.0) (take.0 rest disk).1)
    (first_take steps more (after_failed asked rest disk) now q take.1 are.1 in_part)

leaves_take : (s : Step) (q : Path) → Leaves s q → Takes s q
leaves_take s q leaves rest disk =
    ((λ left may. inl (subst (λ (x : At). MayBe x left) (leaves rest disk).0 may)), (λ left may. inl (subst (λ (x : At). MayBe x left) (leaves rest disk).1 may)))

maybe_gone_takes : (at : At) → LeavesOldOr Nothing at (maybe_gone at)
maybe_gone_takes at left (inl stays) = inr stays
maybe_gone_takes at left (inr (file, has, stays)) =
    elim (cons_cases at.there at.older file has) as (λ _. MayBe at left ⊎ Nothing left) [
      | inl first ↦ inl (inl (subst (λ (x : Option File). MayStay x left) (sym first) stays))
      | inr later ↦ inl (inr (file, later, stays))
    ]

away_takes : (from to q : Path) → is_within from q ≡ true → is_within to q ≡ false → Takes (step.MoveAway from to) q
away_takes from to q in_from not_to rest disk = (
  (λ left may. inr (gone_leaves left (subst (λ (x : At). MayBe x left) (away_own from to q disk in_from not_to) may))),
  subst (λ (x : At). LeavesOldOr Nothing (disk q) x) (sym (away_failed_own from to q rest disk in_from not_to)) (maybe_gone_takes (disk q)),
)

pub removal_is_gentle : (disk now : Disk) (root : Path) (full s : Resource) (calls : List Call) (left : Option Bytes) → IsFull full → IsPartialOf full s
    → AreFirst (removing (partials_path root full) (removed_path root)) calls → Becomes disk calls now → MayBe (now (place_of root s)) left
    → MayBe (disk (place_of root s)) left ⊎ (left ≡ None)
removal_is_gentle disk now root full s calls left is_full part are becomes may =
    let q : Path = place_of root s in
    let clears : Takes (step.RemoveFolder (removed_path root)) q =
    leaves_take (step.RemoveFolder (removed_path root)) q (remove_leaves (removed_path root) q (never_removed root s)) in
    first_take (removing (partials_path root full) (removed_path root)) calls disk now q
    (clears, (away_takes (partials_path root full) (removed_path root) q (part_within root full s is_full part) (never_removed root s), (clears, tt))) are becomes left may

-- ---- what is held

pub removed_reflects : (root : Path) (held : Held) (full : Resource) (calls : List Call) (disk now : Disk) → IsFull full → Reflects root held disk
    → HasMoved (partials_path root full) (removed_path root) [] calls → Becomes disk calls now → Reflects root (without (is_partial_of full) held) now
removed_reflects root held full calls disk now is_full reflects (first, last, are) becomes r left is may = go (is_partial_of full r) refl (subst (λ (x : List Call). Becomes disk x now) are becomes)
  where
    clear : Bool → Call
    clear b = (step.RemoveFolder (removed_path root), b)

    made : List Call
    made = clear first ∷ (step.MoveAway (partials_path root full) (removed_path root), true) ∷ clear last ∷ []

    go : (b : Bool) → is_partial_of full r ≡ b → Becomes disk made now → left ≡ without (is_partial_of full) held r
    go true part done =
        removed_stays_away disk now root full r (clear first ∷ []) (clear last ∷ []) left is_full (partial_is full r part) (refl, tt) done may ∙ sym (is_gone (is_partial_of full) held r part)
    go false other done =
        reflects r left is (subst (λ (x : At). MayBe x left) (removal_spares disk now root full r made is_full is (λ part. no (sym other ∙ is_partial full r part)) (refl, (refl, (refl, tt))) done) may)
        ∙ sym (ap (λ (b : Bool). if b then None else held r) other)

pub removing_reflects : (root : Path) (held : Held) (full : Resource) (calls : List Call) (disk now : Disk) → IsFull full → Reflects root held disk
    → AreFirst (removing (partials_path root full) (removed_path root)) calls → Becomes disk calls now → ReflectsSome root full held now
removing_reflects root held full calls disk now is_full reflects are becomes r left is may = go (is_partial_of full r) refl
  where
    go : (b : Bool) → is_partial_of full r ≡ b → (left ≡ held r) ⊎ (IsPartialOf full r × (left ≡ None))
    go true e =
        let part : IsPartialOf full r = partial_is full r e in
        elim (removal_is_gentle disk now root full r calls left is_full part are becomes may) as (λ _. (left ≡ held r) ⊎ (IsPartialOf full r × (left ≡ None))) [
          | inl old ↦ inl (reflects r left is old)
          | inr none ↦ inr (part, none)
        ]
    go false other =
        inl (reflects r left is (subst (λ (x : At). MayBe x left) (removal_spares disk now root full r calls is_full is (λ part. no (sym other ∙ is_partial full r part)) are becomes) may))
