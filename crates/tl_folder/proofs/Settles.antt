-- What a settling leaves at each path.
use Rattle.std.proofs.Common.{◌≡◌, ◌≢◌, true, false, inl, inr, ◌⊎◌, List, [], ◌∷◌, ◌++◌, map, Some, None, refl, sym, ap, subst, ◌∙◌}
use Rattle.std.specs.Prelude.{Bool, Option, option_map, Contains, ◌||◌, if◌then◌else◌}
use Rattle.std.specs.Str.{bytes_eq}
use Rattle.std.specs.Path.{path_parent}
use Rattle.std.proofs.lemmas.Slice.Eq.{bytes_eq-Decides}
use Rattle.tl_archive.proofs.Lists.{none_has, cons_cases}
use Rattle.tl_folder.specs.Step.{Path, Bytes, Step}
use Rattle.tl_folder.specs.Step as step
use Rattle.tl_folder.specs.FileCalls.{Call, done, Begins}
use Rattle.tl_folder.specs.Posix.{File, Whole, Torn, At, Disk, MayStay, MayBe, is_in, spelled, folder_of, synced, changed, bytes_of, after, Becomes, MayLeave}
use Rattle.tl_folder.specs.Settling.{Move, syncing, placing, naming, settling, has_path, nearest, AreCovered}
use Rattle.tl_folder.specs.Laws.{HasBytes, IsAtRest, AreTwo, IsApart, AreApart, IsElsewhere}
use Rattle.tl_folder.proofs.Disks.{pick, put_is, put_own, rename_there, rename_other, run, IsFine, at_each_moment, all_done, run_append, fine_append}

-- ---- syncs

-- the file there has all its bytes on the disk
abbrev pub IsWhole : Bytes → At → Type 0
IsWhole bytes at = at.there ≡ Some (Whole bytes)

whole_now : (file : File) (bytes : Bytes) → bytes_of file ≡ bytes → synced file ≡ Whole bytes
whole_now (Whole b) bytes is = ap (λ (x : Bytes). Whole x) is
whole_now (Torn front behind) bytes is = ap (λ (x : Bytes). Whole x) is

same_now : (file : File) → bytes_of (synced file) ≡ bytes_of file
same_now (Whole b) = refl
same_now (Torn front behind) = refl

sync_whole : (there : Option File) (bytes : Bytes) → option_map bytes_of there ≡ Some bytes → option_map synced there ≡ Some (Whole bytes)
sync_whole None bytes is = absurd (cc)
sync_whole (Some file) bytes is = ap (λ (x : File). Some x) (whole_now file bytes cc)

sync_same : (there : Option File) (bytes : Bytes) → option_map bytes_of there ≡ Some bytes → option_map bytes_of (option_map synced there) ≡ Some bytes
sync_same None bytes is = is
sync_same (Some file) bytes is = ap (λ (x : Bytes). Some x) (same_now file) ∙ is

has_synced : (p q : Path) (disk : Disk) (bytes : Bytes) → HasBytes (disk q) bytes → HasBytes (after (step.Sync p) disk q) bytes
has_synced p q disk bytes has =
    put_is (λ x. HasBytes x bytes) p q (changed synced (disk p)) disk
    (λ e. sync_same (disk p).there bytes (subst (λ (x : Path). HasBytes (disk x) bytes) e has)) has

whole_synced : (p q : Path) (disk : Disk) (bytes : Bytes) → IsWhole bytes (disk q) → IsWhole bytes (after (step.Sync p) disk q)
whole_synced p q disk bytes is =
    put_is (λ x. IsWhole bytes x) p q (changed synced (disk p)) disk
    (λ e. sync_whole (disk p).there bytes (subst (λ (x : Path). HasBytes (disk x) bytes) e (ap (λ (x : Option File). option_map bytes_of x) is))) is

pub own_synced : (p : Path) (disk : Disk) (bytes : Bytes) → HasBytes (disk p) bytes → IsWhole bytes (after (step.Sync p) disk p)
own_synced p disk bytes has = ap (λ (x : At). x.there) (put_own p (changed synced (disk p)) disk) ∙ sync_whole (disk p).there bytes has

all_whole : (moves : List Move) (q : Path) (disk : Disk) (bytes : Bytes) → IsWhole bytes (disk q) → IsWhole bytes (run (map syncing moves) disk q)
all_whole [] q disk bytes is = is
all_whole (m ∷ more) q disk bytes is = all_whole more q (after (syncing m) disk) bytes (whole_synced m.0 q disk bytes is)

pub after_syncs : (moves : List Move) (m : Move) (disk : Disk) (bytes : Bytes) → Contains moves m → HasBytes (disk m.0) bytes → IsWhole bytes (run (map syncing moves) disk m.0)
after_syncs [] m disk bytes has now = absurd (none_has m has)
after_syncs (first ∷ more) m disk bytes has now =
    elim (cons_cases first more m has) as (λ _. IsWhole bytes (run (map syncing (first ∷ more)) disk m.0)) [
      | inl same ↦ all_whole more m.0 (after (syncing first) disk) bytes (subst (λ (x : Move). IsWhole bytes (after (step.Sync x.0) disk m.0)) (sym same) (own_synced m.0 disk bytes now))
      | inr later ↦ after_syncs more m (after (syncing first) disk) bytes later (has_synced first.0 m.0 disk bytes now)
    ]

syncs_fine : (New : Option Bytes → Type 0) (moves : List Move) (disk : Disk) (q : Path) → IsFine New disk (map syncing moves) q
syncs_fine New [] disk q = tt
syncs_fine New (m ∷ more) disk q = (inl tt, syncs_fine New more (after (syncing m) disk) q)

-- syncs don't change what else a crash may leave at a path
syncs_there : (moves : List Move) (disk : Disk) (q : Path) (older : List (Option File)) → (disk q).older ≡ older → (run (map syncing moves) disk q).older ≡ older
syncs_there [] disk q older is = is
syncs_there (m ∷ more) disk q older is =
    syncs_there more (after (syncing m) disk) q older
    (put_is (λ x. x.older ≡ older) m.0 q (changed synced (disk m.0)) disk (λ e. ap (λ (x : Path). (disk x).older) (sym e) ∙ is) is)

-- ---- renames

is_apart : (m : Move) (moves : List Move) (other : Move) → IsApart m moves → Contains moves other → AreTwo m other
is_apart m [] other apart has = absurd (none_has other has)
is_apart m (first ∷ more) other apart has =
    elim (cons_cases first more other has) as (λ _. AreTwo m other) [
      | inl same ↦ subst (λ (x : Move). AreTwo m x) same apart.0
      | inr later ↦ is_apart m more other apart.1 later
    ]

others_fine : (New : Option Bytes → Type 0) (m : Move) (moves : List Move) (disk : Disk) → IsApart m moves → IsFine New disk (map placing moves) m.1
others_fine New m [] disk apart = tt
others_fine New m (other ∷ more) disk apart = (inl (apart.0.second, apart.0.places), others_fine New m more (after (placing other) disk) apart.1)

others_stay : (m : Move) (moves : List Move) (disk : Disk) → IsApart m moves → run (map placing moves) disk m.1 ≡ disk m.1
others_stay m [] disk apart = refl
others_stay m (other ∷ more) disk apart = others_stay m more (after (placing other) disk) apart.1 ∙ rename_other other.0 other.1 m.1 disk apart.0.second apart.0.places

back : {A : Type 0} (a b : A) → a ≢ b → b ≢ a
back a b apart e = apart (sym e)

beside_stays : (m other : Move) (disk : Disk) → AreTwo other m → after (placing other) disk m.0 ≡ disk m.0
beside_stays m other disk two = rename_other other.0 other.1 m.0 disk (back _ _ two.besides) (back _ _ two.second)

pub renames_fine : (New : Option Bytes → Type 0) (moves : List Move) (m : Move) (disk : Disk) (bytes : Bytes) → AreApart moves → Contains moves m → IsWhole bytes (disk m.0) → New (Some bytes)
    → IsFine New disk (map placing moves) m.1
renames_fine New [] m disk bytes apart has whole new = absurd (none_has m has)
renames_fine New (first ∷ more) m disk bytes apart has whole new =
    elim (cons_cases first more m has) as (λ _. IsFine New disk (map placing (first ∷ more)) m.1) [
      | inl same ↦ (
        inr (m.0, bytes, ap (λ (x : Move). placing x) same, whole, new),
        others_fine New m more (after (placing first) disk) (subst (λ (x : Move). IsApart x more) same apart.1),
      )
      | inr later ↦
          let two : AreTwo first m = is_apart first more m apart.1 later in (
            inl (back _ _ two.first, back _ _ two.places),
            renames_fine New more m (after (placing first) disk) bytes apart.2 later (ap (λ (x : At). x.there) (beside_stays m first disk two) ∙ whole) new,
          )
    ]

pub after_renames : (moves : List Move) (m : Move) (disk : Disk) (bytes : Bytes) → AreApart moves → Contains moves m → IsWhole bytes (disk m.0) → IsWhole bytes (run (map placing moves) disk m.1)
after_renames [] m disk bytes apart has whole = absurd (none_has m has)
after_renames (first ∷ more) m disk bytes apart has whole =
    elim (cons_cases first more m has) as (λ _. IsWhole bytes (run (map placing (first ∷ more)) disk m.1)) [
      | inl same ↦
          ap (λ (x : At). x.there) (others_stay m more (after (placing first) disk) (subst (λ (x : Move). IsApart x more) same apart.1))
          ∙ subst (λ (x : Move). IsWhole bytes (after (placing x) disk m.1)) (sym same) (ap (λ (x : At). x.there) (rename_there m.0 m.1 disk) ∙ whole)
      | inr later ↦
          let two : AreTwo first m = is_apart first more m apart.1 later in
          after_renames more m (after (placing first) disk) bytes apart.2 later (ap (λ (x : At). x.there) (beside_stays m first disk two) ∙ whole)
    ]

elsewhere_fine : (New : Option Bytes → Type 0) (moves : List Move) (disk : Disk) (q : Path) → IsElsewhere q moves → IsFine New disk (map placing moves) q
elsewhere_fine New [] disk q apart = tt
elsewhere_fine New (m ∷ more) disk q apart = (inl (apart.0, apart.1), elsewhere_fine New more (after (placing m) disk) q apart.2)

-- ---- folders

pub names_fine : (New : Option Bytes → Type 0) (folders : List Path) (disk : Disk) (q : Path) → IsFine New disk (map naming folders) q
names_fine New [] disk q = tt
names_fine New (folder ∷ more) disk q = (inl tt, names_fine New more (after (naming folder) disk) q)

pub named_there : (folder : Path) (disk : Disk) (q : Path) → (after (naming folder) disk q).there ≡ (disk q).there
named_there folder disk q = pick (λ (x : At). x.there ≡ (disk q).there) (is_in folder (folder_of q)) (record { there = (disk q).there; older = [] }) (disk q) (λ _. refl) refl

pub named_none : (folder : Path) (disk : Disk) (q : Path) → (disk q).older ≡ [] → (after (naming folder) disk q).older ≡ []
named_none folder disk q none = pick (λ (x : At). x.older ≡ []) (is_in folder (folder_of q)) (record { there = (disk q).there; older = [] }) (disk q) (λ _. refl) none

is_there : (folder : Path) (own : Option Path) → own ≡ Some folder → is_in folder own ≡ true
is_there folder own is = ap (λ (x : Option Path). is_in folder x) is ∙ (bytes_eq-Decides folder folder).1 refl

pub named_own : (folder : Path) (disk : Disk) (q : Path) → folder_of q ≡ Some folder → (after (naming folder) disk q).older ≡ []
named_own folder disk q within = ap (λ (b : Bool). (if b then record { there = (disk q).there; older = [] } else disk q).older) (is_there folder (folder_of q) within)

names_there : (folders : List Path) (disk : Disk) (q : Path) → (run (map naming folders) disk q).there ≡ (disk q).there
names_there [] disk q = refl
names_there (folder ∷ more) disk q = names_there more (after (naming folder) disk) q ∙ named_there folder disk q

names_none : (folders : List Path) (disk : Disk) (q : Path) → (disk q).older ≡ [] → (run (map naming folders) disk q).older ≡ []
names_none [] disk q none = none
names_none (folder ∷ more) disk q none = names_none more (after (naming folder) disk) q (named_none folder disk q none)

pub first_or : (b c : Bool) → (b || c) ≡ true → (b ≡ true) ⊎ (c ≡ true)
first_or true c is = inl refl
first_or false c is = inr is

pub after_names : (folders : List Path) (folder : Path) (disk : Disk) (q : Path) → has_path folders folder ≡ true → folder_of q ≡ Some folder → (run (map naming folders) disk q).older ≡ []
after_names [] folder disk q has within = absurd (cc)
after_names (first ∷ more) folder disk q has within =
    elim (first_or (bytes_eq first folder) (has_path more folder) has) as (λ _. (run (map naming (first ∷ more)) disk q).older ≡ []) [
      | inl same ↦ names_none more (after (naming first) disk) q (named_own first disk q (within ∙ ap (λ (x : Path). Some x) (sym ((bytes_eq-Decides first folder).0 same))))
      | inr later ↦ after_names more folder (after (naming first) disk) q later within
    ]

-- ---- the whole

run_settling : (moves : List Move) (folders : List Path) (disk : Disk)
    → run (settling moves folders) disk ≡ run (map naming folders) (run (map placing moves) (run (map syncing moves) disk))
run_settling moves folders disk =
    run_append (map syncing moves ++ map placing moves) (map naming folders) disk
    ∙ ap (λ (x : Disk). run (map naming folders) x) (run_append (map syncing moves) (map placing moves) disk)

settling_fine : (New : Option Bytes → Type 0) (moves : List Move) (folders : List Path) (disk : Disk) (q : Path)
    → IsFine New (run (map syncing moves) disk) (map placing moves) q → IsFine New disk (settling moves folders) q
settling_fine New moves folders disk q fine =
    fine_append New (map syncing moves ++ map placing moves) (map naming folders) disk q
    (fine_append New (map syncing moves) (map placing moves) disk q (syncs_fine New moves disk q) fine)
    (names_fine New folders (run (map syncing moves ++ map placing moves) disk) q)

pub rest_leaves : (at : At) (bytes : Bytes) → IsAtRest at bytes → (left : Option Bytes) → MayBe at left → left ≡ Some bytes
rest_leaves at bytes rest left (inl stays) =
    let it : MayStay (Some (Whole bytes)) left = subst (λ (x : Option File). MayStay x left) rest.0 stays in
    it.1 ∙ ap (λ (b : Bytes). Some b) it.2
rest_leaves at bytes rest left (inr (file, has, stays)) = absurd (none_has file (subst (λ (x : List (Option File)). Contains x file) rest.1 has))

pub settled_rests : (disk now : Disk) (moves : List Move) (root : Path) (folders : List Path) (m : Move) (folder : Path) (bytes : Bytes)
    → AreApart moves → AreCovered root folders moves → Contains moves m → path_parent m.1 ≡ Some folder → HasBytes (disk m.0) bytes
    → Becomes disk (done (settling moves folders)) now → IsAtRest (now m.1) bytes
settled_rests disk now moves root folders m folder bytes apart covered has above there becomes =
    let second : Disk = run (map placing moves) (run (map syncing moves) disk) in
    let is : now ≡ run (map naming folders) second = all_done (settling moves folders) disk now becomes ∙ run_settling moves folders disk in
    let at : now m.1 ≡ run (map naming folders) second m.1 = ap (λ (x : Disk). x m.1) is in
    let whole : IsWhole bytes (second m.1) = after_renames moves m (run (map syncing moves) disk) bytes apart has (after_syncs moves m disk bytes has there) in (
      ap (λ (x : At). x.there) at ∙ names_there folders second m.1 ∙ whole,
      ap (λ (x : At). x.older) at ∙ after_names folders (spelled folder) second m.1 (covered m folder has (nearest above)) (ap (λ (x : Option Path). option_map spelled x) above),
    )

pub settling_is_gentle : (disk : Disk) (moves : List Move) (folders : List Path) (calls : List Call) (m : Move) (bytes : Bytes) (left : Option Bytes)
    → AreApart moves → Contains moves m → HasBytes (disk m.0) bytes → Begins (settling moves folders) calls
    → MayLeave disk calls m.1 left → MayBe (disk m.1) left ⊎ (left ≡ Some bytes)
settling_is_gentle disk moves folders calls m bytes left apart has there begins (now, becomes, may) =
    at_each_moment (λ x. x ≡ Some bytes) (settling moves folders) calls disk now m.1 begins
    (settling_fine (λ x. x ≡ Some bytes) moves folders disk m.1
    (renames_fine (λ x. x ≡ Some bytes) moves m (run (map syncing moves) disk) bytes apart has (after_syncs moves m disk bytes has there) refl)) becomes left may

pub settling_spares_others : (disk : Disk) (moves : List Move) (folders : List Path) (calls : List Call) (q : Path) (left : Option Bytes)
    → IsElsewhere q moves → Begins (settling moves folders) calls → MayLeave disk calls q left → MayBe (disk q) left
settling_spares_others disk moves folders calls q left apart begins (now, becomes, may) =
    elim (at_each_moment (λ x. ⊥) (settling moves folders) calls disk now q begins
    (settling_fine (λ x. ⊥) moves folders disk q (elsewhere_fine (λ x. ⊥) moves (run (map syncing moves) disk) q apart)) becomes left may) as (λ _. MayBe (disk q) left) [
      | inl old ↦ old
      | inr never ↦ absurd never
    ]
