-- What steps make of one path.
use Rattle.std.proofs.Common.{◌≡◌, ◌≢◌, true, false, inl, inr, ◌⊎◌, List, [], ◌∷◌, ◌++◌, Some, None, refl, sym, ap, subst, ◌∙◌}
use Rattle.std.specs.Prelude.{Bool, Option, option_map, if◌then◌else◌}
use Rattle.std.specs.Str.{bytes_eq}
use Rattle.std.proofs.lemmas.Slice.Eq.{bytes_eq-Decides}
use Rattle.tl_archive.proofs.Lists.{none_has, cons_cases}
use Rattle.tl_folder.specs.Step.{Path, Bytes, Step}
use Rattle.tl_folder.specs.Step as step
use Rattle.tl_folder.specs.FileCalls.{Call, done, Begins}
use Rattle.tl_folder.specs.Posix.{File, Whole, Torn, At, Disk, MayStay, MayBe, put, is_in, folder_of, unknown, synced, spoiled, changed, maybe_gone, moved_in, is_within, after, after_failed, Becomes}
use Rattle.tl_folder.specs.Laws.{LeavesNoMore}

-- ---- one path or another

pub pick : {A : Type 0} (P : A → Type 0) (b : Bool) (x y : A) → (b ≡ true → P x) → P y → P (if b then x else y)
pick P true x y one two = one refl
pick P false x y one two = two

pub put_is : (P : At → Type 0) (p q : Path) (at : At) (disk : Disk) → (q ≡ p → P at) → P (disk q) → P (put p at disk q)
put_is P p q at disk own other = pick P (bytes_eq q p) at (disk q) (λ e. own ((bytes_eq-Decides q p).0 e)) other

pub put_own : (p : Path) (at : At) (disk : Disk) → put p at disk p ≡ at
put_own p at disk = ap (λ (b : Bool). if b then at else disk p) ((bytes_eq-Decides p p).1 refl)

pub put_other : (p q : Path) (at : At) (disk : Disk) → q ≢ p → put p at disk q ≡ disk q
put_other p q at disk apart = put_is (λ a. a ≡ disk q) p q at disk (λ e. absurd (apart e)) refl

-- ---- what leaves no more

stay_synced : (file : Option File) (left : Option Bytes) → MayStay (option_map synced file) left → MayStay file left
stay_synced None left stays = stays
stay_synced (Some (Whole bytes)) left stays = stays
stay_synced (Some (Torn front behind)) left stays = (stays.0, stays.1, (behind, stays.2))

stay_spoiled : (rest : Bytes) (file : Option File) (left : Option Bytes) → MayStay (option_map (spoiled rest) file) left → MayStay file left
stay_spoiled rest None left stays = stays
stay_spoiled rest (Some (Whole bytes)) left stays = stays
stay_spoiled rest (Some (Torn front behind)) left stays = stays

pub may_be_changed : (f : File → File) (at : At) → ((left : Option Bytes) → MayStay (option_map f at.there) left → MayStay at.there left) → LeavesNoMore at (changed f at)
may_be_changed f at there left (inl stays) = inl (there left stays)
may_be_changed f at there left (inr older) = inr older

pub same_leaves : (a b : At) → b ≡ a → LeavesNoMore a b
same_leaves a b is left may = subst (λ (x : At). MayBe x left) is may

none_older : (there : Option File) (older : List (Option File)) → LeavesNoMore (record { there = there; older = older }) (record { there = there; older = [] })
none_older there older left (inl stays) = inl stays
none_older there older left (inr (file, has, stays)) = absurd (none_has file has)

-- ---- what leaves a path as it is, or less uncertain

-- the step changes nothing at the path but what is known of it
abbrev pub Spares : Step → Path → Type 0
Spares (step.Write path bytes) q = q ≢ path
Spares (step.Create path) q = q ≢ path
Spares (step.Append path bytes) q = q ≢ path
Spares (step.Cut path count) q = q ≢ path
Spares (step.Sync path) q = Unit {0}
Spares (step.Remove path) q = q ≢ path
Spares (step.Rename from to) q = (q ≢ from) × (q ≢ to)
Spares (step.SyncFolder folder) q = Unit {0}
Spares (step.MakeFolder folder) q = Unit {0}
Spares (step.MoveAway from to) q = (is_within from q ≡ false) × (is_within to q ≡ false)
Spares (step.RemoveFolder folder) q = is_within folder q ≡ false

moved_other : (from to q : Path) (a b : At) (disk : Disk) → q ≢ from → q ≢ to → put to b (put from a disk) q ≡ disk q
moved_other from to q a b disk not_from not_to = put_other to q b (put from a disk) not_to ∙ put_other from q a disk not_from

third : {A : Type 0} (b c : Bool) (x y z : A) → b ≡ false → c ≡ false → (if b then x else (if c then y else z)) ≡ z
third b c x y z first second = ap (λ (v : Bool). if v then x else (if c then y else z)) first ∙ ap (λ (v : Bool). if v then y else z) second

-- what is in neither of two folders stays when one is moved to the other
pub away_other : (from to q : Path) (disk : Disk) → is_within from q ≡ false → is_within to q ≡ false → after (step.MoveAway from to) disk q ≡ disk q
away_other from to q disk not_from not_to = third (is_within to q) (is_within from q) moved_in (record { there = None; older = [] }) (disk q) not_to not_from

pub away_failed_other : (from to q : Path) (rest : Bytes) (disk : Disk) → is_within from q ≡ false → is_within to q ≡ false → after_failed (step.MoveAway from to) rest disk q ≡ disk q
away_failed_other from to q rest disk not_from not_to = third (is_within to q) (is_within from q) moved_in (maybe_gone (disk q)) (disk q) not_to not_from

pub remove_other : (folder q : Path) (disk : Disk) → is_within folder q ≡ false → after (step.RemoveFolder folder) disk q ≡ disk q
remove_other folder q disk apart = ap (λ (b : Bool). if b then maybe_gone (disk q) else disk q) apart

pub sync_spares : (path : Path) (disk : Disk) (q : Path) → LeavesNoMore (disk q) (after (step.Sync path) disk q)
sync_spares path disk q =
    put_is (λ x. LeavesNoMore (disk q) x) path q (changed synced (disk path)) disk
    (λ e. subst (λ (p : Path). LeavesNoMore (disk q) (changed synced (disk p))) e (may_be_changed synced (disk q) (λ left stays. stay_synced (disk q).there left stays)))
    (λ left may. may)

pub spoil_spares : (path : Path) (rest : Bytes) (disk : Disk) (q : Path) → LeavesNoMore (disk q) (after_failed (step.Sync path) rest disk q)
spoil_spares path rest disk q =
    put_is (λ x. LeavesNoMore (disk q) x) path q (changed (spoiled rest) (disk path)) disk
    (λ e. subst (λ (p : Path). LeavesNoMore (disk q) (changed (spoiled rest) (disk p))) e (may_be_changed (spoiled rest) (disk q) (λ left stays. stay_spoiled rest (disk q).there left stays)))
    (λ left may. may)

pub name_spares : (folder : Path) (disk : Disk) (q : Path) → LeavesNoMore (disk q) (after (step.SyncFolder folder) disk q)
name_spares folder disk q =
    pick (λ (x : At). LeavesNoMore (disk q) x) (is_in folder (folder_of q)) (record { there = (disk q).there; older = [] }) (disk q)
    (λ e. none_older (disk q).there (disk q).older) (λ left may. may)

pub spared : (s : Step) (disk : Disk) (q : Path) → Spares s q → LeavesNoMore (disk q) (after s disk q)
spared (step.Write path bytes) disk q apart = same_leaves _ _ (put_other path q _ disk apart)
spared (step.Create path) disk q apart = same_leaves _ _ (put_other path q _ disk apart)
spared (step.Append path bytes) disk q apart = same_leaves _ _ (put_other path q _ disk apart)
spared (step.Cut path count) disk q apart = same_leaves _ _ (put_other path q _ disk apart)
spared (step.Sync path) disk q apart = sync_spares path disk q
spared (step.Remove path) disk q apart = same_leaves _ _ (put_other path q _ disk apart)
spared (step.Rename from to) disk q apart = same_leaves _ _ (moved_other from to q _ _ disk apart.0 apart.1)
spared (step.SyncFolder folder) disk q apart = name_spares folder disk q
spared (step.MakeFolder folder) disk q apart = λ left may. may
spared (step.MoveAway from to) disk q apart = same_leaves _ _ (away_other from to q disk apart.0 apart.1)
spared (step.RemoveFolder folder) disk q apart = same_leaves _ _ (remove_other folder q disk apart)

pub spared_failed : (s : Step) (rest : Bytes) (disk : Disk) (q : Path) → Spares s q → LeavesNoMore (disk q) (after_failed s rest disk q)
spared_failed (step.Write path bytes) rest disk q apart = spared (step.Write path rest) disk q apart
spared_failed (step.Create path) rest disk q apart = spared (step.Create path) disk q apart
spared_failed (step.Append path bytes) rest disk q apart = spared (step.Append path rest) disk q apart
spared_failed (step.Cut path count) rest disk q apart = spared (step.Cut path count) disk q apart
spared_failed (step.Sync path) rest disk q apart = spoil_spares path rest disk q
spared_failed (step.Remove path) rest disk q apart = spared (step.Remove path) disk q apart
spared_failed (step.Rename from to) rest disk q apart = spared (step.Rename from to) disk q apart
spared_failed (step.SyncFolder folder) rest disk q apart = λ left may. may
spared_failed (step.MakeFolder folder) rest disk q apart = λ left may. may
spared_failed (step.MoveAway from to) rest disk q apart = same_leaves _ _ (away_failed_other from to q rest disk apart.0 apart.1)
spared_failed (step.RemoveFolder folder) rest disk q apart = spared (step.RemoveFolder folder) disk q apart

-- ---- what puts a file in its place

-- the step puts a file there all of whose bytes outlast a crash, and are these
abbrev pub Places : Disk → Step → Path → (Option Bytes → Type 0) → Type 0
Places disk s q New = (from : Path) × (bytes : Bytes) × (s ≡ step.Rename from q) × ((disk from).there ≡ Some (Whole bytes)) × New (Some bytes)

-- a crash leaves what it might have left before, or what is new
abbrev pub LeavesOldOr : (Option Bytes → Type 0) → At → At → Type 0
LeavesOldOr New before now = (left : Option Bytes) → MayBe now left → MayBe before left ⊎ New left

no_more : (New : Option Bytes → Type 0) (before now : At) → LeavesNoMore before now → LeavesOldOr New before now
no_more New before now leaves left may = inl (leaves left may)

moved_here : (New : Option Bytes → Type 0) (from q : Path) (bytes : Bytes) (disk : Disk) → (disk from).there ≡ Some (Whole bytes) → New (Some bytes)
    → LeavesOldOr New (disk q) (record { there = (disk from).there; older = (disk q).there ∷ (disk q).older })
moved_here New from q bytes disk whole new left (inl stays) =
    let it : MayStay (Some (Whole bytes)) left = subst (λ (x : Option File). MayStay x left) whole stays in
    inr (subst New (ap (λ (b : Bytes). Some b) (sym it.2) ∙ sym it.1) new)
moved_here New from q bytes disk whole new left (inr (file, has, stays)) =
    elim (cons_cases (disk q).there (disk q).older file has) as (λ _. MayBe (disk q) left ⊎ New left) [
      | inl first ↦ inl (inl (subst (λ (x : Option File). MayStay x left) (sym first) stays))
      | inr later ↦ inl (inr (file, later, stays))
    ]

pub rename_there : (from to : Path) (disk : Disk) → after (step.Rename from to) disk to ≡ record { there = (disk from).there; older = (disk to).there ∷ (disk to).older }
rename_there from to disk = put_own to (record { there = (disk from).there; older = (disk to).there ∷ (disk to).older }) (put from (record { there = None; older = unknown ∷ (disk from).older }) disk)

pub rename_other : (from to q : Path) (disk : Disk) → q ≢ from → q ≢ to → after (step.Rename from to) disk q ≡ disk q
rename_other from to q disk not_from not_to = moved_other from to q _ _ disk not_from not_to

placed : (New : Option Bytes → Type 0) (s : Step) (disk : Disk) (q : Path) → Places disk s q New → LeavesOldOr New (disk q) (after s disk q)
placed New s disk q (from, bytes, is, whole, new) =
    subst (λ (x : Step). LeavesOldOr New (disk q) (after x disk q)) (sym is)
    (subst (λ (x : At). LeavesOldOr New (disk q) x) (sym (rename_there from q disk)) (moved_here New from q bytes disk whole new))

placed_failed : (New : Option Bytes → Type 0) (s : Step) (rest : Bytes) (disk : Disk) (q : Path) → Places disk s q New → LeavesOldOr New (disk q) (after_failed s rest disk q)
placed_failed New s rest disk q (from, bytes, is, whole, new) =
    subst (λ (x : Step). LeavesOldOr New (disk q) (after_failed x rest disk q)) (sym is)
    (placed New (step.Rename from q) disk q (from, bytes, refl, whole, new))

-- ---- steps one after another

-- the disk after these steps
abbrev pub run : List Step → Disk → Disk
run [] disk = disk
run (s ∷ more) disk = run more (after s disk)

-- each step spares the path, or puts a file there
abbrev pub IsFine : (Option Bytes → Type 0) → Disk → List Step → Path → Type 0
IsFine New disk [] q = Unit {0}
IsFine New disk (s ∷ more) q = (Spares s q ⊎ Places disk s q New) × IsFine New (after s disk) more q

one_step : (New : Option Bytes → Type 0) (s : Step) (disk : Disk) (q : Path) → Spares s q ⊎ Places disk s q New → LeavesOldOr New (disk q) (after s disk q)
one_step New s disk q (inl spares) = no_more New _ _ (spared s disk q spares)
one_step New s disk q (inr places) = placed New s disk q places

one_failed : (New : Option Bytes → Type 0) (s : Step) (rest : Bytes) (disk : Disk) (q : Path) → Spares s q ⊎ Places disk s q New → LeavesOldOr New (disk q) (after_failed s rest disk q)
one_failed New s rest disk q (inl spares) = no_more New _ _ (spared_failed s rest disk q spares)
one_failed New s rest disk q (inr places) = placed_failed New s rest disk q places

pub chain : (New : Option Bytes → Type 0) (a b c : At) → LeavesOldOr New a b → LeavesOldOr New b c → LeavesOldOr New a c
chain New a b c first second left may =
    elim (second left may) as (λ _. MayBe a left ⊎ New left) [
      | inl old ↦ first left old
      | inr new ↦ inr new
    ]

ended : (New : Option Bytes → Type 0) (disk now : Disk) (q : Path) (before : At) (more : List Call) → more ≡ [] → Becomes disk more now → LeavesOldOr New before (disk q) → LeavesOldOr New before (now q)
ended New disk now q before more none becomes leaves =
    let is : now ≡ disk = subst (λ (x : List Call). Becomes disk x now) none becomes in
    subst (λ (x : Disk). LeavesOldOr New before (x q)) (sym is) leaves

-- at each moment of the steps a crash leaves what it might have left before them, or what is new
pub at_each_moment : (New : Option Bytes → Type 0) (steps : List Step) (calls : List Call) (disk now : Disk) (q : Path)
    → Begins steps calls → IsFine New disk steps q → Becomes disk calls now → LeavesOldOr New (disk q) (now q)
at_each_moment New steps [] disk now q begins fine becomes = ended New disk now q (disk q) [] refl becomes (λ left may. inl may)
at_each_moment New [] (call ∷ more) disk now q begins fine becomes = absurd begins
at_each_moment New (s ∷ steps) ((asked, true) ∷ more) disk now q begins fine becomes =
    chain New (disk q) (after s disk q) (now q) (one_step New s disk q fine.0)
    (at_each_moment New steps more (after s disk) now q begins.1 fine.1 (subst (λ (x : Step). Becomes (after x disk) more now) begins.0 becomes))
at_each_moment New (s ∷ steps) ((asked, false) ∷ more) disk now q begins fine (inl not_done) =
    ended New disk now q (disk q) more begins.1 not_done (λ left may. inl may)
at_each_moment New (s ∷ steps) ((asked, false) ∷ more) disk now q begins fine (inr (rest, in_part)) =
    ended New (after_failed asked rest disk) now q (disk q) more begins.1 in_part
    (subst (λ (x : Step). LeavesOldOr New (disk q) (after_failed x rest disk q)) (sym begins.0) (one_failed New s rest disk q fine.0))

pub all_done : (steps : List Step) (disk now : Disk) → Becomes disk (done steps) now → now ≡ run steps disk
all_done [] disk now becomes = becomes
all_done (s ∷ more) disk now becomes = all_done more (after s disk) now becomes

pub done_begins : (steps : List Step) → Begins steps (done steps)
done_begins [] = tt
done_begins (s ∷ more) = (refl, done_begins more)

pub run_append : (a b : List Step) (disk : Disk) → run (a ++ b) disk ≡ run b (run a disk)
run_append [] b disk = refl
run_append (s ∷ a) b disk = run_append a b (after s disk)

pub fine_append : (New : Option Bytes → Type 0) (a b : List Step) (disk : Disk) (q : Path) → IsFine New disk a q → IsFine New (run a disk) b q → IsFine New disk (a ++ b) q
fine_append New [] b disk q fine rest = rest
fine_append New (s ∷ a) b disk q fine rest = (fine.0, fine_append New a b (after s disk) q fine.1 rest)

-- what calls make of a disk: first what the first of them make of it, then what the others do
pub becomes_parts : (a b : List Call) (disk now : Disk) → Becomes disk (a ++ b) now → (mid : Disk) × Becomes disk a mid × Becomes mid b now
becomes_parts [] b disk now becomes = (disk, refl, becomes)
becomes_parts ((asked, true) ∷ a) b disk now becomes = becomes_parts a b (after asked disk) now becomes
becomes_parts ((asked, false) ∷ a) b disk now (inl not_done) =
    let it = becomes_parts a b disk now not_done in
    (it.0, inl it.1, it.2)
becomes_parts ((asked, false) ∷ a) b disk now (inr (rest, in_part)) =
    let it = becomes_parts a b (after_failed asked rest disk) now in_part in
    (it.0, inr (rest, it.1), it.2)
