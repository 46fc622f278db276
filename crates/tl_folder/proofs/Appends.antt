-- What the opening of a file of lines, and what is appended to it, leave there.
use Rattle.std.proofs.Common.{◌≡◌, ℕ, zero, suc, ◌-◌, ◌+◌, ◌≤◌, true, false, inl, inr, List, [], ◌∷◌, ◌++◌, length, take, Some, None, refl, sym, ap, subst, ◌∙◌, arith, append_assoc}
use Rattle.std.specs.Prelude.{Option, option_map}
use Rattle.std.proofs.lemmas.List.{append-nil}
use Rattle.std.proofs.Math.Seq.{take-nil, take-append-add}
use Rattle.tl_folder.specs.Step.{Path, Bytes, Step}
use Rattle.tl_folder.specs.Step as step
use Rattle.tl_folder.specs.FileCalls.{Call, done, Begins}
use Rattle.tl_folder.specs.Posix.{File, Whole, Torn, At, Disk, folder_of, made, or_lost, longer, shorter, synced, changed, after, after_failed, Becomes, MayLeave}
use Rattle.tl_folder.specs.Settling.{naming_in}
use Rattle.tl_folder.specs.Lines.{opening, appending}
use Rattle.tl_folder.specs.Laws.{IsAtRest, LeavesFront, LeavesNoMore, bytes_there}
use Rattle.tl_folder.proofs.Disks.{put_own, sync_spares, spoil_spares, name_spares}
use Rattle.tl_folder.proofs.Asides.{named_rests}

-- ---- after an append that was done

at_appended : (path : Path) (more : Bytes) (disk : Disk) → after (step.Append path more) disk path ≡ changed (longer more) (disk path)
at_appended path more disk = put_own path (changed (longer more) (disk path)) disk

at_synced : (path : Path) (disk : Disk) → after (step.Sync path) disk path ≡ changed synced (disk path)
at_synced path disk = put_own path (changed synced (disk path)) disk

rest_longer : (at : At) (old more : Bytes) → IsAtRest at old → IsAtRest (changed synced (changed (longer more) at)) (old ++ more)
rest_longer at old more rest = (ap (λ (x : Option File). option_map synced (option_map (longer more) x)) rest.0, rest.1)

pub appended_rests : (disk now : Disk) (path : Path) (old more : Bytes)
    → IsAtRest (disk path) old → Becomes disk (done (appending path more)) now → IsAtRest (now path) (old ++ more)
appended_rests disk now path old more rest becomes =
    let first : Disk = after (step.Append path more) disk in
    let at : now path ≡ changed synced (changed (longer more) (disk path)) =
    ap (λ (x : Disk). x path) becomes ∙ at_synced path first ∙ ap (λ (x : At). changed synced x) (at_appended path more disk) in
    subst (λ (x : At). IsAtRest x (old ++ more)) (sym at) (rest_longer (disk path) old more rest)

-- ---- at each moment of an append

stays_longer : (file : Option File) (older : List (Option File)) (front more : Bytes) → LeavesFront (record { there = file; older = older }) front → LeavesFront (record { there = option_map (longer more) file; older = older }) front
stays_longer file older front more leaves left (inr old) = leaves left (inr old)
stays_longer None older front more leaves left (inl stays) = leaves left (inl stays)
stays_longer (Some (Torn kept behind)) older front more leaves left (inl stays) = leaves left (inl stays)
stays_longer (Some (Whole bytes)) older front more leaves left (inl (now, is, (rest, are))) =
    let old : (rest : Bytes) × (Some bytes ≡ Some (front ++ rest)) = leaves (Some bytes) (inl (bytes, refl, refl)) in
    let begins : bytes ≡ front ++ old.0 = cc in
    (old.0 ++ rest, is ∙ ap (λ (x : Bytes). Some x) (are ∙ ap (λ (x : Bytes). x ++ rest) begins ∙ append_assoc front old.0 rest))

append_front : (path : Path) (more front : Bytes) (disk : Disk) → LeavesFront (disk path) front → LeavesFront (after (step.Append path more) disk path) front
append_front path more front disk leaves =
    subst (λ (x : At). LeavesFront x front) (sym (at_appended path more disk)) (stays_longer (disk path).there (disk path).older front more leaves)

no_more_front : (before now : At) (front : Bytes) → LeavesNoMore before now → LeavesFront before front → LeavesFront now front
no_more_front before now front less leaves left may = leaves left (less left may)

sync_front : (path : Path) (front : Bytes) (disk : Disk) → LeavesFront (disk path) front → LeavesFront (after (step.Sync path) disk path) front
sync_front path front disk leaves = no_more_front (disk path) (after (step.Sync path) disk path) front (sync_spares path disk path) leaves

spoil_front : (path : Path) (rest front : Bytes) (disk : Disk) → LeavesFront (disk path) front → LeavesFront (after_failed (step.Sync path) rest disk path) front
spoil_front path rest front disk leaves = no_more_front (disk path) (after_failed (step.Sync path) rest disk path) front (spoil_spares path rest disk path) leaves

-- whatever the outcome of the step, the file there still begins with these bytes
abbrev Keeps : Path → Bytes → Step → Type 0
Keeps path front s = (disk : Disk) → LeavesFront (disk path) front
    → LeavesFront (after s disk path) front × ((rest : Bytes) → LeavesFront (after_failed s rest disk path) front)

-- so it is with each of these steps
abbrev AllKeep : Path → Bytes → List Step → Type 0
AllKeep path front [] = Unit {0}
AllKeep path front (s ∷ more) = Keeps path front s × AllKeep path front more

ended : (disk now : Disk) (path : Path) (front : Bytes) (more : List Call) → more ≡ [] → Becomes disk more now → LeavesFront (disk path) front → LeavesFront (now path) front
ended disk now path front more none becomes leaves =
    let is : now ≡ disk = subst (λ (x : List Call). Becomes disk x now) none becomes in
    subst (λ (x : Disk). LeavesFront (x path) front) (sym is) leaves

front_moments : (path : Path) (front : Bytes) (steps : List Step) (calls : List Call) (disk now : Disk)
    → AllKeep path front steps → Begins steps calls → LeavesFront (disk path) front → Becomes disk calls now → LeavesFront (now path) front
front_moments path front steps [] disk now keep begins leaves becomes = ended disk now path front [] refl becomes leaves
front_moments path front [] (call ∷ more) disk now keep begins leaves becomes = absurd begins
front_moments path front (s ∷ steps) ((asked, true) ∷ more) disk now keep begins leaves becomes =
    front_moments path front steps more (after s disk) now keep.1 begins.1 (keep.0 disk leaves).0 (subst (λ (x : Step). Becomes (after x disk) more now) begins.0 becomes)
front_moments path front (s ∷ steps) ((asked, false) ∷ more) disk now keep begins leaves (inl not_done) = ended disk now path front more begins.1 not_done leaves
front_moments path front (s ∷ steps) ((asked, false) ∷ more) disk now keep begins leaves (inr (rest, in_part)) =
    ended (after_failed s rest disk) now path front more begins.1 (subst (λ (x : Step). Becomes (after_failed x rest disk) more now) begins.0 in_part) ((keep.0 disk leaves).1 rest)

append_keeps : (path : Path) (front bytes : Bytes) → Keeps path front (step.Append path bytes)
append_keeps path front bytes disk leaves = (append_front path bytes front disk leaves, λ rest. append_front path rest front disk leaves)

sync_keeps : (path : Path) (front : Bytes) → Keeps path front (step.Sync path)
sync_keeps path front disk leaves = (sync_front path front disk leaves, λ rest. spoil_front path rest front disk leaves)

pub append_is_gentle : (disk : Disk) (path : Path) (old more : Bytes) (calls : List Call) (left : Option Bytes)
    → LeavesFront (disk path) old → Begins (appending path more) calls → MayLeave disk calls path left → (rest : Bytes) × (left ≡ Some (old ++ rest))
append_is_gentle disk path old more calls left leaves begins (now, becomes, may) =
    front_moments path old (appending path more) calls disk now (append_keeps path old more, (sync_keeps path old, tt)) begins leaves becomes left may

-- ---- after an opening that was done

take_both : (n : ℕ) (xs ys : Bytes) → take n (xs ++ ys) ≡ take n xs ++ take (n - length xs) ys
take_both n [] ys =
    let same : n ≡ n - 0 = omega arith in
    ap (λ (m : ℕ). take m ys) same ∙ ap (λ (x : Bytes). x ++ take (n - 0) ys) (sym (take-nil n))
take_both zero (x ∷ xs) ys =
    let same : 0 ≡ 0 - length (x ∷ xs) = omega arith in
    ap (λ (m : ℕ). take m ys) same
take_both (suc n) (x ∷ xs) ys =
    let same : n - length xs ≡ suc n - length (x ∷ xs) = omega arith in
    ap (λ (t : Bytes). x ∷ t) (take_both n xs ys ∙ ap (λ (m : ℕ). take n xs ++ take m ys) same)

cut_there : (there : Option File) (count : ℕ) → option_map synced (option_map (shorter count) (made there)) ≡ Some (Whole (take count (bytes_there there)))
cut_there None count = ap (λ (x : Bytes). Some (Whole x)) (ap (λ (x : Bytes). x ++ take (count - 0) []) (take-nil count) ∙ take-nil (count - 0) ∙ sym (take-nil count))
cut_there (Some (Whole bytes)) count = ap (λ (x : Bytes). Some (Whole x)) (append-nil (take count bytes))
cut_there (Some (Torn front behind)) count = ap (λ (x : Bytes). Some (Whole x)) (sym (take_both count front behind))

at_created : (path : Path) (disk : Disk) → after (step.Create path) disk path ≡ record { there = made (disk path).there; older = or_lost (disk path).there (disk path).older }
at_created path disk = put_own path (record { there = made (disk path).there; older = or_lost (disk path).there (disk path).older }) disk

at_cut : (path : Path) (count : ℕ) (disk : Disk) → after (step.Cut path count) disk path ≡ changed (shorter count) (disk path)
at_cut path count disk = put_own path (changed (shorter count) (disk path)) disk

pub opened_rests : (disk now : Disk) (path folder : Path) (count : ℕ)
    → folder_of path ≡ Some folder → Becomes disk (done (opening path count)) now → IsAtRest (now path) (take count (bytes_there (disk path).there))
opened_rests disk now path folder count own becomes =
    let first : Disk = after (step.Create path) disk in
    let second : Disk = after (step.Cut path count) first in
    let there : (after (step.Sync path) second path).there ≡ option_map synced (option_map (shorter count) (made (disk path).there)) =
    ap (λ (x : At). x.there) (at_synced path second)
    ∙ ap (λ (x : At). option_map synced x.there) (at_cut path count first)
    ∙ ap (λ (x : At). option_map synced (option_map (shorter count) x.there)) (at_created path disk) in
    named_rests path (folder_of path) (after (step.Sync path) second) now (take count (bytes_there (disk path).there)) folder own own becomes
    (there ∙ cut_there (disk path).there count)

-- ---- at each moment of an opening

stays_created : (file : Option File) (older : List (Option File)) (front : Bytes) → LeavesFront (record { there = file; older = older }) front → LeavesFront (record { there = made file; older = or_lost file older }) front
stays_created None older front leaves = let never : (rest : Bytes) × (None ≡ Some (front ++ rest)) = leaves None (inl refl) in absurd (let e = never.1 in cc)
stays_created (Some file) older front leaves = leaves

create_front : (path : Path) (front : Bytes) (disk : Disk) → LeavesFront (disk path) front → LeavesFront (after (step.Create path) disk path) front
create_front path front disk leaves =
    subst (λ (x : At). LeavesFront x front) (sym (at_created path disk)) (stays_created (disk path).there (disk path).older front leaves)

cut_both : (count : ℕ) (front rest : Bytes) → length front ≤ count → take count (front ++ rest) ≡ front ++ take (count - length front) rest
cut_both count front rest fits =
    let same : count ≡ length front + (count - length front) = omega arith in
    ap (λ (m : ℕ). take m (front ++ rest)) same ∙ take-append-add front rest (count - length front)

-- what is left of a file of which this much is sure
cut_leaves : (kept front : Bytes) (count : ℕ) (left : Option Bytes) → ((rest : Bytes) × (kept ≡ front ++ rest)) → length front ≤ count
    → ((now : Bytes) × (left ≡ Some now) × ((rest : Bytes) × (now ≡ take count kept ++ rest))) → (rest : Bytes) × (left ≡ Some (front ++ rest))
cut_leaves kept front count left (old, begins) fits (now, is, (rest, are)) = (
  take (count - length front) old ++ rest,
  is ∙ ap (λ (x : Bytes). Some x) (are ∙ ap (λ (x : Bytes). take count x ++ rest) begins ∙ ap (λ (x : Bytes). x ++ rest) (cut_both count front old fits) ∙ append_assoc front (take (count - length front) old) rest),
)

some_front : (bytes front rest : Bytes) → Some bytes ≡ Some (front ++ rest) → bytes ≡ front ++ rest
some_front bytes front rest is = cc

stays_shorter : (file : Option File) (older : List (Option File)) (front : Bytes) (count : ℕ) → length front ≤ count
    → LeavesFront (record { there = file; older = older }) front → LeavesFront (record { there = option_map (shorter count) file; older = older }) front
stays_shorter file older front count fits leaves left (inr old) = leaves left (inr old)
stays_shorter None older front count fits leaves left (inl stays) = leaves left (inl stays)
stays_shorter (Some (Whole bytes)) older front count fits leaves left (inl stays) =
    let old : (rest : Bytes) × (Some bytes ≡ Some (front ++ rest)) = leaves (Some bytes) (inl (bytes, refl, refl)) in
    cut_leaves bytes front count left (old.0, some_front bytes front old.0 old.1) fits stays
stays_shorter (Some (Torn kept behind)) older front count fits leaves left (inl stays) =
    let old : (rest : Bytes) × (Some kept ≡ Some (front ++ rest)) = leaves (Some kept) (inl (kept, refl, ([], sym (append-nil kept)))) in
    cut_leaves kept front count left (old.0, some_front kept front old.0 old.1) fits stays

cut_front : (path : Path) (count : ℕ) (front : Bytes) (disk : Disk) → length front ≤ count → LeavesFront (disk path) front → LeavesFront (after (step.Cut path count) disk path) front
cut_front path count front disk fits leaves =
    subst (λ (x : At). LeavesFront x front) (sym (at_cut path count disk)) (stays_shorter (disk path).there (disk path).older front count fits leaves)

name_keeps : (path folder : Path) (front : Bytes) → Keeps path front (step.SyncFolder folder)
name_keeps path folder front disk leaves = (no_more_front (disk path) (after (step.SyncFolder folder) disk path) front (name_spares folder disk path) leaves, λ rest. leaves)

names_keep : (path : Path) (folder : Option Path) (front : Bytes) → AllKeep path front (naming_in folder)
names_keep path None front = tt
names_keep path (Some folder) front = (name_keeps path folder front, tt)

pub open_is_gentle : (disk : Disk) (path : Path) (front : Bytes) (count : ℕ) (calls : List Call) (left : Option Bytes)
    → LeavesFront (disk path) front → length front ≤ count → Begins (opening path count) calls → MayLeave disk calls path left → (rest : Bytes) × (left ≡ Some (front ++ rest))
open_is_gentle disk path front count calls left leaves fits begins (now, becomes, may) =
    front_moments path front (opening path count) calls disk now (
      λ d l. (create_front path front d l, λ rest. create_front path front d l),
      (
        λ d l. (cut_front path count front d fits l, λ rest. cut_front path count front d fits l),
        (sync_keeps path front, names_keep path (folder_of path) front),
      ),
    )
    begins leaves becomes left may
