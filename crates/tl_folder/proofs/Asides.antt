-- What staging, and the replacing of a file, leave at each path.
use Rattle.std.proofs.Common.{◌≡◌, ◌≢◌, true, false, inl, inr, ◌⊎◌, List, [], ◌∷◌, ◌++◌, Some, None, refl, sym, ap, subst, ◌∙◌}
use Rattle.std.specs.Prelude.{Option}
use Rattle.std.specs.Path.{path_parent}
use Rattle.tl_folder.specs.Step.{Path, Bytes, Step}
use Rattle.tl_folder.specs.Step as step
use Rattle.tl_folder.specs.FileCalls.{Call, done, Begins}
use Rattle.tl_folder.specs.Posix.{Torn, At, Disk, MayBe, folder_of, or_lost, after, after_failed, Becomes, MayLeave}
use Rattle.tl_folder.specs.Settling.{naming, naming_in, replacing, IsUp, is_itself, Asks, AsksUp, asks_none, asks_more, AsksAbove, IsOwn, IsStaging, IsAside}
use Rattle.tl_folder.specs.Laws.{HasBytes, IsAtRest}
use Rattle.tl_folder.proofs.Disks.{becomes_parts, put_own, put_other, rename_there, IsFine, at_each_moment}
use Rattle.tl_folder.proofs.Settles.{IsWhole, own_synced, named_there, named_own}

-- ---- staging

own_same : (path q : Path) (bytes : Bytes) (s : Step) (disk : Disk) → q ≢ path → IsOwn path bytes s → after s disk q ≡ disk q
own_same path q bytes s disk apart (inl is) =
    subst (λ (x : Step). after x disk q ≡ disk q) (sym is) (put_other path q (record { there = Some (Torn [] bytes); older = or_lost (disk path).there (disk path).older }) disk apart)
own_same path q bytes s disk apart (inr (own, folder, parent, is_up, is)) = subst (λ (x : Step). after x disk q ≡ disk q) (sym is) refl

own_failed : (path q : Path) (bytes rest : Bytes) (s : Step) (disk : Disk) → q ≢ path → IsOwn path bytes s → after_failed s rest disk q ≡ disk q
own_failed path q bytes rest s disk apart (inl is) =
    subst (λ (x : Step). after_failed x rest disk q ≡ disk q) (sym is) (put_other path q (record { there = Some (Torn [] rest); older = or_lost (disk path).there (disk path).older }) disk apart)
own_failed path q bytes rest s disk apart (inr (own, folder, parent, is_up, is)) = subst (λ (x : Step). after_failed x rest disk q ≡ disk q) (sym is) refl

-- staging, whatever its outcome, leaves every other path as it is
pub aside_only : (path q : Path) (bytes : Bytes) (calls : List Call) (disk now : Disk) → q ≢ path → IsAside path bytes calls → Becomes disk calls now → now q ≡ disk q
aside_only path q bytes [] disk now apart aside becomes = ap (λ (x : Disk). x q) becomes
aside_only path q bytes ((asked, true) ∷ more) disk now apart aside becomes =
    aside_only path q bytes more (after asked disk) now apart aside.1 becomes ∙ own_same path q bytes asked disk apart aside.0
aside_only path q bytes ((asked, false) ∷ more) disk now apart aside (inl not_done) = aside_only path q bytes more disk now apart aside.1 not_done
aside_only path q bytes ((asked, false) ∷ more) disk now apart aside (inr (rest, in_part)) =
    aside_only path q bytes more (after_failed asked rest disk) now apart aside.1 in_part ∙ own_failed path q bytes rest asked disk apart aside.0

pub aside_append : (path : Path) (bytes : Bytes) (a b : List Call) → IsAside path bytes a → IsAside path bytes b → IsAside path bytes (a ++ b)
aside_append path bytes [] b first second = second
aside_append path bytes (call ∷ a) b first second = (first.0, aside_append path bytes a b first.1 second)

-- a folder above the path is asked for
ask_aside : (path own folder : Path) (bytes : Bytes) (before after : List Call) → path_parent path ≡ Some own → IsUp own folder
    → IsAside path bytes before → Asks false folder before after → IsAside path bytes after
ask_aside path own folder bytes before after parent is_up aside (inl is) =
    subst (λ (x : List Call). IsAside path bytes x) (sym is) (aside_append path bytes before ((step.MakeFolder folder, true) ∷ []) aside (inr (own, folder, parent, is_up, refl), tt))
ask_aside path own folder bytes before after parent is_up aside (inr is) =
    subst (λ (x : List Call). IsAside path bytes x) (sym is) (aside_append path bytes before ((step.MakeFolder folder, false) ∷ []) aside (inr (own, folder, parent, is_up, refl), tt))

pub up_aside : (path own : Path) (bytes : Bytes) (before : List Call) {after : List Call} → path_parent path ≡ Some own → IsAside path bytes before → AsksUp false own before after → IsAside path bytes after
up_aside path own bytes before parent aside asks_none = aside
up_aside path own bytes before {after} parent aside (asks_more {mid = mid} {folder = folder} up is_up asks) =
    ask_aside path own folder bytes mid after parent is_up (up_aside path own bytes before parent aside up) asks

pub above_aside : (path : Path) (bytes : Bytes) (before after : List Call) → IsAside path bytes before → AsksAbove path before after → IsAside path bytes after
above_aside path bytes before after aside (inl is) = subst (λ (x : List Call). IsAside path bytes x) (sym is.1) aside
above_aside path bytes before after aside (inr (own, parent, (mid, up, asks))) = ask_aside path own own bytes mid after parent is_itself (up_aside path own bytes before parent aside up) asks

pub staging_aside : (path : Path) (bytes : Bytes) (made : List Call) → IsStaging path bytes made → IsAside path bytes made
staging_aside path bytes made (inl is) = subst (λ (x : List Call). IsAside path bytes x) (sym is) (inl refl, tt)
staging_aside path bytes made (inr (mid, above, is)) =
    subst (λ (x : List Call). IsAside path bytes x) (sym is)
    (aside_append path bytes mid ((step.Write path bytes, true) ∷ []) (above_aside path bytes ((step.Write path bytes, false) ∷ []) mid (inl refl, tt) above) (inl refl, tt))

written : (path : Path) (bytes : Bytes) (disk : Disk) → HasBytes (after (step.Write path bytes) disk path) bytes
written path bytes disk = subst (λ (x : At). HasBytes x bytes) (sym (put_own path (record { there = Some (Torn [] bytes); older = or_lost (disk path).there (disk path).older }) disk)) refl

-- the last call wrote the file
last_written : (path : Path) (bytes : Bytes) (mid made : List Call) (disk now : Disk) → made ≡ mid ++ (step.Write path bytes, true) ∷ [] → Becomes disk made now → HasBytes (now path) bytes
last_written path bytes mid made disk now is becomes =
    let it = becomes_parts mid ((step.Write path bytes, true) ∷ []) disk now (subst (λ (x : List Call). Becomes disk x now) is becomes) in
    subst (λ (x : Disk). HasBytes (x path) bytes) (sym it.2) (written path bytes it.0)

pub staged_there : (path : Path) (bytes : Bytes) (made : List Call) (disk now : Disk) → IsStaging path bytes made → Becomes disk made now → HasBytes (now path) bytes
staged_there path bytes made disk now (inl is) becomes = last_written path bytes [] made disk now is becomes
staged_there path bytes made disk now (inr (mid, above, is)) becomes = last_written path bytes mid made disk now is becomes

-- ---- a file that is replaced

pub whole_aside : (aside : Path) (bytes : Bytes) (disk : Disk) → IsWhole bytes (after (step.Sync aside) (after (step.Write aside bytes) disk) aside)
whole_aside aside bytes disk = own_synced aside (after (step.Write aside bytes) disk) bytes (written aside bytes disk)

naming_fine : (New : Option Bytes → Type 0) (folder : Option Path) (disk : Disk) (q : Path) → IsFine New disk (naming_in folder) q
naming_fine New None disk q = tt
naming_fine New (Some folder) disk q = (inl tt, tt)

pub replace_is_gentle : (disk : Disk) (aside path : Path) (bytes : Bytes) (calls : List Call) (left : Option Bytes)
    → path ≢ aside → Begins (replacing aside path bytes) calls → MayLeave disk calls path left → MayBe (disk path) left ⊎ (left ≡ Some bytes)
replace_is_gentle disk aside path bytes calls left apart begins (now, becomes, may) =
    let New : Option Bytes → Type 0 = λ x. x ≡ Some bytes in
    let second : Disk = after (step.Sync aside) (after (step.Write aside bytes) disk) in
    at_each_moment (λ x. x ≡ Some bytes) (replacing aside path bytes) calls disk now path begins
    (inl apart, (inl tt, (inr (aside, bytes, refl, whole_aside aside bytes disk, refl), naming_fine New (folder_of path) (after (step.Rename aside path) second) path)))
    becomes left may

pub named_rests : (path : Path) (folder : Option Path) (disk now : Disk) (bytes : Bytes) (own : Path) → folder ≡ Some own → folder_of path ≡ Some own
    → Becomes disk (done (naming_in folder)) now → IsWhole bytes (disk path) → IsAtRest (now path) bytes
named_rests path None disk now bytes own is in_own becomes whole = absurd (cc)
named_rests path (Some folder) disk now bytes own is in_own becomes whole =
    let at : now path ≡ after (naming folder) disk path = ap (λ (x : Disk). x path) becomes in
    let same : folder ≡ own = cc in
    (ap (λ (x : At). x.there) at ∙ named_there folder disk path ∙ whole, ap (λ (x : At). x.older) at ∙ named_own folder disk path (in_own ∙ ap (λ (x : Path). Some x) (sym same)))

pub replaced_rests : (disk now : Disk) (aside path folder : Path) (bytes : Bytes)
    → path ≢ aside → folder_of path ≡ Some folder → Becomes disk (done (replacing aside path bytes)) now → IsAtRest (now path) bytes
replaced_rests disk now aside path folder bytes apart own becomes =
    let second : Disk = after (step.Sync aside) (after (step.Write aside bytes) disk) in
    named_rests path (folder_of path) (after (step.Rename aside path) second) now bytes folder own own becomes
    (ap (λ (x : At). x.there) (rename_there aside path second) ∙ whole_aside aside bytes disk)
