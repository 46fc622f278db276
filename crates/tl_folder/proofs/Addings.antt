-- Putting a new file in its place.
use Rattle.std.proofs.Common.{◌≡◌, ◌≢◌, true, false, inl, inr, ◌⊎◌, List, [], ◌∷◌, ◌++◌, Some, refl, sym, ap, subst, ◌∙◌, append_assoc}
use Rattle.std.specs.Prelude.{Bool, Option, Result, Ok, Err, is_ok}
use Rattle.std.specs.Path.{path_parent}
use Rattle.std.proofs.lemmas.List.{append-nil}
use Rattle.tl_device.specs.declared.fault.DeviceFault.{DeviceFault}
use Rattle.tl_folder.specs.Step.{Path, Bytes, Step}
use Rattle.tl_folder.specs.Step as step
use Rattle.tl_folder.specs.FileCalls.{Call, done, Begins, Fails}
use Rattle.tl_folder.specs.Posix.{Disk, MayBe, after, after_failed, Becomes, MayLeave}
use Rattle.tl_folder.specs.Settling.{IsUp, is_itself, making, Asks, AsksUp, asks_none, asks_more, AsksAbove}
use Rattle.tl_folder.specs.Adding.{filling, adding, IsUndone, GivesUp, AreAbove, Stops, Adds, IsAdding}
use Rattle.tl_folder.specs.Inner.Above.{MakesAbove}
use Rattle.tl_folder.specs.Inner.Making.{MakesFolders}
use Rattle.tl_folder.proofs.Asides.{whole_aside}
use Rattle.tl_folder.proofs.Beginnings.{fails_begins}
use Rattle.tl_folder.proofs.Disks.{LeavesOldOr, becomes_parts, at_each_moment, chain}
use Rattle.tl_folder.proofs.Makings.{rebased}

-- ---- the folders above

above_append : (path : Path) (a b : List Call) → AreAbove path a → AreAbove path b → AreAbove path (a ++ b)
above_append path [] b first second = second
above_append path (call ∷ a) b first second = (first.0, above_append path a b first.1 second)

ask_above : (path own folder : Path) (before after : List Call) → path_parent path ≡ Some own → IsUp own folder → AreAbove path before → Asks false folder before after → AreAbove path after
ask_above path own folder before after parent is_up above (inl is) =
    subst (λ (x : List Call). AreAbove path x) (sym is) (above_append path before ((step.MakeFolder folder, true) ∷ []) above ((own, folder, parent, is_up, refl), tt))
ask_above path own folder before after parent is_up above (inr is) =
    subst (λ (x : List Call). AreAbove path x) (sym is) (above_append path before ((step.MakeFolder folder, false) ∷ []) above ((own, folder, parent, is_up, refl), tt))

up_above : (path own : Path) (before : List Call) {after : List Call} → path_parent path ≡ Some own → AreAbove path before → AsksUp false own before after → AreAbove path after
up_above path own before parent above asks_none = above
up_above path own before {after} parent above (asks_more {mid = mid} {folder = folder} up is_up asks) =
    ask_above path own folder mid after parent is_up (up_above path own before parent above up) asks

-- folders above the path were asked for, and no more
some_above : (path own : Path) (before after : List Call) → path_parent path ≡ Some own → AsksUp false own before after → (asked : List Call) × (after ≡ before ++ asked) × AreAbove path asked
some_above path own before after parent up =
    let it = rebased before [] before (sym (append-nil before)) up in
    (it.0, it.1, up_above path own [] parent tt it.2)

asked_above : (path : Path) (before after : List Call) → AsksAbove path before after → (asked : List Call) × (after ≡ before ++ asked) × AreAbove path asked
asked_above path before after (inl (none, is)) = ([], is ∙ sym (append-nil before), tt)
asked_above path before after (inr (own, parent, (mid, up, asks))) = some_above path own before after parent (asks_more up is_itself asks)

fails_above : (path own folder : Path) (made : List Call) → path_parent path ≡ Some own → IsUp own folder → Fails (making false folder) made → AreAbove path made
fails_above path own folder [] parent is_up fails = absurd fails
fails_above path own folder ((asked, true) ∷ []) parent is_up fails = absurd fails.1
fails_above path own folder ((asked, true) ∷ (call ∷ more)) parent is_up fails = absurd fails.1
fails_above path own folder ((asked, false) ∷ more) parent is_up fails =
    ((own, folder, parent, is_up, fails.0), subst (λ (x : List Call). AreAbove path x) (sym fails.1) tt)

-- the folder that the path is in was asked for, or not
pub above_made : {T E : Type 0} (path own : Path) (before after : List Call) (r : Result T E) → path_parent path ≡ Some own → MakesFolders false own before after r → MakesAbove path before after r
above_made path own before after (Ok x) parent asks = inr (own, parent, asks)
above_made path own before after (Err e) parent (mid, up, stops) =
    let it = some_above path own before mid parent up in
    elim stops as (λ _. (asked : List Call) × (after ≡ before ++ asked) × AreAbove path asked) [
      | inl same ↦ (it.0, same ∙ it.1, it.2)
      | inr more ↦ (
        it.0 ++ more.1,
        more.3 ∙ ap (λ (x : List Call). x ++ more.1) it.1 ∙ append_assoc before it.0 more.1,
        above_append path it.0 more.1 it.2 (fails_above path own more.0 more.1 parent more.2 more.4),
      )
    ]

-- ---- all of it

-- the file wasn't written
pub unfilled : (aside place : Path) (bytes : Bytes) (before mid after : List Call) (fault : DeviceFault)
    → AsksAbove place before mid → (made : List Call) × (after ≡ mid ++ made) × GivesUp aside bytes fault made
    → (asked made : List Call) × (after ≡ before ++ (asked ++ made)) × AreAbove place asked × Stops aside place bytes fault made
unfilled aside place bytes before mid after fault asks (made, is, gives) =
    let it = asked_above place before mid asks in
    (it.0, made, is ∙ ap (λ (x : List Call). x ++ made) it.1 ∙ append_assoc before it.0 made, it.2, inr (inl gives))

-- the file was put in its place, or not
pub put_there : {T : Type 0} (aside place : Path) (bytes : Bytes) (before mid filled after : List Call) (r : Result T DeviceFault)
    → AsksAbove place before mid → filled ≡ mid ++ done (filling aside bytes) → after ≡ filled ++ (step.Rename aside place, is_ok r) ∷ [] → Adds aside place bytes before after r
put_there aside place bytes before mid filled after (Ok x) asks is then =
    (mid, asks, then ∙ ap (λ (x : List Call). x ++ (step.Rename aside place, true) ∷ []) is ∙ append_assoc mid (done (filling aside bytes)) ((step.Rename aside place, true) ∷ []))
put_there aside place bytes before mid filled after (Err e) asks is then =
    let it = asked_above place before mid asks in
    let last : List Call = done (filling aside bytes) ++ (step.Rename aside place, false) ∷ [] in (
      it.0,
      last,
      then ∙ ap (λ (x : List Call). x ++ (step.Rename aside place, false) ∷ []) is ∙ append_assoc mid (done (filling aside bytes)) ((step.Rename aside place, false) ∷ [])
          ∙ ap (λ (x : List Call). x ++ last) it.1 ∙ append_assoc before it.0 last,
      it.2,
      inr (inr refl),
    )

-- ---- what a crash leaves

-- calls that only make folders change no path
above_same : (path : Path) (calls : List Call) (disk now : Disk) → AreAbove path calls → Becomes disk calls now → now ≡ disk
above_same path [] disk now above becomes = becomes
above_same path ((asked, true) ∷ more) disk now above becomes =
    above_same path more disk now above.1 (subst (λ (x : Step). Becomes (after x disk) more now) above.0.4 becomes)
above_same path ((asked, false) ∷ more) disk now above (inl not_done) = above_same path more disk now above.1 not_done
above_same path ((asked, false) ∷ more) disk now above (inr (rest, in_part)) =
    above_same path more disk now above.1 (subst (λ (x : Step). Becomes (after_failed x rest disk) more now) above.0.4 in_part)

one_begins : (s : Step) (b : Bool) → Begins (s ∷ []) ((s, b) ∷ [])
one_begins s true = (refl, tt)
one_begins s false = (refl, refl)

undone_leaves : (disk now : Disk) (aside place : Path) (bytes : Bytes) (calls : List Call)
    → place ≢ aside → IsUndone aside bytes calls → Becomes disk calls now → LeavesOldOr (λ x. x ≡ Some bytes) (disk place) (now place)
undone_leaves disk now aside place bytes calls apart (failed, gone, fails, is) becomes =
    let it = becomes_parts failed ((step.Remove aside, gone) ∷ []) disk now (subst (λ (x : List Call). Becomes disk x now) is becomes) in
    chain (λ x. x ≡ Some bytes) (disk place) (it.0 place) (now place)
    (at_each_moment (λ x. x ≡ Some bytes) (filling aside bytes) failed disk it.0 place (fails_begins (filling aside bytes) failed fails) (inl apart, (inl tt, tt)) it.1)
    (at_each_moment (λ x. x ≡ Some bytes) (step.Remove aside ∷ []) ((step.Remove aside, gone) ∷ []) it.0 now place (one_begins (step.Remove aside) gone) (inl apart, tt) it.2)

pub add_is_gentle : (disk : Disk) (aside place : Path) (bytes : Bytes) (calls : List Call) (left : Option Bytes)
    → place ≢ aside → IsAdding aside place bytes calls → MayLeave disk calls place left → MayBe (disk place) left ⊎ (left ≡ Some bytes)
add_is_gentle disk aside place bytes calls left apart (asked, made, is, above, so_far) (now, becomes, may) =
    let it = becomes_parts asked made disk now (subst (λ (x : List Call). Becomes disk x now) is becomes) in
    let rest : Becomes disk made now = subst (λ (x : Disk). Becomes x made now) (above_same place asked disk it.0 above it.1) it.2 in
    elim so_far as (λ _. MayBe (disk place) left ⊎ (left ≡ Some bytes)) [
      | inl begins ↦
          at_each_moment (λ x. x ≡ Some bytes) (adding aside place bytes) made disk now place begins
          (inl apart, (inl tt, (inr (aside, bytes, refl, whole_aside aside bytes disk, refl), tt))) rest left may
      | inr undone ↦ undone_leaves disk now aside place bytes made apart undone rest left may
    ]
